use Rattle.std.proofs.Common.{◌≡◌, Err, refl, ap}
use Rattle.std.proofs.lemmas.Result.{err_from_is_err_and}
use Rattle.dlk_lines.specs.declared.fault.LineFault.TheVariants.{Memory}
use Rattle.dlk_lines.proofs.StepForms.{names_cut, names_are, no_first_name, no_second_name}
use Rattle.dlk_lines.proofs.Refusals.{fault_of_whole}
use Rattle.dlk_lines.proofs.Numbers.{one_number_then}
use Rattle.dlk_lines.proofs.step.read_rename.Goals as goal

pub returns-in_default-clause-fault : goal.returns-in_default-clause-fault
returns-in_default-clause-fault c = λ fact x y is. c.in_default.ensures.none fact is.behind_fact is.fact_is

pub returns-in_default-cut_at-clause-fault : goal.returns-in_default-cut_at-clause-fault
returns-in_default-cut_at-clause-fault c = λ fact x y is.
    let first = one_number_then c.args.text.now 32 _ fact _ is.behind_fact refl c.in-Some.ensures.found is.fact_is in
    c.in_default-cut_at.ensures.none x y (rw first.1 (names_cut c.args.text.now fact x y is).text_is)

pub returns-in_err-x-clause-fault : goal.returns-in_err-x-clause-fault
returns-in_err-x-clause-fault c =
    let e = err_from_is_err_and c.from_residual.result c.from_residual.ensures.1 in
    rw (e.1, e.2) (fault_of_whole (no_first_name c.args.text.now _ _ _ _ c.in-Some.ensures.found c.in-Some-cut_at.ensures.found) _ c.in_err-x.ensures.fault)

pub returns-in_err-y-clause-fault : goal.returns-in_err-y-clause-fault
returns-in_err-y-clause-fault c =
    let e = err_from_is_err_and c.from_residual-in_err-y.result c.from_residual-in_err-y.ensures.1 in
    rw (e.1, e.2) (fault_of_whole (no_second_name c.args.text.now _ _ _ _ c.in-Some.ensures.found c.in-Some-cut_at.ensures.found) _ c.in_err-y.ensures.fault)

pub returns-clause-found : goal.returns-clause-found
returns-clause-found c =
    rw (c.in_ok-x.ensures.found, c.in_ok-y.ensures.found)
    (names_are c.args.text.now _ _ _ _ c.in-Some.ensures.found c.in-Some-cut_at.ensures.found c.in_ok-x.ensures.real c.in_ok-y.ensures.real)

pub returns-in_err-x-clause-memory : goal.returns-in_err-x-clause-memory
returns-in_err-x-clause-memory c =
    let e = err_from_is_err_and c.from_residual.result c.from_residual.ensures.1 in
    rw (e.1, e.2) (λ is. let why : c.in_err-x.field-0.0 ≡ Memory = cc is in record {
      fact = c.in-Some.fact;
      names = c.in-Some.names.now;
      x = c.in-Some-cut_at.x.now;
      y = c.in-Some-cut_at.y.now;
      fact_is = c.in-Some.ensures.found;
      names_are = c.in-Some-cut_at.ensures.found;
      first_name = c.in_err-x.ensures.memory (ap Err why);
    })

pub returns-in_err-y-clause-memory : goal.returns-in_err-y-clause-memory
returns-in_err-y-clause-memory c = λ is.
    record {
      fact = c.in-Some.fact;
      names = c.in-Some.names.now;
      x = c.in-Some-cut_at.x.now;
      y = c.in-Some-cut_at.y.now;
      fact_is = c.in-Some.ensures.found;
      names_are = c.in-Some-cut_at.ensures.found;
      first_name = c.in_ok-x.ensures.real;
    }
