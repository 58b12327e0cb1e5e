use Rattle.std.proofs.Common.{◌≡◌, ◌≢◌, sym, ◌∙◌}
use Rattle.std.specs.Prelude.{codes}
use Rattle.std.proofs.lemmas.Result.{err_from_is_err_and}
use Rattle.std.proofs.lemmas.Slice.Eq.{slice_eq-Decides}
use Rattle.std.proofs.lemmas.Bool.{both_ways}
use Rattle.std.proofs.lemmas.Bool.Decides.{Decides-eqb}
use Rattle.dlk_lines.proofs.Refusals.{fault_of_whole}
use Rattle.dlk_termtext.specs.Lines.{of_step, done}
use Rattle.dlk_termtext.proofs.LineLaws.{no_line}
use Rattle.dlk_termtext.proofs.reading.read_line.Goals as goal

pub returns-then-eq-clause-found : goal.returns-then-eq-clause-found
returns-then-eq-clause-found g c =
    let same : c.args.line.now ≡ codes "done" = (slice_eq-Decides Decides-eqb _ _ _ c.eq.ensures).0 c.if-eq.true ∙ c.as_slice.ensures in
    rw same done

pub returns-in_err-number-clause-fault : goal.returns-in_err-number-clause-fault
returns-in_err-number-clause-fault g c =
    let p = err_from_is_err_and c.from_residual.result c.from_residual.ensures.1 in
    let other : c.args.line.now ≢ codes "done" =
    λ e. both_ways c.eq.result c.if-eq.false ((slice_eq-Decides Decides-eqb _ _ _ c.eq.ensures).1 (e ∙ sym c.as_slice.ensures)) in
    rw (p.1, p.2) (fault_of_whole (no_line c.args.line.now other) _ c.in_err-number.ensures.fault)

pub returns-clause-found : goal.returns-clause-found
returns-clause-found g c = of_step c.in_ok-number.ensures.found
