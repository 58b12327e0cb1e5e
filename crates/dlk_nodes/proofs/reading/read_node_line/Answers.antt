use Rattle.std.proofs.Common.{◌≡◌, ◌≢◌, Err, refl, sym, ◌∙◌, ap}
use Rattle.std.specs.Prelude.{codes}
use Rattle.std.proofs.lemmas.Bool.{both_ways}
use Rattle.std.proofs.lemmas.Bool.Decides.{Decides-eqb}
use Rattle.std.proofs.lemmas.Result.{err_from_is_err_and}
use Rattle.std.proofs.lemmas.Slice.Eq.{slice_eq-Decides}
use Rattle.dlk_lines.specs.declared.fault.LineFault.TheVariants.{Memory}
use Rattle.dlk_nodes.specs.Lines.{of_node, of_step, done}
use Rattle.dlk_nodes.specs.Tables.{nodes_at}
use Rattle.dlk_nodes.proofs.LineRead.{only_a_node, only_a_step}
use Rattle.dlk_lines.proofs.Refusals.{fault_of_whole}
use Rattle.dlk_nodes.proofs.reading.read_node_line.Goals as goal

pub returns-then-eq-clause-found : goal.returns-then-eq-clause-found
returns-then-eq-clause-found g c =
    let same : c.args.line.now ≡ codes "done" = (slice_eq-Decides Decides-eqb _ _ _ c.eq.ensures).0 c.if-eq.true ∙ c.as_slice.ensures in
    rw same done

pub returns-in_err-number-clause-fault : goal.returns-in_err-number-clause-fault
returns-in_err-number-clause-fault g c =
    let nodes = nodes_at (g.S.Store.trees c.args.store.now) c.args.table.now in
    let e = err_from_is_err_and c.from_residual.result c.from_residual.ensures.1 in
    rw (e.1, e.2, c.in-Some.ensures.found) (fault_of_whole (only_a_node nodes _ c.in-Some.text.now refl) _ c.in_err-number.ensures.fault)

pub returns-in_err-number-2-clause-fault : goal.returns-in_err-number-2-clause-fault
returns-in_err-number-2-clause-fault g c =
    let nodes = nodes_at (g.S.Store.trees c.args.store.now) c.args.table.now in
    let e = err_from_is_err_and c.from_residual-in_err-number-2.result c.from_residual-in_err-number-2.ensures.1 in
    let unlike : c.args.line.now ≢ codes "done" = λ same.
    both_ways c.eq.result c.if-eq.false ((slice_eq-Decides Decides-eqb _ _ _ c.eq.ensures).1 (same ∙ sym c.as_slice.ensures)) in
    rw (e.1, e.2) (fault_of_whole (only_a_step nodes c.args.line.now c.in_default.ensures.none unlike) _ c.in_err-number-2.ensures.fault)

pub returns-in-Some-clause-found : goal.returns-in-Some-clause-found
returns-in-Some-clause-found g c = rw c.in-Some.ensures.found (of_node c.in_ok-number.ensures.found)

pub returns-clause-found : goal.returns-clause-found
returns-clause-found g c = of_step c.in_ok-number-2.ensures.found

pub returns-in_err-number-clause-memory : goal.returns-in_err-number-clause-memory
returns-in_err-number-clause-memory g c =
    let e = err_from_is_err_and c.from_residual.result c.from_residual.ensures.1 in
    rw (e.1, e.2, c.in-Some.ensures.found)
    (λ is text same. let why : c.in_err-number.field-0.0 ≡ Memory = cc is in c.in_err-number.ensures.memory (ap Err why))

pub returns-in_err-number-2-clause-memory : goal.returns-in_err-number-2-clause-memory
returns-in_err-number-2-clause-memory g c = λ is text same. absurd (c.in_default.ensures.none text same)
