use Rattle.std.proofs.lemmas.List.Elements.{All-weaker}
use Rattle.dlk_sequent.specs.Sequents.{IsKnown}
use Rattle.dlk_sequent.proofs.Kept.{IsKnown-kept}
use Rattle.dlk_sequent.proofs.KeptPairs.{IsMadeOver-kept}
use Rattle.dlk_sequent.specs.declared.fault.ApplyFault.TheVariants.{NotAdmissible}
use Rattle.dlk_subst.proofs.Results.{handed_on}
use Rattle.dlk_kernel.proofs.Substituted.{no_goals, whole_row, whole_known}
use Rattle.dlk_kernel.proofs.Looked.{row_looked}
use Rattle.dlk_kernel.proofs.substituting.subst_row.Goals as goal

pub subst_sequents-requires-clause-sigma : goal.subst_sequents-requires-clause-sigma
subst_sequents-requires-clause-sigma g c =
    IsMadeOver-kept (g.met.S.Store.grows_keeps c.args.store.now c.subst_sequent.new.store c.subst_sequent.ensures.grows) c.requires.sigma

pub subst_sequents-requires-clause-known : goal.subst_sequents-requires-clause-known
subst_sequents-requires-clause-known g c =
    let keeps = g.met.S.Store.grows_keeps c.args.store.now c.subst_sequent.new.store c.subst_sequent.ensures.grows in
    rw c.as_slice.ensures (All-weaker (IsKnown _) (IsKnown _) (IsKnown-kept keeps) c.args.row.now.goals c.requires.known.goals)

pub returns-in_err-conclusion-clause-none : goal.returns-in_err-conclusion-clause-none
returns-in_err-conclusion-clause-none g c e q h =
    let failed = handed_on c.subst_sequent.result c.from_residual.result c.in_err-conclusion.field-0.0 NotAdmissible c.in_err-conclusion.was
    c.from_residual.ensures.1 e in
    (rw c.value.ensures at (c.subst_sequent.ensures.none failed)) q.conclusion h.conclusion

pub returns-in_err-goals-clause-none : goal.returns-in_err-goals-clause-none
returns-in_err-goals-clause-none g c e =
    let first = g.met.S.Store.grows_keeps c.args.store.now c.subst_sequent.new.store c.subst_sequent.ensures.grows in
    let failed = handed_on c.subst_sequents.result c.from_residual-in_err-goals.result c.in_err-goals.field-0.0 NotAdmissible c.in_err-goals.was
    c.from_residual-in_err-goals.ensures.1 e in
    no_goals _ _ first c.args.sigma.now.pairs c.requires.sigma.known c.args.row.now c.requires.known
    (rw c.as_slice.ensures at c.subst_sequents.ensures.none failed)

pub returns-clause-made : goal.returns-clause-made
returns-clause-made g c =
    let first = g.met.S.Store.grows_keeps c.args.store.now c.subst_sequent.new.store c.subst_sequent.ensures.grows in
    let then = g.met.S.Store.grows_keeps c.subst_sequent.new.store c.subst_sequents.new.store c.subst_sequents.ensures.grows in
    rw c.in_ok-conclusion-2.ensures
    (whole_row _ _ first c.args.sigma.now.pairs c.requires.sigma.known _ then c.args.row.now _ c.requires.known
    (rw c.value.ensures at c.in_ok-conclusion.ensures.made)
    c.in_ok-conclusion.ensures.known (rw c.as_slice.ensures at c.in_ok-goals.ensures.made) c.in_ok-leaves.ensures)

pub returns-clause-known : goal.returns-clause-known
returns-clause-known g c =
    let first = g.met.S.Store.grows_keeps c.args.store.now c.subst_sequent.new.store c.subst_sequent.ensures.grows in
    let then = g.met.S.Store.grows_keeps c.subst_sequent.new.store c.subst_sequents.new.store c.subst_sequents.ensures.grows in
    rw c.in_ok-conclusion-2.ensures
    (whole_known _ _ _ first then c.args.row.now _ c.requires.known c.in_ok-conclusion.ensures.known c.in_ok-goals.ensures.known c.in_ok-leaves.ensures)

pub returns-in_err-goals-clause-looks : goal.returns-in_err-goals-clause-looks
returns-in_err-goals-clause-looks g c = λ u.
    let first = g.met.S.Store.grows_keeps c.args.store.now c.subst_sequent.new.store c.subst_sequent.ensures.grows in
    row_looked first c.args.sigma.now.pairs c.requires.sigma.known _ _ _ c.args.row.now c.requires.known
    (rw c.value.ensures at (c.subst_sequent.ensures.looks u))
    (rw c.as_slice.ensures at (c.subst_sequents.ensures.looks u))

pub returns-in_err-leaves-clause-looks : goal.returns-in_err-leaves-clause-looks
returns-in_err-leaves-clause-looks g c = λ u.
    let first = g.met.S.Store.grows_keeps c.args.store.now c.subst_sequent.new.store c.subst_sequent.ensures.grows in
    row_looked first c.args.sigma.now.pairs c.requires.sigma.known _ _ _ c.args.row.now c.requires.known
    (rw c.value.ensures at (c.subst_sequent.ensures.looks u))
    (rw c.as_slice.ensures at (c.subst_sequents.ensures.looks u))

pub returns-in_err-conclusion-2-clause-looks : goal.returns-in_err-conclusion-2-clause-looks
returns-in_err-conclusion-2-clause-looks g c = λ u.
    let first = g.met.S.Store.grows_keeps c.args.store.now c.subst_sequent.new.store c.subst_sequent.ensures.grows in
    row_looked first c.args.sigma.now.pairs c.requires.sigma.known _ _ _ c.args.row.now c.requires.known
    (rw c.value.ensures at (c.subst_sequent.ensures.looks u))
    (rw c.as_slice.ensures at (c.subst_sequents.ensures.looks u))

pub returns-clause-looks : goal.returns-clause-looks
returns-clause-looks g c = λ u.
    let first = g.met.S.Store.grows_keeps c.args.store.now c.subst_sequent.new.store c.subst_sequent.ensures.grows in
    row_looked first c.args.sigma.now.pairs c.requires.sigma.known _ _ _ c.args.row.now c.requires.known
    (rw c.value.ensures at (c.subst_sequent.ensures.looks u))
    (rw c.as_slice.ensures at (c.subst_sequents.ensures.looks u))

pub returns-clause-grows : goal.returns-clause-grows
returns-clause-grows g c =
    g.met.S.Store.grows_trans c.args.store.now c.subst_sequent.new.store c.subst_sequents.new.store c.subst_sequent.ensures.grows c.subst_sequents.ensures.grows

pub returns-in_err-goals-clause-grows : goal.returns-in_err-goals-clause-grows
returns-in_err-goals-clause-grows g c =
    g.met.S.Store.grows_trans c.args.store.now c.subst_sequent.new.store c.subst_sequents.new.store c.subst_sequent.ensures.grows c.subst_sequents.ensures.grows

pub returns-in_err-leaves-clause-grows : goal.returns-in_err-leaves-clause-grows
returns-in_err-leaves-clause-grows g c =
    g.met.S.Store.grows_trans c.args.store.now c.subst_sequent.new.store c.subst_sequents.new.store c.subst_sequent.ensures.grows c.subst_sequents.ensures.grows

pub returns-in_err-conclusion-2-clause-grows : goal.returns-in_err-conclusion-2-clause-grows
returns-in_err-conclusion-2-clause-grows g c =
    g.met.S.Store.grows_trans c.args.store.now c.subst_sequent.new.store c.subst_sequents.new.store c.subst_sequent.ensures.grows c.subst_sequents.ensures.grows
