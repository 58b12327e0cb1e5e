use Rattle.std.proofs.lemmas.List.Elements.{All-weaker}
use Rattle.dlk_store.specs.Stores.{IsId}
use Rattle.dlk_sequent.proofs.Kept.{IsId-kept}
use Rattle.dlk_sequent.proofs.KeptPairs.{IsMadeOver-kept}
use Rattle.dlk_sequent.specs.declared.fault.ApplyFault.TheVariants.{NotAdmissible}
use Rattle.dlk_subst.proofs.Results.{handed_on}
use Rattle.dlk_kernel.proofs.Substituted.{no_succ, both_sides}
use Rattle.dlk_kernel.proofs.Looked.{both_looked}
use Rattle.dlk_kernel.proofs.substituting.subst_sequent.Goals as goal

pub subst_ids-requires-2-clause-sigma : goal.subst_ids-requires-2-clause-sigma
subst_ids-requires-2-clause-sigma g c =
    IsMadeOver-kept (g.met.S.Store.grows_keeps c.args.store.now c.subst_ids.new.store c.subst_ids.ensures.grows) c.requires.sigma

pub returns-in_err-ante-clause-none : goal.returns-in_err-ante-clause-none
returns-in_err-ante-clause-none g c e t h =
    let failed = handed_on c.subst_ids.result c.from_residual.result c.in_err-ante.field-0.0 NotAdmissible c.in_err-ante.was c.from_residual.ensures.1 e in
    (rw c.as_slice.ensures at c.subst_ids.ensures.none failed) t.ante h.0

pub returns-in_err-succ-clause-none : goal.returns-in_err-succ-clause-none
returns-in_err-succ-clause-none g c e =
    let first = g.met.S.Store.grows_keeps c.args.store.now c.subst_ids.new.store c.subst_ids.ensures.grows in
    let failed = handed_on c.subst_ids-2.result c.from_residual-in_err-succ.result c.in_err-succ.field-0.0 NotAdmissible c.in_err-succ.was
    c.from_residual-in_err-succ.ensures.1 e in
    no_succ _ _ first c.args.sigma.now.pairs c.requires.sigma.known c.args.s.now c.requires.known (rw c.as_slice-2.ensures at c.subst_ids-2.ensures.none failed)

pub returns-clause-made : goal.returns-clause-made
returns-clause-made g c =
    let first = g.met.S.Store.grows_keeps c.args.store.now c.subst_ids.new.store c.subst_ids.ensures.grows in
    let then = g.met.S.Store.grows_keeps c.subst_ids.new.store c.subst_ids-2.new.store c.subst_ids-2.ensures.grows in
    both_sides _ _ first c.args.sigma.now.pairs c.requires.sigma.known _ then c.args.s.now _ c.requires.known
    (rw c.as_slice.ensures at c.in_ok-ante.ensures.made) c.in_ok-ante.ensures.known (rw c.as_slice-2.ensures at c.in_ok-succ.ensures.made)

pub returns-in_err-succ-clause-looks : goal.returns-in_err-succ-clause-looks
returns-in_err-succ-clause-looks g c = λ u.
    let first = g.met.S.Store.grows_keeps c.args.store.now c.subst_ids.new.store c.subst_ids.ensures.grows in
    both_looked first c.args.sigma.now.pairs c.requires.sigma.known _ _ _ c.args.s.now c.requires.known (rw c.as_slice.ensures at (c.subst_ids.ensures.looks u))
    (rw c.as_slice-2.ensures at (c.subst_ids-2.ensures.looks u))

pub returns-clause-looks : goal.returns-clause-looks
returns-clause-looks g c = λ u.
    let first = g.met.S.Store.grows_keeps c.args.store.now c.subst_ids.new.store c.subst_ids.ensures.grows in
    both_looked first c.args.sigma.now.pairs c.requires.sigma.known _ _ _ c.args.s.now c.requires.known (rw c.as_slice.ensures at (c.subst_ids.ensures.looks u))
    (rw c.as_slice-2.ensures at (c.subst_ids-2.ensures.looks u))

pub returns-in_err-succ-clause-grows : goal.returns-in_err-succ-clause-grows
returns-in_err-succ-clause-grows g c =
    g.met.S.Store.grows_trans c.args.store.now c.subst_ids.new.store c.subst_ids-2.new.store c.subst_ids.ensures.grows c.subst_ids-2.ensures.grows

pub returns-clause-grows : goal.returns-clause-grows
returns-clause-grows g c =
    g.met.S.Store.grows_trans c.args.store.now c.subst_ids.new.store c.subst_ids-2.new.store c.subst_ids.ensures.grows c.subst_ids-2.ensures.grows

pub returns-clause-known : goal.returns-clause-known
returns-clause-known g c =
    let then = g.met.S.Store.grows_keeps c.subst_ids.new.store c.subst_ids-2.new.store c.subst_ids-2.ensures.grows in
    record { ante = All-weaker (IsId _) (IsId _) (IsId-kept then) _ c.in_ok-ante.ensures.known; succ = c.in_ok-succ.ensures.known }

pub subst_ids-requires-2-clause-known : goal.subst_ids-requires-2-clause-known
subst_ids-requires-2-clause-known g c =
    let keeps = g.met.S.Store.grows_keeps c.args.store.now c.subst_ids.new.store c.subst_ids.ensures.grows in
    rw c.as_slice-2.ensures (All-weaker (IsId _) (IsId _) (IsId-kept keeps) c.args.s.now.succ c.requires.known.succ)
