use Rattle.std.proofs.Common.{◌≡◌, take, arith}
use Rattle.std.proofs.lemmas.List.{take_all}
use Rattle.dlk_sequent.proofs.Kept.{IsKnown-kept}
use Rattle.dlk_sequent.proofs.KeptPairs.{IsMadeOver-kept}
use Rattle.dlk_sequent.specs.declared.fault.ApplyFault.TheVariants.{NotAdmissible}
use Rattle.dlk_subst.proofs.Results.{handed_on}
use Rattle.dlk_kernel.proofs.Renamed.{one_more_known}
use Rattle.dlk_kernel.proofs.Substituted.{no_sequent, one_more_sequent}
use Rattle.dlk_kernel.proofs.Looked.{sequent_looked, sequents_stopped}
use Rattle.dlk_kernel.proofs.substituting.subst_sequents.Goals as goal

pub subst_sequent-requires-clause-sigma : goal.subst_sequent-requires-clause-sigma
subst_sequent-requires-clause-sigma g c =
    IsMadeOver-kept (g.met.S.Store.grows_keeps c.args.store.now c.loop-s.store c.loop-s.invariant.grows) c.requires.sigma

pub subst_sequent-requires-clause-known : goal.subst_sequent-requires-clause-known
subst_sequent-requires-clause-known g c =
    let keeps = g.met.S.Store.grows_keeps c.args.store.now c.loop-s.store c.loop-s.invariant.grows in
    rw c.value.ensures (IsKnown-kept keeps _ (rw (← c.s-item.is) at (c.requires.known c.loop-s.s-index c.s-item.result c.loop-s-test.true)))

pub returns-in_err-substituted-clause-none : goal.returns-in_err-substituted-clause-none
returns-in_err-substituted-clause-none g c e =
    let first = g.met.S.Store.grows_keeps c.args.store.now c.loop-s.store c.loop-s.invariant.grows in
    let failed = handed_on c.subst_sequent.result c.from_residual.result c.in_err-substituted.field-0.0 NotAdmissible c.in_err-substituted.was
    c.from_residual.ensures.1 e in
    let n = c.loop-s.s-index in
    no_sequent _ _ first c.args.sigma.now.pairs c.requires.sigma.known c.args.all.now n c.s-item.result c.loop-s-test.true
    (c.requires.known n c.s-item.result c.loop-s-test.true) (rw (c.value.ensures, c.s-item.is) at c.subst_sequent.ensures.none failed)

pub loop-s-preserved : goal.loop-s-preserved
loop-s-preserved g c =
    let first = g.met.S.Store.grows_keeps c.args.store.now c.loop-s.store c.loop-s.invariant.grows in
    let then = g.met.S.Store.grows_keeps c.loop-s.store c.subst_sequent.new.store c.subst_sequent.ensures.grows in
    let n = c.loop-s.s-index in
    let made = rw (c.value.ensures, c.s-item.is) at c.in_ok-substituted.ensures.made in
    record {
      grows = g.met.S.Store.grows_trans c.args.store.now c.loop-s.store c.subst_sequent.new.store c.loop-s.invariant.grows c.subst_sequent.ensures.grows;
      known =
          rw (c.in_ok-made.ensures, c.in_ok-substituted-2.ensures)
          (one_more_known _ _ then c.loop-s.made _ c.loop-s.invariant.known c.in_ok-substituted.ensures.known);
      looks = λ u. sequent_looked first c.args.sigma.now.pairs c.requires.sigma.known _ _ _ n c.args.all.now c.s-item.result c.loop-s-test.true
          (c.requires.known n c.s-item.result c.loop-s-test.true) (c.loop-s.invariant.looks u)
          (rw (c.value.ensures, c.s-item.is) at (c.subst_sequent.ensures.looks u));
      made =
          rw (c.in_ok-made.ensures, c.in_ok-substituted-2.ensures)
          (one_more_sequent _ _ first c.args.sigma.now.pairs c.requires.sigma.known _ then c.args.all.now c.loop-s.made n c.s-item.result _
          c.loop-s-test.true (c.requires.known n c.s-item.result c.loop-s-test.true) c.loop-s.invariant.known c.loop-s.invariant.made made);
    }

pub returns-in_err-substituted-clause-looks : goal.returns-in_err-substituted-clause-looks
returns-in_err-substituted-clause-looks g c = λ u.
    let first = g.met.S.Store.grows_keeps c.args.store.now c.loop-s.store c.loop-s.invariant.grows in
    let n = c.loop-s.s-index in
    sequents_stopped first c.args.sigma.now.pairs c.requires.sigma.known _ _ _ n c.args.all.now c.s-item.result c.loop-s-test.true
    (c.requires.known n c.s-item.result c.loop-s-test.true) (c.loop-s.invariant.looks u)
    (rw (c.value.ensures, c.s-item.is) at (c.subst_sequent.ensures.looks u))

pub returns-in_err-made-clause-looks : goal.returns-in_err-made-clause-looks
returns-in_err-made-clause-looks g c = λ u.
    let first = g.met.S.Store.grows_keeps c.args.store.now c.loop-s.store c.loop-s.invariant.grows in
    let n = c.loop-s.s-index in
    sequents_stopped first c.args.sigma.now.pairs c.requires.sigma.known _ _ _ n c.args.all.now c.s-item.result c.loop-s-test.true
    (c.requires.known n c.s-item.result c.loop-s-test.true) (c.loop-s.invariant.looks u)
    (rw (c.value.ensures, c.s-item.is) at (c.subst_sequent.ensures.looks u))

pub returns-in_err-substituted-2-clause-looks : goal.returns-in_err-substituted-2-clause-looks
returns-in_err-substituted-2-clause-looks g c = λ u.
    let first = g.met.S.Store.grows_keeps c.args.store.now c.loop-s.store c.loop-s.invariant.grows in
    let n = c.loop-s.s-index in
    sequents_stopped first c.args.sigma.now.pairs c.requires.sigma.known _ _ _ n c.args.all.now c.s-item.result c.loop-s-test.true
    (c.requires.known n c.s-item.result c.loop-s-test.true) (c.loop-s.invariant.looks u)
    (rw (c.value.ensures, c.s-item.is) at (c.subst_sequent.ensures.looks u))

pub returns-in_err-made-clause-grows : goal.returns-in_err-made-clause-grows
returns-in_err-made-clause-grows g c =
    g.met.S.Store.grows_trans c.args.store.now c.loop-s.store c.subst_sequent.new.store c.loop-s.invariant.grows c.subst_sequent.ensures.grows

pub returns-in_err-substituted-clause-grows : goal.returns-in_err-substituted-clause-grows
returns-in_err-substituted-clause-grows g c =
    g.met.S.Store.grows_trans c.args.store.now c.loop-s.store c.subst_sequent.new.store c.loop-s.invariant.grows c.subst_sequent.ensures.grows

pub returns-in_err-substituted-2-clause-grows : goal.returns-in_err-substituted-2-clause-grows
returns-in_err-substituted-2-clause-grows g c =
    g.met.S.Store.grows_trans c.args.store.now c.loop-s.store c.subst_sequent.new.store c.loop-s.invariant.grows c.subst_sequent.ensures.grows

pub returns-clause-made : goal.returns-clause-made
returns-clause-made g c =
    let all = c.args.all.now in
    let done : take c.loop-s.s-index all ≡ all = take_all c.loop-s.s-index all (omega (arith, c.loop-s-test.false)) in
    rw done at c.loop-s.invariant.made

pub returns-clause-looks : goal.returns-clause-looks
returns-clause-looks g c =
    let all = c.args.all.now in
    let done : take c.loop-s.s-index all ≡ all = take_all c.loop-s.s-index all (omega (arith, c.loop-s-test.false)) in
    λ u. rw done at (c.loop-s.invariant.looks u)
