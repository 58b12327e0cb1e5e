use Rattle.std.proofs.Common.{◌≡◌, take, arith}
use Rattle.std.proofs.lemmas.List.{take_all}
use Rattle.dlk_store.specs.declared.Id.{Id}
use Rattle.dlk_sequent.proofs.Kept.{IsId-kept}
use Rattle.dlk_sequent.proofs.KeptPairs.{IsMadeOver-kept}
use Rattle.dlk_sequent.specs.declared.fault.ApplyFault.TheVariants.{NotAdmissible}
use Rattle.dlk_subst.proofs.Results.{handed_on}
use Rattle.dlk_kernel.proofs.Renamed.{one_more_known_id}
use Rattle.dlk_kernel.proofs.Substituted.{no_id, one_more_id}
use Rattle.dlk_kernel.proofs.Looked.{id_looked, ids_stopped}
use Rattle.dlk_kernel.proofs.substituting.subst_ids.Goals as goal

pub apply_of-requires-clause-made : goal.apply_of-requires-clause-made
apply_of-requires-clause-made g c =
    IsMadeOver-kept (g.met.S.Store.grows_keeps c.args.store.now c.loop-id.store c.loop-id.invariant.grows) c.requires.sigma

pub apply_of-requires-clause-known : goal.apply_of-requires-clause-known
apply_of-requires-clause-known g c =
    let keeps = g.met.S.Store.grows_keeps c.args.store.now c.loop-id.store c.loop-id.invariant.grows in
    IsId-kept keeps _ (c.requires.known c.loop-id.id-index (record { 0 = 0 }) c.loop-id-test.true)

pub returns-in_err-substituted-clause-none : goal.returns-in_err-substituted-clause-none
returns-in_err-substituted-clause-none g c e =
    let first = g.met.S.Store.grows_keeps c.args.store.now c.loop-id.store c.loop-id.invariant.grows in
    let failed =
    handed_on c.apply_of.result c.from_residual.result c.in_err-substituted.field-0.0 NotAdmissible c.in_err-substituted.was c.from_residual.ensures.1 e in
    let n = c.loop-id.id-index in
    let d : Id = record { 0 = 0 } in
    no_id _ _ first c.args.sigma.now.pairs c.requires.sigma.known c.args.ids.now n d c.loop-id-test.true (c.requires.known n d c.loop-id-test.true)
    (c.apply_of.ensures.none failed)

pub loop-id-preserved : goal.loop-id-preserved
loop-id-preserved g c =
    let first = g.met.S.Store.grows_keeps c.args.store.now c.loop-id.store c.loop-id.invariant.grows in
    let then = g.met.S.Store.grows_keeps c.loop-id.store c.apply_of.new.store c.apply_of.ensures.grows in
    let n = c.loop-id.id-index in
    let d : Id = record { 0 = 0 } in
    let made = c.in_ok-substituted.ensures.ok in
    record {
      grows = g.met.S.Store.grows_trans c.args.store.now c.loop-id.store c.apply_of.new.store c.loop-id.invariant.grows c.apply_of.ensures.grows;
      known = rw c.in_ok-push.ensures.ok (one_more_known_id _ _ then c.loop-id.made _ c.loop-id.invariant.known made.stands.known);
      looks = λ u. id_looked first c.args.sigma.now.pairs c.requires.sigma.known _ _ _ n c.args.ids.now d c.loop-id-test.true
          (c.requires.known n d c.loop-id-test.true) (c.loop-id.invariant.looks u) (c.apply_of.ensures.cost u);
      made =
          rw c.in_ok-push.ensures.ok
          (one_more_id _ _ first c.args.sigma.now.pairs c.requires.sigma.known _ then c.args.ids.now c.loop-id.made n d _ c.loop-id-test.true
          (c.requires.known n d c.loop-id-test.true) c.loop-id.invariant.known c.loop-id.invariant.made made);
    }

pub returns-in_err-substituted-clause-looks : goal.returns-in_err-substituted-clause-looks
returns-in_err-substituted-clause-looks g c = λ u.
    let first = g.met.S.Store.grows_keeps c.args.store.now c.loop-id.store c.loop-id.invariant.grows in
    let n = c.loop-id.id-index in
    let d : Id = record { 0 = 0 } in
    ids_stopped first c.args.sigma.now.pairs c.requires.sigma.known _ _ _ n c.args.ids.now d c.loop-id-test.true (c.requires.known n d c.loop-id-test.true)
    (c.loop-id.invariant.looks u) (c.apply_of.ensures.cost u)

pub returns-in_err-push-clause-looks : goal.returns-in_err-push-clause-looks
returns-in_err-push-clause-looks g c = λ u.
    let first = g.met.S.Store.grows_keeps c.args.store.now c.loop-id.store c.loop-id.invariant.grows in
    let n = c.loop-id.id-index in
    let d : Id = record { 0 = 0 } in
    ids_stopped first c.args.sigma.now.pairs c.requires.sigma.known _ _ _ n c.args.ids.now d c.loop-id-test.true (c.requires.known n d c.loop-id-test.true)
    (c.loop-id.invariant.looks u) (c.apply_of.ensures.cost u)

pub returns-in_err-substituted-clause-grows : goal.returns-in_err-substituted-clause-grows
returns-in_err-substituted-clause-grows g c =
    g.met.S.Store.grows_trans c.args.store.now c.loop-id.store c.apply_of.new.store c.loop-id.invariant.grows c.apply_of.ensures.grows

pub returns-in_err-push-clause-grows : goal.returns-in_err-push-clause-grows
returns-in_err-push-clause-grows g c =
    g.met.S.Store.grows_trans c.args.store.now c.loop-id.store c.apply_of.new.store c.loop-id.invariant.grows c.apply_of.ensures.grows

pub returns-clause-made : goal.returns-clause-made
returns-clause-made g c =
    let ids = c.args.ids.now in
    let done : take c.loop-id.id-index ids ≡ ids = take_all c.loop-id.id-index ids (omega (arith, c.loop-id-test.false)) in
    rw done at c.loop-id.invariant.made

pub returns-clause-looks : goal.returns-clause-looks
returns-clause-looks g c =
    let ids = c.args.ids.now in
    let done : take c.loop-id.id-index ids ≡ ids = take_all c.loop-id.id-index ids (omega (arith, c.loop-id-test.false)) in
    λ u. rw done at (c.loop-id.invariant.looks u)
