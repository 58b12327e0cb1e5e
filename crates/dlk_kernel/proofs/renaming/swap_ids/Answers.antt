use Rattle.std.proofs.lemmas.List.{take_all}
use Rattle.std.proofs.Common.{◌≡◌, take, arith}
use Rattle.dlk_kernel.proofs.Renamed.{one_more_id, one_more_known_id}
use Rattle.dlk_store.specs.declared.Id.{Id}
use Rattle.dlk_sequent.proofs.Kept.{IsId-kept}
use Rattle.dlk_kernel.proofs.renaming.swap_ids.Goals as goal

pub swap-requires : goal.swap-requires
swap-requires g c =
    let keeps = g.met.S.Store.grows_keeps c.args.store.now c.loop-id.store c.loop-id.invariant.grows in
    IsId-kept keeps _ (c.requires c.loop-id.id-index (record { 0 = 0 }) c.loop-id-test.true)

pub loop-id-preserved : goal.loop-id-preserved
loop-id-preserved g c =
    let first = g.met.S.Store.grows_keeps c.args.store.now c.loop-id.store c.loop-id.invariant.grows in
    let then = g.met.S.Store.grows_keeps c.loop-id.store c.swap.new.store c.swap.ensures.grows in
    let n = c.loop-id.id-index in
    let d : Id = record { 0 = 0 } in
    let made = c.in_ok-swapped.ensures.made in
    record {
      grows = g.met.S.Store.grows_trans c.args.store.now c.loop-id.store c.swap.new.store c.loop-id.invariant.grows c.swap.ensures.grows;
      known = rw c.in_ok-push.ensures.ok (one_more_known_id _ _ then c.loop-id.made _ c.loop-id.invariant.known made.known);
      made =
          rw c.in_ok-push.ensures.ok
          (one_more_id _ _ _ first then c.args.x.now c.args.y.now c.args.ids.now c.loop-id.made n d _ c.loop-id-test.true
          (c.requires n d c.loop-id-test.true) c.loop-id.invariant.known c.loop-id.invariant.made made);
    }

pub returns-in_err-swapped-clause-grows : goal.returns-in_err-swapped-clause-grows
returns-in_err-swapped-clause-grows g c =
    g.met.S.Store.grows_trans c.args.store.now c.loop-id.store c.swap.new.store c.loop-id.invariant.grows c.swap.ensures.grows

pub returns-in_err-push-clause-grows : goal.returns-in_err-push-clause-grows
returns-in_err-push-clause-grows g c =
    g.met.S.Store.grows_trans c.args.store.now c.loop-id.store c.swap.new.store c.loop-id.invariant.grows c.swap.ensures.grows

pub returns-clause-made : goal.returns-clause-made
returns-clause-made g c =
    let all = c.args.ids.now in
    let done : take c.loop-id.id-index all ≡ all = take_all c.loop-id.id-index all (omega (arith, c.loop-id-test.false)) in
    rw done at c.loop-id.invariant.made
