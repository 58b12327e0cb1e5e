use Rattle.std.proofs.lemmas.List.{take_all}
use Rattle.std.proofs.Common.{◌≡◌, take, arith}
use Rattle.dlk_sequent.proofs.Kept.{IsKnown-kept}
use Rattle.dlk_kernel.proofs.Renamed.{one_more_sequent, one_more_known}
use Rattle.dlk_kernel.proofs.renaming.swap_sequents.Goals as goal

pub swap_sequent-requires : goal.swap_sequent-requires
swap_sequent-requires g c =
    let keeps = g.met.S.Store.grows_keeps c.args.store.now c.loop-s.store c.loop-s.invariant.grows in
    rw c.value.ensures (IsKnown-kept keeps _ (rw (← c.s-item.is) at (c.requires c.loop-s.s-index c.s-item.result c.loop-s-test.true)))

pub loop-s-preserved : goal.loop-s-preserved
loop-s-preserved g c =
    let first = g.met.S.Store.grows_keeps c.args.store.now c.loop-s.store c.loop-s.invariant.grows in
    let then = g.met.S.Store.grows_keeps c.loop-s.store c.swap_sequent.new.store c.swap_sequent.ensures.grows in
    let n = c.loop-s.s-index in
    let made = rw (c.value.ensures, c.s-item.is) at c.in_ok-swapped.ensures.made in
    record {
      grows = g.met.S.Store.grows_trans c.args.store.now c.loop-s.store c.swap_sequent.new.store c.loop-s.invariant.grows c.swap_sequent.ensures.grows;
      known =
          rw (c.in_ok-made.ensures, c.in_ok-swapped-2.ensures)
          (one_more_known _ _ then c.loop-s.made _ c.loop-s.invariant.known c.in_ok-swapped.ensures.known);
      made =
          rw (c.in_ok-made.ensures, c.in_ok-swapped-2.ensures)
          (one_more_sequent _ _ _ first then c.args.x.now c.args.y.now c.args.all.now c.loop-s.made n c.s-item.result _ c.loop-s-test.true
          (c.requires n c.s-item.result c.loop-s-test.true) c.loop-s.invariant.known c.loop-s.invariant.made made);
    }

pub returns-in_err-swapped-clause-grows : goal.returns-in_err-swapped-clause-grows
returns-in_err-swapped-clause-grows g c =
    g.met.S.Store.grows_trans c.args.store.now c.loop-s.store c.swap_sequent.new.store c.loop-s.invariant.grows c.swap_sequent.ensures.grows

pub returns-in_err-swapped-2-clause-grows : goal.returns-in_err-swapped-2-clause-grows
returns-in_err-swapped-2-clause-grows g c =
    g.met.S.Store.grows_trans c.args.store.now c.loop-s.store c.swap_sequent.new.store c.loop-s.invariant.grows c.swap_sequent.ensures.grows

pub returns-in_err-made-clause-grows : goal.returns-in_err-made-clause-grows
returns-in_err-made-clause-grows g c =
    g.met.S.Store.grows_trans c.args.store.now c.loop-s.store c.swap_sequent.new.store c.loop-s.invariant.grows c.swap_sequent.ensures.grows

pub returns-clause-made : goal.returns-clause-made
returns-clause-made g c =
    let all = c.args.all.now in
    let done : take c.loop-s.s-index all ≡ all = take_all c.loop-s.s-index all (omega (arith, c.loop-s-test.false)) in
    rw done at c.loop-s.invariant.made
