use Rattle.dlk_sequent.proofs.Kept.{IsId-kept}
use Rattle.dlk_store.specs.Stores.{IsId}
use Rattle.std.proofs.lemmas.List.Elements.{All-weaker}
use Rattle.dlk_kernel.proofs.Renamed.{both_sides}
use Rattle.dlk_kernel.proofs.renaming.swap_sequent.Goals as goal

pub returns-clause-made : goal.returns-clause-made
returns-clause-made g c =
    let first = g.met.S.Store.grows_keeps c.args.store.now c.swap_ids.new.store c.swap_ids.ensures.grows in
    let then = g.met.S.Store.grows_keeps c.swap_ids.new.store c.swap_ids-2.new.store c.swap_ids-2.ensures.grows in
    both_sides _ _ _ first then c.args.x.now c.args.y.now c.args.s.now _ c.requires (rw c.as_slice.ensures at c.in_ok-ante.ensures.made)
    c.in_ok-ante.ensures.known (rw c.as_slice-2.ensures at c.in_ok-succ.ensures.made)

pub swap_ids-requires-2 : goal.swap_ids-requires-2
swap_ids-requires-2 g c =
    let keeps = g.met.S.Store.grows_keeps c.args.store.now c.swap_ids.new.store c.swap_ids.ensures.grows in
    rw c.as_slice-2.ensures (All-weaker (IsId _) (IsId _) (IsId-kept keeps) c.args.s.now.succ c.requires.succ)

pub returns-in_err-succ-clause-grows : goal.returns-in_err-succ-clause-grows
returns-in_err-succ-clause-grows g c =
    g.met.S.Store.grows_trans c.args.store.now c.swap_ids.new.store c.swap_ids-2.new.store c.swap_ids.ensures.grows c.swap_ids-2.ensures.grows

pub returns-clause-known : goal.returns-clause-known
returns-clause-known g c =
    let then = g.met.S.Store.grows_keeps c.swap_ids.new.store c.swap_ids-2.new.store c.swap_ids-2.ensures.grows in
    record { ante = All-weaker (IsId _) (IsId _) (IsId-kept then) _ c.in_ok-ante.ensures.known; succ = c.in_ok-succ.ensures.known }

pub returns-clause-grows : goal.returns-clause-grows
returns-clause-grows g c =
    g.met.S.Store.grows_trans c.args.store.now c.swap_ids.new.store c.swap_ids-2.new.store c.swap_ids.ensures.grows c.swap_ids-2.ensures.grows
