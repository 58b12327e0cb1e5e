use Rattle.std.proofs.Common.{subst}
use Rattle.dlk_tree.specs.Trees.{Tree}
use Rattle.dlk_calculus.specs.Pairs.{Extra}
use Rattle.dlk_store.specs.Stores.{tree}
use Rattle.dlk_sequent.specs.Extras.{extra_at}
use Rattle.dlk_match.specs.Matching.{GetsReplacement}
use Rattle.dlk_match.specs.Tried.{Tried}
use Rattle.dlk_match.proofs.LeftKids.{extra_kept}
use Rattle.dlk_match.proofs.members.take_system.Goals as goal

pub returns-clause-matched : goal.returns-clause-matched
returns-clause-matched g c =
    let now = g.S.Store.trees c.system.new.store in
    let s = c.args.s.now in
    let new = extra_at now c.replace.new.extra in
    let is = c.in_ok-replace.field-0 in
    let keeps = g.met.S.Store.grows_keeps c.args.store.now c.system.new.store c.in_ok-system.ensures.grows in
    let old_is = extra_kept keeps c.args.extra.now c.requires.extra in
    let tried = subst (λ (old : Extra). Tried (GetsReplacement s (tree now c.in_ok-system.system)) old new is) old_is c.in_ok-replace.ensures.matched in
    let old = extra_at (g.S.Store.trees c.args.store.now) c.args.extra.now in
    subst (λ (t : Tree). Tried (GetsReplacement s t) old new is) c.in_ok-system.ensures.made.tree_is tried
