use Rattle.std.proofs.Common.{sym, subst}
use Rattle.dlk_store.specs.Stores.{tree}
use Rattle.dlk_sequent.specs.Extras.{extra_at}
use Rattle.dlk_match.specs.Rests.{RestIs}
use Rattle.dlk_match.specs.Tried.{HeadIs}
use Rattle.dlk_store.specs.Stores.{kid_trees}
use Rattle.dlk_match.proofs.LeftKids.{rest_is}
use Rattle.dlk_match.proofs.walk.match_roots.Goals as goal

pub returns-clause-matched : goal.returns-clause-matched
returns-clause-matched g c =
    let before = g.S.Store.trees c.args.store.now in
    let now = g.S.Store.trees c.match_node.new.store in
    let key = tree before c.args.key in
    let target = tree before c.args.target in
    let old = extra_at before c.args.extra.now in
    let new = extra_at now c.match_node.new.extra in
    let keys = c.in_ok-op.keys in
    let head = subst (λ ks. HeadIs c.in_ok-op.op (kid_trees before ks) target now old new c.in_ok-head.head) c.as_slice.ensures.value
    c.in_ok-head.ensures.matched in
    subst (RestIs before now key target old new) (sym c.rest_of.ensures)
    (rest_is before now c.in_ok-op.op key target old new keys c.in_ok-op.ensures.tree c.in_ok-op.ensures.known c.in_ok-head.head head)
