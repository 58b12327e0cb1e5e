use Rattle.std.proofs.Common.{ap, sym, ◌∙◌}
use Rattle.dlk_tree.specs.Trees.{sort}
use Rattle.dlk_calculus.specs.Paths.{put_at}
use Rattle.dlk_sequent.specs.Spines.{path_of}
use Rattle.dlk_elab.proofs.FinishPlans.{known_on, stands_on, stands_as}
use Rattle.dlk_elab.proofs.finishing.with_sides.Goals as goal

pub put-requires-clause-sort : goal.put-requires-clause-sort
put-requires-clause-sort g c = c.requires.first ∙ sym c.requires.found

pub put-requires-2-clause-spine : goal.put-requires-2-clause-spine
put-requires-2-clause-spine g c =
    let a = c.args.store.now in let b = c.put.new.store in
    c.spine_stays.ensures.spine (g.S.Store.trees a) (g.S.Store.trees b) c.args.inner.now (g.met.S.Store.grows_keeps a b c.put.ensures.grows) c.requires.spine

pub put-requires-2-clause-new : goal.put-requires-2-clause-new
put-requires-2-clause-new g c =
    known_on (g.met.S.Store.grows_keeps c.args.store.now c.put.new.store c.put.ensures.grows) c.args.sides.right c.requires.right

pub put-requires-2-clause-sort : goal.put-requires-2-clause-sort
put-requires-2-clause-sort g c =
    let a = c.args.store.now in let b = c.put.new.store in
    let ab = g.met.S.Store.grows_keeps a b c.put.ensures.grows in
    let found = c.spine_stays.ensures.found (g.S.Store.trees a) (g.S.Store.trees b) c.args.inner.now ab c.requires.spine in
    ap sort (ab.same c.args.sides.right c.requires.right) ∙ c.requires.second ∙ sym (ap sort found ∙ c.requires.found)

pub returns-in_err-right-clause-grows : goal.returns-in_err-right-clause-grows
returns-in_err-right-clause-grows g c =
    g.met.S.Store.grows_trans c.args.store.now c.put.new.store c.put-2.new.store c.put.ensures.grows c.put-2.ensures.grows

pub returns-clause-left : goal.returns-clause-left
returns-clause-left g c =
    let b = c.put.new.store in let d = c.put-2.new.store in
    stands_on (g.met.S.Store.grows_keeps b d c.put-2.ensures.grows) c.in_ok-left.left c.in_ok-left.ensures.made

pub returns-clause-right : goal.returns-clause-right
returns-clause-right g c =
    let a = c.args.store.now in let b = c.put.new.store in
    let ab = g.met.S.Store.grows_keeps a b c.put.ensures.grows in
    let top_is = c.spine_stays.ensures.top (g.S.Store.trees a) (g.S.Store.trees b) c.args.inner.now ab c.requires.spine in
    let same = ab.same c.args.sides.right c.requires.right in
    stands_as c.in_ok-right.right (λ i. put_at (top_is i) (path_of c.args.inner.now) (same i)) c.in_ok-right.ensures.made

pub returns-clause-grows : goal.returns-clause-grows
returns-clause-grows g c =
    g.met.S.Store.grows_trans c.args.store.now c.put.new.store c.put-2.new.store c.put.ensures.grows c.put-2.ensures.grows
