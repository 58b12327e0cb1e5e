use Rattle.std.proofs.Common.{◌≡◌, ap, sym, ◌∙◌}
use Rattle.dlk_tree.specs.declared.op.Op.TheVariants.{Hole}
use Rattle.dlk_tree.specs.Trees.{sort}
use Rattle.dlk_store.specs.Stores.{tree}
use Rattle.dlk_calculus.specs.Notation.{leaf}
use Rattle.dlk_calculus.specs.Paths.{put_at}
use Rattle.dlk_sequent.specs.Spines.{path_of}
use Rattle.dlk_rules.proofs.OverIds.{stands_itself_kept}
use Rattle.dlk_elab.specs.Calls.{direction_of}
use Rattle.dlk_elab.proofs.FinishPlans.{known_on, side_sort, stands_on, stands_as}
use Rattle.dlk_elab.proofs.finishing.exchanged.Goals as goal

pub put-requires-2-clause-spine : goal.put-requires-2-clause-spine
put-requires-2-clause-spine g c =
    let a = c.args.store.now in let d = c.put.new.store in
    let ad = g.met.S.Store.grows_keeps a d (g.met.S.Store.grows_trans a c.make.new.self d c.make.ensures.grows c.put.ensures.grows) in
    c.spine_stays.ensures.spine (g.S.Store.trees a) (g.S.Store.trees d) c.args.spine.now ad c.requires.spine

pub put-requires-2-clause-new : goal.put-requires-2-clause-new
put-requires-2-clause-new g c =
    let a = c.args.store.now in let d = c.put.new.store in
    let ad = g.met.S.Store.grows_keeps a d (g.met.S.Store.grows_trans a c.make.new.self d c.make.ensures.grows c.put.ensures.grows) in
    known_on ad c.other_side-other.result (c.other_side-other.ensures.known (g.S.Store.trees a) c.requires.left c.requires.right)

pub put-requires-2-clause-sort : goal.put-requires-2-clause-sort
put-requires-2-clause-sort g c =
    let a = c.args.store.now in let d = c.put.new.store in
    let trees = g.S.Store.trees a in
    let ad = g.met.S.Store.grows_keeps a d (g.met.S.Store.grows_trans a c.make.new.self d c.make.ensures.grows c.put.ensures.grows) in
    let known = c.other_side-other.ensures.known trees c.requires.left c.requires.right in
    let l = tree trees c.args.sides.left in
    let r = tree trees c.args.sides.right in
    let found = c.spine_stays.ensures.found trees (g.S.Store.trees d) c.args.spine.now ad c.requires.spine in
    ap sort (ad.same c.other_side-other.result known ∙ c.other_side-other.ensures.tree trees) ∙
    side_sort (direction_of c.args.direction) l r c.requires.first c.requires.second ∙ sym (ap sort found ∙ c.requires.found)

pub returns-in_err-new-clause-grows : goal.returns-in_err-new-clause-grows
returns-in_err-new-clause-grows g c =
    let a = c.args.store.now in let d = c.put.new.store in
    g.met.S.Store.grows_trans a d c.put-2.new.store (g.met.S.Store.grows_trans a c.make.new.self d c.make.ensures.grows c.put.ensures.grows)
    c.put-2.ensures.grows

pub returns-clause-made : goal.returns-clause-made
returns-clause-made g c =
    let a = c.args.store.now in let b = c.make.new.self in let d = c.put.new.store in let e = c.put-2.new.store in
    let trees = g.S.Store.trees in
    let grows = g.met.S.Store.grows_trans a b d c.make.ensures.grows c.put.ensures.grows in
    let ab = g.met.S.Store.grows_keeps a b c.make.ensures.grows in
    let ad = g.met.S.Store.grows_keeps a d grows in
    let de = g.met.S.Store.grows_keeps d e c.put-2.ensures.grows in
    let ae = g.met.S.Store.grows_keeps a e (g.met.S.Store.grows_trans a d e grows c.put-2.ensures.grows) in
    let way = c.args.spine.now in
    let hole : tree (trees b) c.in_ok-hole.hole ≡ leaf Hole = c.in_ok-hole.ensures.made.tree_is in
    let top_b = c.spine_stays.ensures.top (trees a) (trees b) way ab c.requires.spine in
    let top_d = c.spine_stays.ensures.top (trees a) (trees d) way ad c.requires.spine in
    let known = c.other_side-other.ensures.known (trees a) c.requires.left c.requires.right in
    let other = ad.same c.other_side-other.result known ∙ c.other_side-other.ensures.tree (trees a) in
    record {
      left = stands_itself_kept ae c.args.sides.left c.requires.left;
      right = stands_itself_kept ae c.args.sides.right c.requires.right;
      context = stands_on de c.in_ok-context.context
          (stands_as c.in_ok-context.context (λ i. put_at (top_b i) (path_of way) (hole i)) c.in_ok-context.ensures.made);
      new = stands_as c.in_ok-new.new (λ i. put_at (top_d i) (path_of way) (other i)) c.in_ok-new.ensures.made;
    }

pub returns-clause-grows : goal.returns-clause-grows
returns-clause-grows g c =
    let a = c.args.store.now in let d = c.put.new.store in
    g.met.S.Store.grows_trans a d c.put-2.new.store (g.met.S.Store.grows_trans a c.make.new.self d c.make.ensures.grows c.put.ensures.grows)
    c.put-2.ensures.grows

pub put-requires-clause-spine : goal.put-requires-clause-spine
put-requires-clause-spine g c =
    let a = c.args.store.now in let b = c.make.new.self in
    c.spine_stays.ensures.spine (g.S.Store.trees a) (g.S.Store.trees b) c.args.spine.now (g.met.S.Store.grows_keeps a b c.make.ensures.grows) c.requires.spine

pub put-requires-clause-new : goal.put-requires-clause-new
put-requires-clause-new g c =
    c.in_ok-hole.ensures.made.known

pub put-requires-clause-sort : goal.put-requires-clause-sort
put-requires-clause-sort g c =
    let a = c.args.store.now in let b = c.make.new.self in
    let ab = g.met.S.Store.grows_keeps a b c.make.ensures.grows in
    let found = c.spine_stays.ensures.found (g.S.Store.trees a) (g.S.Store.trees b) c.args.spine.now ab c.requires.spine in
    ap sort c.in_ok-hole.ensures.made.tree_is ∙ sym (ap sort found ∙ c.requires.found)

pub returns-in_err-context-clause-grows : goal.returns-in_err-context-clause-grows
returns-in_err-context-clause-grows g c =
    g.met.S.Store.grows_trans c.args.store.now c.make.new.self c.put.new.store c.make.ensures.grows c.put.ensures.grows
