use Rattle.dlk_tree.specs.Trees.{sort}
use Rattle.std.proofs.Common.{◌≡◌, ap, sym, ◌∙◌}
use Rattle.dlk_tree.specs.declared.op.Op.TheVariants.{Dot}
use Rattle.dlk_store.specs.Stores.{tree}
use Rattle.dlk_calculus.specs.Notation.{leaf}
use Rattle.dlk_calculus.specs.Paths.{put_at}
use Rattle.dlk_sequent.specs.Spines.{path_of}
use Rattle.dlk_rules.proofs.OverIds.{stands_itself_kept}
use Rattle.dlk_elab.proofs.FinishPlans.{stands_as}
use Rattle.dlk_elab.proofs.finishing.equated.Goals as goal

pub returns-clause-made : goal.returns-clause-made
returns-clause-made g c =
    let a = c.args.store.now in let b = c.make.new.self in let d = c.put.new.store in
    let trees = g.S.Store.trees in
    let ab = g.met.S.Store.grows_keeps a b c.make.ensures.grows in
    let ad = g.met.S.Store.grows_keeps a d (g.met.S.Store.grows_trans a b d c.make.ensures.grows c.put.ensures.grows) in
    let way = c.args.inner.now in
    let dot : tree (trees b) c.in_ok-dot.dot ≡ leaf (Dot 0) = c.in_ok-dot.ensures.made.tree_is in
    let top_is = c.spine_stays.ensures.top (trees a) (trees b) way ab c.requires.spine in
    record {
      left = stands_itself_kept ad c.args.sides.left c.requires.left;
      right = stands_itself_kept ad c.args.sides.right c.requires.right;
      context = stands_as c.in_ok-context.context (λ i. put_at (top_is i) (path_of way) (dot i)) c.in_ok-context.ensures.made;
    }

pub put-requires-clause-spine : goal.put-requires-clause-spine
put-requires-clause-spine g c =
    let a = c.args.store.now in let b = c.make.new.self in
    c.spine_stays.ensures.spine (g.S.Store.trees a) (g.S.Store.trees b) c.args.inner.now (g.met.S.Store.grows_keeps a b c.make.ensures.grows) c.requires.spine

pub put-requires-clause-new : goal.put-requires-clause-new
put-requires-clause-new g c =
    c.in_ok-dot.ensures.made.known

pub put-requires-clause-sort : goal.put-requires-clause-sort
put-requires-clause-sort g c =
    let a = c.args.store.now in let b = c.make.new.self in
    let ab = g.met.S.Store.grows_keeps a b c.make.ensures.grows in
    let found = c.spine_stays.ensures.found (g.S.Store.trees a) (g.S.Store.trees b) c.args.inner.now ab c.requires.spine in
    ap sort c.in_ok-dot.ensures.made.tree_is ∙ sym (ap sort found ∙ c.requires.found)

pub returns-in_err-context-clause-grows : goal.returns-in_err-context-clause-grows
returns-in_err-context-clause-grows g c =
    g.met.S.Store.grows_trans c.args.store.now c.make.new.self c.put.new.store c.make.ensures.grows c.put.ensures.grows

pub returns-clause-grows : goal.returns-clause-grows
returns-clause-grows g c =
    g.met.S.Store.grows_trans c.args.store.now c.make.new.self c.put.new.store c.make.ensures.grows c.put.ensures.grows
