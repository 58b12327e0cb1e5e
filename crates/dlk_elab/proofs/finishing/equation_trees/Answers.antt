use Rattle.std.proofs.Common.{ap, sym, ◌∙◌}
use Rattle.dlk_tree.specs.Trees.{sort}
use Rattle.dlk_store.specs.Stores.{tree}
use Rattle.dlk_calculus.specs.Paths.{put_at}
use Rattle.dlk_sequent.specs.Spines.{top, path_of}
use Rattle.dlk_elab.proofs.FinishPlans.{known_on, exchange_same, equated_on}
use Rattle.dlk_elab.proofs.finishing.equation_trees.Goals as goal

pub with_sides-requires-clause-spine : goal.with_sides-requires-clause-spine
with_sides-requires-clause-spine g c =
    let a = c.args.store.now in let b = c.equated.new.store in
    c.spine_stays.ensures.spine (g.S.Store.trees a) (g.S.Store.trees b) c.args.around.now.inner (g.met.S.Store.grows_keeps a b c.equated.ensures.grows)
    c.requires.inner

pub with_sides-requires-clause-left : goal.with_sides-requires-clause-left
with_sides-requires-clause-left g c =
    known_on (g.met.S.Store.grows_keeps c.args.store.now c.equated.new.store c.equated.ensures.grows) c.args.sides.left c.requires.left

pub with_sides-requires-clause-right : goal.with_sides-requires-clause-right
with_sides-requires-clause-right g c =
    known_on (g.met.S.Store.grows_keeps c.args.store.now c.equated.new.store c.equated.ensures.grows) c.args.sides.right c.requires.right

pub with_sides-requires-clause-found : goal.with_sides-requires-clause-found
with_sides-requires-clause-found g c =
    let a = c.args.store.now in let b = c.equated.new.store in
    ap sort (c.spine_stays.ensures.found (g.S.Store.trees a) (g.S.Store.trees b) c.args.around.now.inner
    (g.met.S.Store.grows_keeps a b c.equated.ensures.grows) c.requires.inner) ∙
    c.requires.term

pub with_sides-requires-clause-first : goal.with_sides-requires-clause-first
with_sides-requires-clause-first g c =
    let keeps = g.met.S.Store.grows_keeps c.args.store.now c.equated.new.store c.equated.ensures.grows in
    ap sort (keeps.same c.args.sides.left c.requires.left) ∙ c.requires.first

pub with_sides-requires-clause-second : goal.with_sides-requires-clause-second
with_sides-requires-clause-second g c =
    let keeps = g.met.S.Store.grows_keeps c.args.store.now c.equated.new.store c.equated.ensures.grows in
    ap sort (keeps.same c.args.sides.right c.requires.right) ∙ c.requires.second

pub returns-in_err-both-clause-grows : goal.returns-in_err-both-clause-grows
returns-in_err-both-clause-grows g c =
    g.met.S.Store.grows_trans c.args.store.now c.equated.new.store c.with_sides.new.store c.equated.ensures.grows c.with_sides.ensures.grows

pub exchanged-requires-clause-spine : goal.exchanged-requires-clause-spine
exchanged-requires-clause-spine g c =
    let a = c.args.store.now in let d = c.with_sides.new.store in
    let ad = g.met.S.Store.grows_keeps a d (g.met.S.Store.grows_trans a c.equated.new.store d c.equated.ensures.grows c.with_sides.ensures.grows) in
    c.spine_stays.ensures.spine (g.S.Store.trees a) (g.S.Store.trees d) c.args.around.now.outer ad c.requires.outer

pub exchanged-requires-clause-found : goal.exchanged-requires-clause-found
exchanged-requires-clause-found g c =
    let a = c.args.store.now in let d = c.with_sides.new.store in
    let ad = g.met.S.Store.grows_keeps a d (g.met.S.Store.grows_trans a c.equated.new.store d c.equated.ensures.grows c.with_sides.ensures.grows) in
    ap sort (c.spine_stays.ensures.found (g.S.Store.trees a) (g.S.Store.trees d) c.args.around.now.outer ad c.requires.outer) ∙ c.requires.formula

pub exchanged-requires-clause-first : goal.exchanged-requires-clause-first
exchanged-requires-clause-first g c =
    let a = c.args.store.now in let b = c.equated.new.store in
    let old = g.S.Store.trees a in let now = g.S.Store.trees b in
    let way = c.args.around.now.inner in
    let ab = g.met.S.Store.grows_keeps a b c.equated.ensures.grows in
    let spine = c.spine_stays.ensures.spine old now way ab c.requires.inner in
    let found = ap sort (c.spine_stays.ensures.found old now way ab c.requires.inner) ∙ c.requires.term in
    let side = ap sort (ab.same c.args.sides.left c.requires.left) ∙ c.requires.first in
    let put = c.put_is_there.ensures.sort (tree now (top way)) (path_of way) (tree now way.found) (tree now c.args.sides.left)
    (c.spine_leads.ensures.leads now way spine)
    (side ∙ sym found) in
    ap sort c.in_ok-both.ensures.left.tree_is ∙ put ∙ ap sort (c.spine_stays.ensures.top old now way ab c.requires.inner ∙ c.requires.joins)
    ∙ c.requires.formula

pub exchanged-requires-clause-second : goal.exchanged-requires-clause-second
exchanged-requires-clause-second g c =
    let a = c.args.store.now in let b = c.equated.new.store in
    let old = g.S.Store.trees a in let now = g.S.Store.trees b in
    let way = c.args.around.now.inner in
    let ab = g.met.S.Store.grows_keeps a b c.equated.ensures.grows in
    let spine = c.spine_stays.ensures.spine old now way ab c.requires.inner in
    let found = ap sort (c.spine_stays.ensures.found old now way ab c.requires.inner) ∙ c.requires.term in
    let side = ap sort (ab.same c.args.sides.right c.requires.right) ∙ c.requires.second in
    let put = c.put_is_there.ensures.sort (tree now (top way)) (path_of way) (tree now way.found) (tree now c.args.sides.right)
    (c.spine_leads.ensures.leads now way spine)
    (side ∙ sym found) in
    ap sort c.in_ok-both.ensures.right.tree_is ∙ put ∙ ap sort (c.spine_stays.ensures.top old now way ab c.requires.inner ∙ c.requires.joins)
    ∙ c.requires.formula

pub returns-in_err-exchanged-clause-grows : goal.returns-in_err-exchanged-clause-grows
returns-in_err-exchanged-clause-grows g c =
    let a = c.args.store.now in let d = c.with_sides.new.store in
    g.met.S.Store.grows_trans a d c.exchanged.new.store (g.met.S.Store.grows_trans a c.equated.new.store d c.equated.ensures.grows c.with_sides.ensures.grows)
    c.exchanged.ensures.grows

pub returns-clause-made : goal.returns-clause-made
returns-clause-made g c =
    let a = c.args.store.now in let b = c.equated.new.store in let d = c.with_sides.new.store in let e = c.exchanged.new.store in
    let old = g.S.Store.trees a in let now = g.S.Store.trees b in
    let ab = g.met.S.Store.grows_keeps a b c.equated.ensures.grows in
    let ad = g.met.S.Store.grows_keeps a d (g.met.S.Store.grows_trans a b d c.equated.ensures.grows c.with_sides.ensures.grows) in
    let be = g.met.S.Store.grows_keeps b e (g.met.S.Store.grows_trans b d e c.with_sides.ensures.grows c.exchanged.ensures.grows) in
    let inner = c.args.around.now.inner in
    let outer = c.args.around.now.outer in
    let top_is = c.spine_stays.ensures.top old now inner ab c.requires.inner ∙ c.requires.joins in
    let l = ab.same c.args.sides.left c.requires.left in
    let r = ab.same c.args.sides.right c.requires.right in
    record {
      equated = equated_on c.in_ok-equated.equated be c.requires.joins c.in_ok-equated.ensures.made;
      exchanged = exchange_same c.in_ok-exchanged.exchanged (c.spine_stays.ensures.top old (g.S.Store.trees d) outer ad c.requires.outer)
          (c.in_ok-both.ensures.left.tree_is ∙ (λ i. put_at (top_is i) (path_of inner) (l i)))
          (c.in_ok-both.ensures.right.tree_is ∙ (λ i. put_at (top_is i) (path_of inner) (r i)))
          c.in_ok-exchanged.ensures.made;
    }

pub returns-clause-grows : goal.returns-clause-grows
returns-clause-grows g c =
    let a = c.args.store.now in let d = c.with_sides.new.store in
    g.met.S.Store.grows_trans a d c.exchanged.new.store (g.met.S.Store.grows_trans a c.equated.new.store d c.equated.ensures.grows c.with_sides.ensures.grows)
    c.exchanged.ensures.grows
