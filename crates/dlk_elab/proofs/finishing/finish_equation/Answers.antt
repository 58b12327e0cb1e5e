use Rattle.dlk_tree.specs.Trees.{kids_of}
use Rattle.std.proofs.Common.{ap}
use Rattle.dlk_store.specs.Stores.{tree}
use Rattle.dlk_sequent.specs.Spines.{top, path_of}
use Rattle.dlk_calculus.specs.Paths.{put_at}
use Rattle.dlk_elab.proofs.FinishPlans.{equation_finished, exchange_same}
use Rattle.dlk_elab.proofs.finishing.finish_equation.Goals as goal

pub returns-clause-made : goal.returns-clause-made
returns-clause-made g c =
    let old = g.S.Store.trees c.args.store.now in
    let new = g.S.Store.trees c.equation_trees.new.store in
    let way = c.args.spine.now in
    let round = c.in_ok-around.ensures in
    let outer = path_of c.in_ok-around.around.outer in
    let inner = path_of c.in_ok-around.around.inner in
    let d = tree old c.in_ok-around.around.outer.found in
    let sides = c.sides_of-sides.ensures in
    let l = tree old c.sides_of-sides.result.left in
    let r = tree old c.sides_of-sides.result.right in
    let e = tree old (top way) in
    let made = c.in_ok-x.ensures.made in
    equation_finished new c.args.now c.args.aim (path_of way) e (tree old c.args.f) c.in_ok-made.made.items outer inner d l r sides.left.tree_is
    sides.right.tree_is
    round.innermost
    (λ s right. c.in_ok-made.ensures new s e outer inner d l r made.equated
    (exchange_same c.in_ok-x.x.exchanged (ap (tree old) round.starts) (λ i. put_at d inner l) (λ i. put_at d inner r) made.exchanged) right)

pub sides_of-sides-requires-clause-two : goal.sides_of-sides-requires-clause-two
sides_of-sides-requires-clause-two g c =
    ap kids_of c.requires.form.0
