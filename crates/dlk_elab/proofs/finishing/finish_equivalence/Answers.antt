use Rattle.std.proofs.Common.{ap}
use Rattle.dlk_tree.specs.Trees.{kids_of}
use Rattle.dlk_store.specs.Stores.{tree}
use Rattle.dlk_sequent.specs.Spines.{top, path_of}
use Rattle.dlk_elab.proofs.FinishPlans.{equivalence_finished}
use Rattle.dlk_elab.proofs.finishing.finish_equivalence.Goals as goal

pub returns-clause-made : goal.returns-clause-made
returns-clause-made g c =
    let old = g.S.Store.trees c.args.store.now in
    let new = g.S.Store.trees c.exchanged.new.store in
    let way = c.args.spine.now in
    let sides = c.sides_of-sides.ensures in
    let l = tree old c.sides_of-sides.result.left in
    let r = tree old c.sides_of-sides.result.right in
    let e = tree old (top way) in
    equivalence_finished new c.args.now c.args.aim (path_of way) e (tree old c.args.f) c.in_ok-made.made.items l r sides.left.tree_is sides.right.tree_is
    (λ s right. c.in_ok-made.ensures new s e (path_of way) l r c.in_ok-x.ensures.made right)

pub sides_of-sides-requires-clause-two : goal.sides_of-sides-requires-clause-two
sides_of-sides-requires-clause-two g c =
    ap kids_of c.requires.form.0
