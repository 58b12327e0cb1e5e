use Rattle.std.proofs.Common.{ap}
use Rattle.dlk_store.specs.Stores.{tree}
use Rattle.dlk_tree.specs.Trees.{kids_of}
use Rattle.dlk_elab.proofs.FinishPlans.{implication_finished}
use Rattle.dlk_elab.proofs.finishing.finish_implication.Goals as goal

pub sides_of-sides-requires-clause-two : goal.sides_of-sides-requires-clause-two
sides_of-sides-requires-clause-two g c = ap kids_of (c.requires.form (tree (g.S.Store.trees c.args.store.now) c.args.f))

pub returns : goal.returns
returns g c path e =
    let trees = g.S.Store.trees c.args.store.now in
    let sides = c.sides_of-sides.ensures in
    implication_finished trees c.args.now c.args.aim path e (tree trees c.args.f) c.in_ok-made.made.items (tree trees c.sides_of-sides.result.left)
    (tree trees c.sides_of-sides.result.right)
    sides.left.tree_is sides.right.tree_is (λ s right. c.in_ok-made.ensures trees s sides.left.known sides.right.known right)
