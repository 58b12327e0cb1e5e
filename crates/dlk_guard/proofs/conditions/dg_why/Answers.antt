use Rattle.std.proofs.Common.{arith}
use Rattle.dlk_store.specs.Stores.{tree, kid_trees}
use Rattle.dlk_guard.proofs.Below.{unbegun, begun, dg_within}
use Rattle.dlk_guard.proofs.conditions.dg_why.Goals as goal

pub returns-in_default-clause-cost : goal.returns-in_default-clause-cost
returns-in_default-clause-cost g c = omega (arith, unbegun (tree (g.S.Store.trees c.args.store.now) c.args.id), c.in_default.ensures.cost)

pub returns-then-is_none-clause-cost : goal.returns-then-is_none-clause-cost
returns-then-is_none-clause-cost g c =
    let trees = g.S.Store.trees c.args.store.now in
    let most = begun (tree trees c.args.id) (tree trees c.in-Some.system) c.in-Some.ensures.found.stands in
    omega (arith, most, c.in-Some.ensures.cost, c.look-node.ensures.step)

pub returns-clause-cost : goal.returns-clause-cost
returns-clause-cost g c =
    let trees = g.S.Store.trees c.args.store.now in
    let most = dg_within (tree trees c.args.id) (tree trees c.in-Some.system) c.look-node.result.op.now (kid_trees trees c.look-node.result.kids.now)
    c.in-Some.ensures.found.stands c.look-node.ensures.node in
    omega (arith, most, c.in-Some.ensures.cost, c.look-node.ensures.step, c.dg_conditions.ensures.cost)
