use Rattle.dlk_shared.specs.Sound.{kept_tree, kept_op, kept_kids}
use Rattle.dlk_shared.proofs.store.SharedStore.key.Goals as goal

pub returns-clause-node : goal.returns-clause-node
returns-clause-node c =
    let s = c.args.self.now in
    kept_tree s.ops.keys s.nodes.entries s.sound c.args.id c.kept.result.0.now c.kept.result.1.now c.kept.ensures

pub returns-clause-op : goal.returns-clause-op
returns-clause-op c =
    let s = c.args.self.now in
    kept_op s.ops.keys s.nodes.entries s.sound c.args.id c.kept.result.0.now c.kept.result.1.now c.kept.ensures

pub returns-clause-kids : goal.returns-clause-kids
returns-clause-kids c =
    let s = c.args.self.now in
    kept_kids s.ops.keys s.nodes.entries s.sound c.args.id c.kept.result.0.now c.kept.result.1.now c.kept.ensures
