use Rattle.std.proofs.Common.{◌<◌, length, arith}
use Rattle.dlk_shared.specs.Sound.{nodes_length}
use Rattle.dlk_shared.proofs.store.SharedStore.kept.Goals as goal

pub unwrap-requires : goal.unwrap-requires
unwrap-requires c =
    let nodes = c.args.self.now.nodes.entries in
    let h : c.args.id.0 < length nodes = omega (arith, nodes_length c.args.self.now.ops.keys nodes) in
    c.get_index.ensures.found.1 h
