use Rattle.std.proofs.Common.{sym}
use Rattle.dlk_shared.proofs.Found.{found_stands}
use Rattle.dlk_shared.proofs.store.SharedStore.id_of.Goals as goal

pub returns-in-Some-clause-made : goal.returns-in-Some-clause-made
returns-in-Some-clause-made c =
    let s = c.args.self.now in
    found_stands s.ops.keys s.nodes.entries c.args.key c.in-Some.place s.sound (sym c.in-Some.ensures.index)
