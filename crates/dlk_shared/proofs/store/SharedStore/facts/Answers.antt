use Rattle.dlk_shared.specs.Kept.{IsFactsOf}
use Rattle.dlk_shared.specs.Sound.{kept_facts}
use Rattle.dlk_shared.proofs.store.SharedStore.facts.Goals as goal

pub returns : goal.returns
returns c =
    let s = c.args.self.now in
    kept_facts s.ops.keys s.nodes.entries s.sound c.args.id c.kept.result.0.now c.kept.result.1.now c.kept.ensures (IsFactsOf s.sets s.signs) s.facts
