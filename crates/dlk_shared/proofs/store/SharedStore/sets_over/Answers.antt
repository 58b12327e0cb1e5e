use Rattle.dlk_shared.specs.Nodes.{trees_of}
use Rattle.dlk_shared.proofs.SetsGrow.{facts_kept}
use Rattle.dlk_shared.proofs.SignLemmas.{keeps_refl}
use Rattle.dlk_shared.proofs.store.SharedStore.sets_over.Goals as goal

pub invariant_of-self-clause-facts : goal.invariant_of-self-clause-facts
invariant_of-self-clause-facts c =
    let s = c.args.self.now in
    facts_kept c.node_sets.ensures.keeps (keeps_refl s.signs) (trees_of s.ops.keys s.nodes.entries) s.nodes.entries s.facts
