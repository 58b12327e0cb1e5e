use Rattle.std.proofs.Common.{take}
use Rattle.dlk_rules.specs.Steps.{facts_in}
use Rattle.dlk_link.specs.Marks.{Marks}
use Rattle.dlk_link.proofs.needed.mark.Given as goal

abbrev pub invariant-loop-fact : goal.invariant-loop-fact
invariant-loop-fact l = Marks l.fn.marks.items l.marks.items (facts_in (take l.fact-index l.facts))
