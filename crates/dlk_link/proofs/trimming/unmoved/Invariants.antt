use Rattle.dlk_link.specs.Unmoved.{HaveOldNumbers}
use Rattle.dlk_link.proofs.trimming.unmoved.Given as goal

abbrev pub invariant-loop-row : goal.invariant-loop-row
invariant-loop-row l = HaveOldNumbers l.numbers l.row
