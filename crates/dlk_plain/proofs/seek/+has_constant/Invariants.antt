use Rattle.std.proofs.Common.{length}
use Rattle.dlk_plain.proofs.seek.+has_constant.Given as goal

abbrev pub decreases-has_constant : goal.decreases-has_constant
decreases-has_constant l = length l.items.now
