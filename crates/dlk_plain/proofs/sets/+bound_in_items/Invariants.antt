use Rattle.std.proofs.Common.{length}
use Rattle.dlk_plain.proofs.sets.+bound_in_items.Given as goal

abbrev pub decreases-bound_in_items : goal.decreases-bound_in_items
decreases-bound_in_items l = length l.items.now
