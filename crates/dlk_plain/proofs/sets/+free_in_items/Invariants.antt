use Rattle.std.proofs.Common.{length}
use Rattle.dlk_plain.proofs.sets.+free_in_items.Given as goal

abbrev pub decreases-free_in_items : goal.decreases-free_in_items
decreases-free_in_items l = length l.items.now
