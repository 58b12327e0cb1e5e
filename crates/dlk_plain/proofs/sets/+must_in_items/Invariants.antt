use Rattle.std.proofs.Common.{length}
use Rattle.dlk_plain.proofs.sets.+must_in_items.Given as goal

abbrev pub decreases-must_in_items : goal.decreases-must_in_items
decreases-must_in_items l = length l.items.now
