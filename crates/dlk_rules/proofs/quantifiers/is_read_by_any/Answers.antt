use Rattle.std.proofs.Common.{arith}
use Rattle.std.proofs.lemmas.Grind.{common_steps}
use Rattle.dlk_rules.proofs.Quantified.{list_any_map}
use Rattle.dlk_rules.proofs.quantifiers.is_read_by_any.Goals as goal

pub returns-then-frees : goal.returns-then-frees
returns-then-frees g c = rw list_any_map (grind (arith, common_steps))

pub returns : goal.returns
returns g c = rw list_any_map (grind (arith, common_steps))
