use Rattle.dlk_link.proofs.Again.{neat_is_trimmed}
use Rattle.dlk_link.proofs.laws.neat_is_trimmed.Goals as goal

pub returns : goal.returns
returns c = neat_is_trimmed
