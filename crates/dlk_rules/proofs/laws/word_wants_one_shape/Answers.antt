use Rattle.dlk_rules.proofs.WordLaws.{shape_wanted}
use Rattle.dlk_rules.proofs.laws.word_wants_one_shape.Goals as goal

pub returns : goal.returns
returns c = shape_wanted
