use Rattle.dlk_scripts.proofs.Answered.{some_answer}
use Rattle.dlk_scripts.proofs.laws.script_or_stop.Goals as goal

pub returns : goal.returns
returns c = some_answer
