use Rattle.dlk_scripts.proofs.Answered.{one_script_said}
use Rattle.dlk_scripts.proofs.laws.one_script.Goals as goal

pub returns : goal.returns
returns c = one_script_said
