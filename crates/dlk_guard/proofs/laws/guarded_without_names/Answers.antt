use Rattle.dlk_guard.proofs.Plain.{plain_guarded}
use Rattle.dlk_guard.proofs.laws.guarded_without_names.Goals as goal

pub returns : goal.returns
returns c = plain_guarded
