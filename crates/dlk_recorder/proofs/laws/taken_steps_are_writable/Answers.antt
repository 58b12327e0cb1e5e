use Rattle.dlk_recorder.proofs.TakenWritable as law
use Rattle.dlk_recorder.proofs.laws.taken_steps_are_writable.Goals as goal

pub returns : goal.returns
returns c = law.taken_steps_writable
