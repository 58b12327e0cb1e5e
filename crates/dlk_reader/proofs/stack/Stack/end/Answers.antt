use Rattle.dlk_reader.proofs.Commas.{ended_none}
use Rattle.dlk_reader.proofs.stack.Stack.end.Goals as goal

pub returns-in_default : goal.returns-in_default
returns-in_default c = λ x h. rw (ended_none c.args.self.now c.args.mode c.args.goal x c.in_default.not-Has h) tt
