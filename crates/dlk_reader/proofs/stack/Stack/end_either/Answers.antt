use Rattle.dlk_reader.proofs.Commas.{neither_none}
use Rattle.dlk_reader.proofs.stack.Stack.end_either.Goals as goal

pub returns-in_default : goal.returns-in_default
returns-in_default c = λ x h. rw (neither_none c.args.self.now c.args.mode x c.in_default.not-Has h) tt
