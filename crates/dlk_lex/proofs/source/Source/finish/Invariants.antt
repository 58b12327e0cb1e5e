use Rattle.dlk_lex.specs.Taken.{left_of}
use Rattle.dlk_lex.proofs.Sources.{Taking}
use Rattle.dlk_lex.proofs.source.Source.finish.Given as goal

-- what was taken so far has shown what is noted
abbrev pub invariant-loop-token : goal.invariant-loop-token
invariant-loop-token l = Taking l.initial.self l.self

abbrev pub decreases-loop-token : goal.decreases-loop-token
decreases-loop-token l = left_of l.self.origin
