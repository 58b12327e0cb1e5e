use Rattle.std.proofs.Common.{◌≡◌, [], take, fold}
use Rattle.dlk_parse.specs.Measuring.{measure_step}
use Rattle.dlk_parse.proofs.measures.measures.Given as goal

-- the code so far leads to what is on the stack
abbrev pub invariant-loop-next : goal.invariant-loop-next
invariant-loop-next l = l.stack.items ≡ fold measure_step [] (take l.next-index l.code)
