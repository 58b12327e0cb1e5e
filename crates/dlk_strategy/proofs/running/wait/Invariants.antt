use Rattle.std.proofs.Common.{◌≡◌, ◌++◌, reverse, replicate}
use Rattle.dlk_strategy.proofs.running.wait.Given as goal

abbrev pub invariant-loop : goal.invariant-loop
invariant-loop l = reverse l.waiting.items ≡ replicate l.counter l.turns ++ reverse l.initial.waiting.items
