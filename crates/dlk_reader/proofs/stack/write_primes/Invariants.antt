use Rattle.std.proofs.Common.{◌≡◌, ◌++◌}
use Rattle.dlk_reader.specs.Shows.{primes_code}
use Rattle.dlk_reader.proofs.stack.write_primes.Given as goal

-- the primes so far
abbrev pub invariant-loop : goal.invariant-loop
invariant-loop l = l.out.items ≡ l.fn.out.items ++ primes_code l.holds l.counter
