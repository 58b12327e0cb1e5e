use Rattle.dlk_reader.proofs.Agree.{primes_written, formula_primes_written}
use Rattle.dlk_reader.proofs.stack.settle_symbol.Goals as goal

pub returns-in_ok-write_symbol-in-Term : goal.returns-in_ok-write_symbol-in-Term
returns-in_ok-write_symbol-in-Term c = λ h k before e at.
    rw c.in-Term.is (primes_written h c.args.primes before c.write_symbol.new.out.items c.write_primes.new.out.items c.write_primes.result
    (c.in_ok-write_symbol-in-Term.ensures h before e at).out c.write_primes.ensures)

pub returns-in_ok-write_symbol-in-Formula : goal.returns-in_ok-write_symbol-in-Formula
returns-in_ok-write_symbol-in-Formula c = λ h k before e at.
    rw c.in-Formula.is (formula_primes_written h c.args.primes before c.write_symbol-in-Formula.new.out.items c.write_primes-in-Formula.new.out.items
    c.write_primes-in-Formula.result (c.in_ok-write_symbol-in-Formula.ensures h before e at).out c.write_primes-in-Formula.ensures)
