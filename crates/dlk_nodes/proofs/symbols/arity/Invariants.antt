use Rattle.dlk_nodes.proofs.SymbolForms.{NoneBelow}
use Rattle.dlk_nodes.proofs.symbols.arity.Given as goal

-- none of the numbers so far
abbrev pub invariant-loop-n : goal.invariant-loop-n
invariant-loop-n l = NoneBelow l.text l.n
