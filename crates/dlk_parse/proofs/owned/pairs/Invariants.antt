use Rattle.std.proofs.Common.{◌≡◌, ◌++◌, length, map, take}
use Rattle.std.specs.Vec.Iter.{into_iter_items}
use Rattle.dlk_sequent.specs.declared.subst.Pair.{Pair}
use Rattle.dlk_parse.proofs.owned.pairs.Given as goal

-- the pairs have the symbols and the ids so far
abbrev pub invariant-loop-sym : goal.invariant-loop-sym
invariant-loop-sym l = record {
  symbols : map (λ (p : Pair). p.sym) l.pairs.items ++ into_iter_items l.sym-iterator ≡ l.fn.symbols.items;
  ids : map (λ (p : Pair). p.by) l.pairs.items ≡ take (length l.pairs.items) l.ids;
}
