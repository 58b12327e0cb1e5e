use Rattle.std.proofs.Common.{◌≡◌, ◌+◌, ◌≤◌, drop}
use Rattle.std.specs.List.{list_any}
use Rattle.dlk_sequent.specs.Substitutions.{pairs_at}
use Rattle.dlk_guard.specs.Guarded.{is_differential_context}
use Rattle.dlk_guard.specs.Looks.{pairs_looks}
use Rattle.dlk_guard.proofs.contexts.has_differential_context.Given as goal

-- none of the replacements so far has it
abbrev pub invariant-loop-pair : goal.invariant-loop-pair
invariant-loop-pair g l =
    let pairs = pairs_at (g.S.Store.trees l.store) in
    record {
      rest : list_any is_differential_context (pairs l.pairs) ≡ list_any is_differential_context (pairs (drop l.pair-index l.pairs));
      cost : l.steps + pairs_looks (pairs (drop l.pair-index l.pairs)) ≤ l.fn.steps + pairs_looks (pairs l.pairs);
    }
