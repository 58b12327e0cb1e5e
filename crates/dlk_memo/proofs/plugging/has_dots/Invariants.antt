use Rattle.std.proofs.Common.{◌≡◌, ℕ, ◌<◌, false}
use Rattle.dlk_tree.specs.Occurs.{has_dot}
use Rattle.dlk_store.specs.Stores.{tree}
use Rattle.dlk_memo.proofs.plugging.has_dots.Given as goal

-- no dot so far stands in it
abbrev pub invariant-loop-n : goal.invariant-loop-n
invariant-loop-n g l = (k : ℕ) → k < l.n → has_dot k (tree (g.S.Store.trees l.store) l.id) ≡ false
