use Rattle.std.proofs.Common.{◌≡◌, ◌+◌, ◌≤◌, take}
use Rattle.dlk_store.specs.Stores.{sorts_at}
use Rattle.dlk_nodes.proofs.node.sorts_of.Given as goal

-- the sorts so far
abbrev pub invariant-loop-id : goal.invariant-loop-id
invariant-loop-id g l = record {
  sorts : l.sorts.items ≡ sorts_at (g.S.Store.trees l.store) (take l.id-index l.ids);
  cost : l.steps ≤ l.fn.steps + l.id-index;
}
