use Rattle.std.proofs.Common.{◌≡◌}
use Rattle.dlk_tree.specs.declared.op.Op.{Op}
use Rattle.dlk_tree.specs.Trees.{size}
use Rattle.dlk_store.specs.Stores.{tree}
use Rattle.dlk_store.proofs.Made.{Made, Gives}
use Rattle.dlk_calculus.specs.Rename.{swap, swap_op}
use Rattle.dlk_rename.specs.Exchanges.{or_same}
use Rattle.dlk_rename.proofs.exchange.+swap.Given as goal

abbrev pub decreases-swap : goal.decreases-swap
decreases-swap g l = size (tree (g.S.Store.trees l.store.now) l.id)

-- the kids so far are swapped, of a node of this operator swapped
abbrev pub invariant-loop-kid : goal.invariant-loop-kid
invariant-loop-kid g l =
    let before = g.S.Store.trees l.fn.store in
    let now = g.S.Store.trees l.store in
    record {
      grows : g.S.Store.grows l.fn.store l.store;
      made : (op : Op) × Made (Gives (swap l.fn.x l.fn.y)) before now l.fn.id op l.kid-items l.new.items l.kid-index ×
          (or_same op l.op ≡ swap_op l.fn.x l.fn.y op);
    }
