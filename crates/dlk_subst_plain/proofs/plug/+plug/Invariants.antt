use Rattle.dlk_tree.specs.Trees.{size}
use Rattle.dlk_store.specs.Stores.{tree}
use Rattle.dlk_store.proofs.Made.{Made}
use Rattle.dlk_calculus.specs.Plug.{Plug}
use Rattle.dlk_subst.specs.Results.{args_at}
use Rattle.dlk_subst_plain.proofs.plug.+plug.Given as goal

abbrev pub decreases-plug : goal.decreases-plug
decreases-plug g l = size (tree (g.S.Store.trees l.store.now) l.id)

-- the kids so far are plugged
abbrev pub invariant-loop-kid : goal.invariant-loop-kid
invariant-loop-kid g l =
    let before = g.S.Store.trees l.fn.store in
    record {
      grows : g.S.Store.grows l.fn.store l.store;
      made : Made (Plug (args_at before l.fn.args)) before (g.S.Store.trees l.store) l.fn.id l.op l.kid-items l.new.items l.kid-index;
    }
