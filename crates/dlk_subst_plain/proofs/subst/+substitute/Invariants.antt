use Rattle.dlk_tree.specs.Trees.{size}
use Rattle.dlk_store.specs.Stores.{tree}
use Rattle.dlk_store.proofs.Made.{Made}
use Rattle.dlk_calculus.specs.Subst.{Subst}
use Rattle.dlk_sequent.specs.Substitutions.{pairs_at}
use Rattle.dlk_subst_plain.proofs.subst.+substitute.Given as goal

abbrev pub decreases-substitute : goal.decreases-substitute
decreases-substitute g l = size (tree (g.S.Store.trees l.store.now) l.id)

-- the kids so far are made
abbrev pub invariant-loop-kid : goal.invariant-loop-kid
invariant-loop-kid g l =
    let before = g.S.Store.trees l.fn.store in
    record {
      grows : g.S.Store.grows l.fn.store l.store;
      made : Made (Subst (pairs_at before l.fn.pairs)) before (g.S.Store.trees l.store) l.fn.id l.op l.kid-items l.new.items l.kid-index;
    }
