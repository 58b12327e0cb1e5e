use Rattle.std.proofs.Common.{◌≡◌, false}
use Rattle.dlk_tree.specs.Trees.{size}
use Rattle.dlk_tree.specs.Occurs.{is_hole}
use Rattle.dlk_store.specs.Stores.{tree}
use Rattle.dlk_store.proofs.Made.{Made, Gives}
use Rattle.dlk_calculus.specs.Plug.{filled}
use Rattle.dlk_subst_plain.proofs.fill.+fill.Given as goal

abbrev pub decreases-fill : goal.decreases-fill
decreases-fill g l = size (tree (g.S.Store.trees l.store.now) l.id)

-- the kids so far are filled
abbrev pub invariant-loop-kid : goal.invariant-loop-kid
invariant-loop-kid g l =
    let before = g.S.Store.trees l.fn.store in
    record {
      grows : g.S.Store.grows l.fn.store l.store;
      made : Made (Gives (filled (tree before l.fn.formula))) before (g.S.Store.trees l.store) l.fn.id l.op l.kid-items l.new.items l.kid-index;
      no_hole : is_hole l.op ≡ false;
    }
