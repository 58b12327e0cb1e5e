use Rattle.std.proofs.Common.{◌≡◌, drop}
use Rattle.dlk_tree.specs.Occurs.{any_has, has_symbol}
use Rattle.dlk_store.specs.Stores.{kid_trees}
use Rattle.dlk_subst.proofs.pairs.any_mentions.Given as goal

-- the symbol is looked for in the kids that are left
abbrev pub invariant-loop-kid : goal.invariant-loop-kid
invariant-loop-kid g l =
    let trees = g.S.Store.trees l.store in
    any_has (has_symbol l.s) (kid_trees trees l.kids) ≡ any_has (has_symbol l.s) (kid_trees trees (drop l.kid-index l.kids))
