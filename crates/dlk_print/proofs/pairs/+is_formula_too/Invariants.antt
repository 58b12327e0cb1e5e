use Rattle.dlk_tree.specs.Trees.{size}
use Rattle.dlk_store.specs.Stores.{tree}
use Rattle.dlk_print.proofs.pairs.+is_formula_too.Given as goal

abbrev pub decreases-is_formula_too : goal.decreases-is_formula_too
decreases-is_formula_too g l = size (tree (g.S.Store.trees l.store.now) l.id)
