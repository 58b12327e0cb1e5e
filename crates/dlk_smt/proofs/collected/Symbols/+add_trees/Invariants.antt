use Rattle.dlk_tree.specs.Trees.{size_all}
use Rattle.dlk_store.specs.Stores.{kid_trees}
use Rattle.dlk_smt.proofs.collected.Symbols.+add_trees.Given as goal

abbrev pub decreases-add_trees : goal.decreases-add_trees
decreases-add_trees g l = size_all (kid_trees (g.S.Store.trees l.store.now) l.ids.now)
