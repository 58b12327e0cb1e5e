use Rattle.std.proofs.Common.{◌+◌, ◌*◌}
use Rattle.dlk_tree.specs.Trees.{size, size_all}
use Rattle.dlk_store.specs.Stores.{tree, kid_trees}
use Rattle.dlk_smt.proofs.translation.+expression.Given as goal

abbrev pub decreases-append_expression : goal.decreases-append_expression
decreases-append_expression g l = 6 * size (tree (g.S.Store.trees l.store.now) l.id)

abbrev pub decreases-append_node : goal.decreases-append_node
decreases-append_node g l = 6 * size_all (kid_trees (g.S.Store.trees l.store.now) l.kids.now) + 5

abbrev pub decreases-append_unequal : goal.decreases-append_unequal
decreases-append_unequal g l = 6 * size_all (kid_trees (g.S.Store.trees l.store.now) l.kids.now) + 4

abbrev pub decreases-append_quantified : goal.decreases-append_quantified
decreases-append_quantified g l = 6 * size_all (kid_trees (g.S.Store.trees l.store.now) l.kids.now) + 4

abbrev pub decreases-append_power : goal.decreases-append_power
decreases-append_power g l = 6 * size_all (kid_trees (g.S.Store.trees l.store.now) l.kids.now) + 4

abbrev pub decreases-append_call : goal.decreases-append_call
decreases-append_call g l = 6 * size_all (kid_trees (g.S.Store.trees l.store.now) l.kids.now) + 3

abbrev pub decreases-append_kids : goal.decreases-append_kids
decreases-append_kids g l = 6 * size_all (kid_trees (g.S.Store.trees l.store.now) l.kids.now) + 2

abbrev pub decreases-append_first : goal.decreases-append_first
decreases-append_first g l = 6 * size_all (kid_trees (g.S.Store.trees l.store.now) l.kids.now) + 2
