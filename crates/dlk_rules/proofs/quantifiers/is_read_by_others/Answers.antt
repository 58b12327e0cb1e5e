use Rattle.std.proofs.Common.{arith}
use Rattle.dlk_tree.specs.Statics.{free}
use Rattle.dlk_store.specs.Stores.{tree}
use Rattle.dlk_rules.proofs.Quantified.{list_any_remove}
use Rattle.dlk_rules.proofs.quantifiers.is_read_by_others.Goals as goal

pub returns-then-is_read_by_any : goal.returns-then-is_read_by_any
returns-then-is_read_by_any g c =
    let split = list_any_remove (λ t. free t c.args.v.now) (tree (g.S.Store.trees c.args.store.now)) c.args.formulas.now c.args.place in
    grind arith

pub returns-else-is_read_by_any : goal.returns-else-is_read_by_any
returns-else-is_read_by_any g c =
    let split = list_any_remove (λ t. free t c.args.v.now) (tree (g.S.Store.trees c.args.store.now)) c.args.formulas.now c.args.place in
    grind arith
