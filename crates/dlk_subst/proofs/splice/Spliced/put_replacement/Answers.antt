use Rattle.std.proofs.Common.{◌≡◌, ◌∙◌, sym, ap}
use Rattle.dlk_tree.specs.declared.op.Op.TheVariants as Op'
use Rattle.dlk_store.specs.Stores.{tree, kid_trees}
use Rattle.dlk_subst.proofs.Splicing.{replacement_fits, system_put, symbol_put, other_put}
use Rattle.dlk_subst.proofs.splice.Spliced.put_replacement.Goals as goal

pub returns-in-System : goal.returns-in-System
returns-in-System c trees made seen =
    let node = c.args.seen.now in
    let is : node.op.now ≡ Op'.System c.items.result.now = c.in-System.is ∙ ap Op'.System (sym c.items.ensures) in
    let fits = replacement_fits trees node.id node.op.now c.items.result.now node.kids.now made seen.known seen.node_is is in
    system_put trees (tree trees node.id) c.args.s.now node.op.now c.items.result.now node.kids.now c.args.self.now c.put_system.new.self c.put_system.result
    seen.node_is is fits seen.kids_known c.put_system.ensures.items c.put_system.ensures.kids

pub returns-in_default : goal.returns-in_default
returns-in_default c trees made seen =
    let node = c.args.seen.now in
    let put = symbol_put trees c.args.s.now c.args.self.now c.put_symbol.new.self c.put_symbol.result c.put_symbol.ensures.items c.put_symbol.ensures.kids in
    other_put trees (tree trees node.id) c.args.s.now node.op.now (kid_trees trees node.kids.now) c.args.self.now c.put_symbol.new.self c.put_symbol.result
    seen.node_is c.in_default.not-System put
