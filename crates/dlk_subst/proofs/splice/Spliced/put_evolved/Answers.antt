use Rattle.std.proofs.Common.{◌∙◌, sym, ap, ◌++◌, ◌∷◌, []}
use Rattle.dlk_tree.specs.declared.op.OdeItem.TheVariants as Item
use Rattle.dlk_subst.proofs.Splicing.{evolved_put}
use Rattle.dlk_subst.proofs.splice.Spliced.put_evolved.Goals as goal

pub returns-in_ok-push-in-Some : goal.returns-in_ok-push-in-Some
returns-in_ok-push-in-Some c = λ trees pairs.
    let items = c.in_ok-push.ensures.items ∙ ap (λ x. c.args.self.now.items.items ++ Item.Evolve x ∷ []) (sym c.in_ok-clone.ensures.cases) in
    evolved_put trees pairs c.args.x.now c.in-Some.side.now c.args.kids.now c.in-Some.later.now c.args.self.now
    (record { items = c.push.new.self; kids = c.push-in-Some.new.self }) c.in-Some.ensures.cases.0 items c.in_ok-push-in-Some.ensures.items
