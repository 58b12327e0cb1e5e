use Rattle.std.proofs.Common.{sym, ◌∙◌, arith, below_more}
use Rattle.dlk_tree.specs.declared.op.Op.TheVariants.{True}
use Rattle.dlk_tree.specs.Trees.{node, no_kids}
use Rattle.dlk_store.specs.Stores.{tree}
use Rattle.dlk_subst.proofs.Unchanged.{without_dots, with_dot}
use Rattle.dlk_memo.proofs.plugging.has_dots.Goals as goal

pub returns-then-has_dot : goal.returns-then-has_dot
returns-then-has_dot g c =
    let trees = g.S.Store.trees c.args.store.now in
    sym (with_dot c.loop-n.n (tree trees c.args.id) (sym c.has_dot.ensures ∙ c.if-has_dot.true))

pub loop-n-preserved : goal.loop-n-preserved
loop-n-preserved g c = below_more _ _ c.loop-n.invariant (sym c.has_dot.ensures ∙ c.if-has_dot.false)

pub returns : goal.returns
returns g c =
    let trees = g.S.Store.trees c.args.store.now in
    let made = g.met.S.Store.well_made c.args.store.now c.args.id.0 (node True no_kids) c.requires in
    sym (without_dots (tree trees c.args.id) made (λ n h. c.loop-n.invariant n (omega arith)))
