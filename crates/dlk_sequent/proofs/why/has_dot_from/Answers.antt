use Rattle.std.proofs.Common.{arith}
use Rattle.dlk_tree.specs.Trees.{node, no_kids}
use Rattle.dlk_tree.specs.declared.op.Op.TheVariants.{True}
use Rattle.dlk_store.specs.Stores.{tree}
use Rattle.dlk_sequent.proofs.Dots.{dot_found, dot_passed, no_more_dots}
use Rattle.dlk_sequent.proofs.why.has_dot_from.Goals as goal

pub returns-then-has_dot : goal.returns-then-has_dot
returns-then-has_dot g c =
    dot_found c.args.arity c.loop-n.n (tree (g.S.Store.trees c.args.store.now) c.args.id) c.loop-n.invariant c.if-has_dot.ensures

pub loop-n-preserved : goal.loop-n-preserved
loop-n-preserved g c =
    dot_passed c.args.arity c.loop-n.n (tree (g.S.Store.trees c.args.store.now) c.args.id) c.loop-n.invariant c.if-has_dot.ensures

-- the trees of a store are well made
pub returns : goal.returns
returns g c =
    let made = g.met.S.Store.well_made c.args.store.now c.args.id.0 (node True no_kids) c.requires in
    no_more_dots c.args.arity c.loop-n.n (tree (g.S.Store.trees c.args.store.now) c.args.id) c.loop-n.invariant (omega arith) made
