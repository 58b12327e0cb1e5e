use Rattle.std.proofs.Common.{◌∙◌, ap, ◌<◌, [], ◌∷◌, ◌++◌, length, rules, arith}
use Rattle.dlk_store.specs.declared.Id.{Id}
use Rattle.dlk_store.specs.Stores.{tree, kid_trees}
use Rattle.dlk_store.proofs.Kids.{kid_smaller, kid_trees-drop}
use Rattle.dlk_derive.specs.Plans.{plan_all}
use Rattle.dlk_derive.proofs.Collecting.{uses_at, begins, next, ends}
use Rattle.dlk_derive.proofs.Planned.{named, kids_derivable}
use Rattle.dlk_derive.proofs.planning.+add_uses.Goals as goal

pub use_of-requires : goal.use_of-requires
use_of-requires g t c =
    let trees = g.S.Store.trees c.args.store.now in
    named (tree trees c.args.id) c.look-node.result.op.now (kid_trees trees c.look-node.result.kids.now) c.look-node.ensures.node c.requires.derivable

pub loop-n-init : goal.loop-n-init
loop-n-init g t c =
    let trees = g.S.Store.trees c.args.store.now in
    let op = c.look-node.result.op.now in
    let kids = kid_trees trees c.look-node.result.kids.now in
    record {
      left = ap (λ ways. c.push.new.self.items ++ uses_at c.args.place c.args.path.now (plan_all ways kids)) c.ways_for-ways.ensures
          ∙ begins c.args.place c.args.path.now c.args.uses.now.items c.push.new.self.items (tree trees c.args.id) op kids c.look-node.ensures.node
          (c.in_ok-push.ensures.items ∙ ap (λ own. c.args.uses.now.items ++ own ∷ []) c.in_ok-own.ensures);
      cost = rw c.look-node.ensures.node (omega (arith, c.look-node.ensures.step));
    }

pub add_uses-requires : goal.add_uses-requires
add_uses-requires g t c κs within =
    let trees = g.S.Store.trees c.args.store.now in
    let op = c.look-node.result.op.now in
    let ks = c.look-node.result.kids.now in
    let d : Id = record { 0 = 0 } in
    let there : c.loop-n.n < length ks = omega arith in
    let less = kid_smaller trees (tree trees c.args.id) op ks c.loop-n.n d c.look-node.ensures.node there in
    let derivable = kids_derivable trees (tree trees c.args.id) op ks c.look-node.ensures.node c.requires.derivable c.loop-n.n d there in
    (omega (arith, less), (search rules, (search rules, (c.look-node.ensures.known c.loop-n.n d there, derivable))))

pub loop-n-preserved : goal.loop-n-preserved
loop-n-preserved g t c =
    let trees = g.S.Store.trees c.args.store.now in
    let ks = c.look-node.result.kids.now in
    let d : Id = record { 0 = 0 } in
    let there : c.loop-n.n < length ks = omega arith in
    let paid = rw (kid_trees-drop trees ks c.loop-n.n d there) at c.loop-n.invariant.cost in
    record {
      left = next c.args.place c.args.path.now c.as_slice.result.now c.ways_for-ways.result.now trees c.look-node.result.kids.now c.loop-n.n _ _
          c.loop-n.uses.items c.add_uses.new.uses.items _ (omega arith) (omega arith)
          (c.as_slice.ensures.value ∙ c.in_ok-further.ensures)
          c.in_ok-add_uses.ensures.uses c.loop-n.invariant.left;
      cost = omega (arith, paid, c.in_ok-add_uses.ensures.cost);
    }

pub returns-clause-uses : goal.returns-clause-uses
returns-clause-uses g t c =
    let trees = g.S.Store.trees c.args.store.now in
    ends c.args.place c.args.path.now c.ways_for-ways.result.now trees c.look-node.result.kids.now c.loop-n.n c.loop-n.uses.items _
    (omega arith) c.loop-n.invariant.left
