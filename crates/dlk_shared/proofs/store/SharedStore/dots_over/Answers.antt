use Rattle.std.proofs.Common.{◌+◌, ◌==◌, ◌||◌, drop, sym, ap, ◌∙◌}
use Rattle.std.specs.Int.{bit_at}
use Rattle.std.proofs.Math.Bool.{or_assoc}
use Rattle.dlk_tree.specs.Occurs.{any_has, is_dot}
use Rattle.dlk_store.specs.declared.Id.{Id}
use Rattle.dlk_store.specs.Stores.{kid_trees}
use Rattle.dlk_store.proofs.Kids.{kid_trees-drop}
use Rattle.dlk_shared.specs.Nodes.{trees_of}
use Rattle.dlk_shared.proofs.Bits.{own_dot, or_bit}
use Rattle.dlk_shared.proofs.store.SharedStore.dots_over.Goals as goal

pub loop-k-init : goal.loop-k-init
loop-k-init c n =
    let kids = kid_trees (trees_of c.args.self.now.ops.keys c.args.self.now.nodes.entries) c.args.kids.now in
    ap (λ b. b || any_has (is_dot n) kids) (ap (λ d. bit_at d n == 1) c.dot_bit-dots.ensures ∙ own_dot c.args.op.now n)

pub loop-k-preserved : goal.loop-k-preserved
loop-k-preserved c n =
    let trees = trees_of c.args.self.now.ops.keys c.args.self.now.nodes.entries in
    let kids = c.args.kids.now in
    let d : Id = record { 0 = 0 } in
    let rest = any_has (is_dot n) (kid_trees trees (drop (c.loop-k.k-index + 1) kids)) in
    let dots = c.loop-k.dots in
    let more = c.facts-dots.result.dots in
    ap (λ b. b || rest) (or_bit dots more n) ∙ or_assoc (bit_at dots n == 1) (bit_at more n == 1) rest
    ∙ ap (λ b. (bit_at dots n == 1) || (b || rest)) (c.facts-dots.ensures.dots_are n)
    ∙ ap (λ ts. (bit_at dots n == 1) || any_has (is_dot n) ts) (sym (kid_trees-drop trees kids c.loop-k.k-index d c.loop-k-test.true))
    ∙ c.loop-k.invariant n
