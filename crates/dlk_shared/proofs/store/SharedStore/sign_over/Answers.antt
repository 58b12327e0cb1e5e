use Rattle.std.proofs.Common.{◌≡◌, ◌||◌, get_or, ap, ◌∙◌}
use Rattle.std.specs.List.{list_any}
use Rattle.std.proofs.lemmas.List.{get_or_default}
use Rattle.dlk_tree.specs.Occurs.{any_has, has_symbol}
use Rattle.dlk_tree.specs.declared.op.Op.TheVariants.{True}
use Rattle.dlk_store.specs.Stores.{kid_trees}
use Rattle.dlk_shared.specs.Signs.{sign_at}
use Rattle.dlk_shared.proofs.SignLemmas.{signs_same}
use Rattle.dlk_shared.specs.Nodes.{op_at, trees_of}
use Rattle.dlk_shared.proofs.SetsGrow.{facts_kept}
use Rattle.dlk_shared.proofs.SetLemmas.{keeps_refl}
use Rattle.dlk_shared.proofs.store.SharedStore.sign_over.Goals as goal

pub invariant_of-self-clause-facts : goal.invariant_of-self-clause-facts
invariant_of-self-clause-facts c =
    let s = c.args.self.now in
    facts_kept (keeps_refl s.sets) c.node_sign.ensures.keeps (trees_of s.ops.keys s.nodes.entries) s.nodes.entries s.facts

pub returns-in-Ok-clause-signs : goal.returns-in-Ok-clause-signs
returns-in-Ok-clause-signs c =
    let s = c.args.self.now in
    let key = c.args.key.now in
    let trees = trees_of s.ops.keys s.nodes.entries in
    let op : c.index-as_slice-key.result ≡ op_at s.ops.keys key.op =
    c.index-as_slice-key.is ∙ ap (λ l. get_or l key.op c.index-as_slice-key.result) c.as_slice-2.ensures.keys
    ∙ get_or_default s.ops.keys key.op c.index-as_slice-key.result True c.requires.op in
    let items = c.as_slice-3.ensures.value in
    signs_same (λ x. (λ i. has_symbol x (op i) || list_any (λ k. sign_at s.signs k x) (items i))
    ∙ ap (λ b. has_symbol x (op_at s.ops.keys key.op) || b) (c.in_ok-kids.ensures.are x)
    ∙ ap (λ l. has_symbol x (op_at s.ops.keys key.op) || any_has (has_symbol x) (kid_trees trees l)) c.as_slice.ensures) c.in-Ok.ensures.signs
