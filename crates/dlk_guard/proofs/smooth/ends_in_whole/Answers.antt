use Rattle.std.proofs.Common.{◌≡◌, ◌∙◌, false, sym, ap, refl}
use Rattle.dlk_tree.specs.declared.op.Num.{Num}
use Rattle.dlk_tree.specs.declared.op.Op.{Op}
use Rattle.dlk_tree.specs.declared.op.Op.TheVariants as Op'
use Rattle.dlk_tree.specs.Trees.{node, Forest}
use Rattle.dlk_store.specs.Stores.{kid_trees}
use Rattle.dlk_guard.specs.Smooth.{is_whole}
use Rattle.dlk_guard.proofs.smooth.ends_in_whole.Goals as goal
use Rattle.dlk_sequent.proofs.Last.{last_kid}

not_whole : (op : Op) (kids : Forest) → ((n : Num) → op ≡ Op'.Number n → ⊥) → is_whole (node op kids) ≡ false
not_whole (Op'.Number n) kids h = absurd (h n refl)
not_whole _ kids h = refl

pub returns-in-Number-clause-value : goal.returns-in-Number-clause-value
returns-in-Number-clause-value g c =
    let trees = g.S.Store.trees c.args.store.now in
    let is = last_kid trees c.args.ids.now c.in-Some.id.now (sym c.in-Some.ensures.value) ∙ c.look.ensures.node in
    sym (ap is_whole is ∙ ap (λ op. is_whole (node op (kid_trees trees c.look.result.kids.now))) c.in-Number.is)

pub returns-in_default-op-clause-value : goal.returns-in_default-op-clause-value
returns-in_default-op-clause-value g c =
    let trees = g.S.Store.trees c.args.store.now in
    let is = last_kid trees c.args.ids.now c.in-Some.id.now (sym c.in-Some.ensures.value) ∙ c.look.ensures.node in
    sym (ap is_whole is ∙ not_whole c.look.result.op.now (kid_trees trees c.look.result.kids.now) c.in_default-op.not-Number)
