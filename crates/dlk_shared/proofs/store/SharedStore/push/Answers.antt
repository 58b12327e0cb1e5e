use Rattle.std.proofs.Common.{◌≡◌, IfOk, Result, Ok, Err, get_or, subst, ap, ◌∙◌}
use Rattle.indexmap.proofs.CallerLemmas.{insert_entry-new}
use Rattle.std.proofs.lemmas.List.{get_or_default}
use Rattle.dlk_tree.specs.declared.op.Op.TheVariants.{True}
use Rattle.dlk_tree.specs.Trees.{node}
use Rattle.dlk_store.specs.Stores.{kid_trees}
use Rattle.dlk_shared.specs.Kept.{IsFactsOf}
use Rattle.dlk_shared.specs.Nodes.{op_at, trees_of}
use Rattle.dlk_shared.specs.Sound.{tried_sound, tried_facts, push_keeps, push_stands}
use Rattle.dlk_shared.specs.contracts.node.KeyPartialEq.TheImpl as KeyEq
use Rattle.dlk_shared.proofs.store.SharedStore.push.Goals as goal

on_ok : {T E A : Type 0} (r : Result T E) (x y z : A) → IfOk r (λ _. x ≡ y) → y ≡ z → IfOk r (λ _. x ≡ z)
on_ok (Ok t) x y z h e = h ∙ e
on_ok (Err t) x y z h e = tt

pub invariant_of-self-clause-sound : goal.invariant_of-self-clause-sound
invariant_of-self-clause-sound c =
    let s = c.args.self.now in
    let f = c.facts_over-facts.result in
    let new = insert_entry-new KeyEq.ghosts.eq s.nodes c.args.key f c.requires.absent in
    tried_sound s.ops.keys s.nodes.entries c.args.key f s.sound c.requires.op c.requires.known c.requires.fits
    c.insert.result c.insert.new.self.entries (on_ok c.insert.result _ _ _ c.insert.ensures.entries new) c.insert.ensures.err

pub invariant_of-self-clause-facts : goal.invariant_of-self-clause-facts
invariant_of-self-clause-facts c =
    let s = c.args.self.now in
    let f = c.facts_over-facts.result in
    let new = insert_entry-new KeyEq.ghosts.eq s.nodes c.args.key f c.requires.absent in
    let trees = trees_of s.ops.keys s.nodes.entries in
    let op : c.index-as_slice-key.result ≡ op_at s.ops.keys c.args.key.op =
    c.index-as_slice-key.is ∙ ap (λ l. get_or l c.args.key.op c.index-as_slice-key.result) c.as_slice.ensures.keys
    ∙ get_or_default s.ops.keys c.args.key.op c.index-as_slice-key.result True c.requires.op in
    let here = subst (λ t. IsFactsOf s.sets s.signs t f) (λ i. node (op i) (kid_trees trees (c.as_slice-2.ensures i))) c.facts_over-facts.ensures in
    tried_facts s.ops.keys s.nodes.entries c.args.key f (IsFactsOf s.sets s.signs) s.facts here
    c.insert.result c.insert.new.self.entries (on_ok c.insert.result _ _ _ c.insert.ensures.entries new) c.insert.ensures.err

pub returns-clause-made : goal.returns-clause-made
returns-clause-made c =
    let s = c.args.self.now in
    let f = c.facts_over-facts.result in
    let new = c.in_ok-insert.ensures.entries ∙ insert_entry-new KeyEq.ghosts.eq s.nodes c.args.key f c.requires.absent in
    rw new (push_stands s.ops.keys s.nodes.entries c.args.key f (record { 0 = c.len.result }) c.len.ensures.len)

pub returns-clause-grows : goal.returns-clause-grows
returns-clause-grows c =
    let s = c.args.self.now in
    let f = c.facts_over-facts.result in
    let new = c.in_ok-insert.ensures.entries ∙ insert_entry-new KeyEq.ghosts.eq s.nodes c.args.key f c.requires.absent in
    rw new (push_keeps s.ops.keys s.nodes.entries c.args.key f)
