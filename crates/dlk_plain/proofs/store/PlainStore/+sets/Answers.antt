use Rattle.std.proofs.Common.{◌≡◌, ◌∙◌, refl, sym, ap, subst, arith, rules, ℕ, List, [], ◌∷◌, length, get_or, ⊎_elim}
use Rattle.std.proofs.Math.Bool.{or-false}
use Rattle.dlk_tree.specs.Statics.{Sets, statics, sets, sets_all}
use Rattle.dlk_tree.specs.Table.{kid_sorts}
use Rattle.dlk_tree.specs.Trees.{Tree, node}
use Rattle.dlk_tree.specs.declared.op.Op.{Op}
use Rattle.dlk_tree.specs.declared.op.Op.TheVariants.{Choice, Seq, Box, Dia}
use Rattle.dlk_store.specs.Stores.{tree, kid_trees}
use Rattle.dlk_store.specs.declared.Id.{Id}
use Rattle.dlk_store.proofs.Kids.{kid_size, two_kids}
use Rattle.dlk_plain.specs.Plain.{trees_of}
use Rattle.dlk_plain.specs.Sets.{members, members_are, union, meet, minus, empty}
use Rattle.dlk_plain.specs.declared.sets.Members.{Members}
use Rattle.dlk_plain.proofs.store.PlainStore.+sets.Goals as goal

-- an id, for a place that isn't there
abbrev no_id : Id
no_id = record { 0 = 0 }

pub of_kids-sets_at-kid-requires : goal.of_kids-sets_at-kid-requires
of_kids-sets_at-kid-requires t c =
    let trees = trees_of c.args.self.now.nodes.items in
    (omega (arith, kid_size trees c.args.kids.now c.loop-k.k-index no_id c.loop-k-test.true), c.requires c.loop-k.k-index no_id c.loop-k-test.true)

-- the row of an operator of two kids, on the two variables of a name
record IsRow (op : Op) (row : Members → Members → Members) : Type 0 where
  arity : length (kid_sorts op) ≡ 2
  members_of : (x : List ℕ) (a b : Sets) → row (members x a) (members x b) ≡ members x (statics op (a ∷ b ∷ []))

abbrev choice_row : Members → Members → Members
choice_row m n = members_are (union m.free n.free) (union m.bound n.bound) (meet m.must n.must)

abbrev sequence_row : Members → Members → Members
sequence_row m n = members_are (union m.free (minus n.free m.must)) (union m.bound n.bound) (union m.must n.must)

abbrev modal_row : Members → Members → Members
modal_row m n = members_are (union m.free (minus n.free m.must)) (union m.bound n.bound) empty

choice : IsRow Choice choice_row
choice = record { arity = refl; members_of = λ x a b. simp or-false }

sequence : IsRow Seq sequence_row
sequence = record { arity = refl; members_of = λ x a b. simp or-false }

box : IsRow Box modal_row
box = record { arity = refl; members_of = λ x a b. simp or-false }

diamond : IsRow Dia modal_row
diamond = record { arity = refl; members_of = λ x a b. simp or-false }

-- what such a row makes of the members of the two kids is that of the tree
of_two : {op : Op} {row : Members → Members → Members} → IsRow op row → (x : List ℕ) (trees : List Tree) (t : Tree) (ks : List Id) (m n result : Members)
    → result ≡ row m n
    → length ks ≡ length (kid_sorts op)
    → t ≡ node op (kid_trees trees ks)
    → m ≡ members x (sets (tree trees (get_or ks 0 no_id)))
    → n ≡ members x (sets (tree trees (get_or ks 1 no_id)))
    → result ≡ members x (sets t)
of_two {op} {row} r x trees t ks m n result is arity e first second =
    let two = ap sets e ∙ ap (λ kids. statics op (sets_all kids)) (two_kids trees ks no_id (arity ∙ r.arity)) in
    rw (is, first, second) (r.members_of x _ _ ∙ ap (members x) (sym two))

pub sets_at-returns-in-Choice : goal.sets_at-returns-in-Choice
sets_at-returns-in-Choice t c =
    let r = subst (λ op. IsRow op choice_row) (sym c.in-Choice.is) choice in
    of_two r c.args.name.now (trees_of c.args.self.now.nodes.items) _ c.node-node.result.kids.now _ _ _ c.or.ensures c.node-node.ensures.arity
    c.node-node.ensures.node c.sets_at.ensures c.sets_at-in-Choice.ensures

pub sets_at-returns-in-Seq : goal.sets_at-returns-in-Seq
sets_at-returns-in-Seq t c =
    let r = subst (λ op. IsRow op sequence_row) (sym c.in-Seq.is) sequence in
    of_two r c.args.name.now (trees_of c.args.self.now.nodes.items) _ c.node-node.result.kids.now _ _ _ c.then.ensures c.node-node.ensures.arity
    c.node-node.ensures.node c.sets_at-in-Seq.ensures c.sets_at-in-Seq-2.ensures

pub sets_at-returns-in-Box : goal.sets_at-returns-in-Box
sets_at-returns-in-Box t c =
    let op = c.node-node.result.op.now in
    let r = ⊎_elim (λ (is : op ≡ Box). subst (λ o. IsRow o modal_row) (sym is) box) (λ (is : op ≡ Dia). subst (λ o. IsRow o modal_row) (sym is) diamond)
    c.in-Box.is in
    of_two r c.args.name.now (trees_of c.args.self.now.nodes.items) _ c.node-node.result.kids.now _ _ _ c.modal.ensures c.node-node.ensures.arity
    c.node-node.ensures.node c.sets_at-in-Box.ensures c.sets_at-in-Box-2.ensures

pub sets_at-returns-in_default : goal.sets_at-returns-in_default
sets_at-returns-in_default t c = rw (c.of_kids-in_default.ensures, c.node-node.ensures.node) (search rules)
