-- Ids that have a node, and their trees.
use Rattle.std.proofs.Common.{◌≡◌, ℕ, suc, ◌+◌, ◌<◌, ◌≤◌, Bool, true, false, not, nat_lt, Some, None, ◌||◌, cond, List, [], ◌∷◌, ◌++◌, length, drop}
use Rattle.std.proofs.Common.{refl, sym, ap, ◌∙◌, append_assoc, append-nil, arith, inl, inr}
use Rattle.std.specs.Prelude.{All, position, unwrap_or, if◌then◌else◌}
use Rattle.std.specs.List.{position_or_len}
use Rattle.std.proofs.lemmas.List.Sums.{prefix_len-le-length}
use Rattle.std.proofs.lemmas.Bool.{cases_Bool, cases_lt, lt-ltb, eqb-true, eq-eqb}
use Rattle.std.proofs.lemmas.List.{map-append, drop_all}
use Rattle.std.proofs.lemmas.List.Elements.{All-head, All-tail}
use Rattle.dlk_tree.specs.Trees.{Tree, node, Forest, kid, size, size_all}
use Rattle.dlk_tree.specs.declared.op.Op.{Op}
use Rattle.dlk_tree.specs.TreeTests.{tree_eq}
use Rattle.dlk_tree.proofs.TreeSame.{tree_decides}
use Rattle.dlk_store.specs.declared.Id.{Id}
use Rattle.dlk_store.specs.Stores.{IsId, tree, kid_trees, HasOneId}
use Rattle.dlk_nodes.specs.Nodes.{has_node}
use Rattle.dlk_nodes.specs.Tables.{nodes_at, id_eq, has}
use Rattle.dlk_lines.specs.Written.{place_of}
use Rattle.dlk_nodes.specs.Terms.{new_nodes, new_in_kids}
use Rattle.dlk_nodes.proofs.Places.{in_neither}
use Rattle.dlk_nodes.proofs.NewNodes.{absent_in_kids}

-- in a unique store an id has a node exactly where its tree has one
module _ (trees : List Tree) (one : HasOneId trees) where
  same_test : (a b : Id) → IsId trees a → IsId trees b → id_eq a b ≡ tree_eq (tree trees a) (tree trees b)
  same_test a b p q = elim (cases_Bool (tree_eq (tree trees a) (tree trees b))) [
    | inl same ↦
        let ids : a ≡ b = one a b p q ((tree_decides (tree trees a) (tree trees b)).0 same) in
        eq-eqb a.0 b.0 (ap (λ (i : Id). i.0) ids) ∙ sym same
    | inr other ↦ elim (cases_Bool (id_eq a b)) [
      | inl equal ↦
          let places : a.0 ≡ b.0 = eqb-true a.0 b.0 equal in
          let ids : a ≡ b = λ t. record { 0 = places t } in
          let same : true ≡ false = sym ((tree_decides (tree trees a) (tree trees b)).1 (ap (tree trees) ids)) ∙ other in
          absurd (cc same)
      | inr unlike ↦ unlike ∙ sym other
    ]
  ]

  pub has_same : (ids : List Id) (id : Id) → All (IsId trees) ids → IsId trees id → has ids id ≡ has_node (nodes_at trees ids) (tree trees id)
  has_same [] id all known = refl
  has_same (i ∷ ids) id all known =
      let first = same_test id i known (All-head (IsId trees) i ids all) in
      let rest = has_same ids id (All-tail (IsId trees) i ids all) known in
      λ t. first t || rest t

  -- where its node stands
  pub place_is : (ids : List Id) (id : Id) → All (IsId trees) ids → IsId trees id → position_or_len (id_eq id) ids ≡ place_of (nodes_at trees ids) (tree trees id)
  place_is [] id all known = refl
  place_is (i ∷ ids) id all known =
      by_test (id_eq id i) (tree_eq (tree trees id) (tree trees i)) (same_test id i known (All-head (IsId trees) i ids all)) (place_is ids id
      (All-tail (IsId trees) i ids all) known)
    where
      by_test : (b c : Bool) → b ≡ c → position_or_len (id_eq id) ids ≡ place_of (nodes_at trees ids) (tree trees id) →
          cond (not b) (1 + position_or_len (id_eq id) ids) 0 ≡ (if c then 0 else suc (place_of (nodes_at trees ids) (tree trees id)))
      by_test true true e h = refl
      by_test true false e h = absurd (cc e)
      by_test false true e h = absurd (cc e)
      by_test false false e h = omega (arith, h)

-- where the node stands, as looking the id up says
pub place_or_len : (ids : List Id) (id : Id) → unwrap_or (position (id_eq id) ids) (length ids) ≡ position_or_len (id_eq id) ids
place_or_len ids id = by_test (nat_lt (position_or_len (id_eq id) ids) (length ids)) past
  where
    past : nat_lt (position_or_len (id_eq id) ids) (length ids) ≡ false → length ids ≡ position_or_len (id_eq id) ids
    past e = elim (cases_lt (position_or_len (id_eq id) ids) (length ids)) [
      | inl less ↦ let clash : true ≡ false = sym (lt-ltb _ _ less) ∙ e in absurd (cc clash)
      | inr le ↦ let within = prefix_len-le-length (λ x. not (id_eq id x)) ids in omega (arith, le, within)
    ]

    by_test : (b : Bool) → (b ≡ false → length ids ≡ position_or_len (id_eq id) ids) →
        unwrap_or (cond b (Some (position_or_len (id_eq id) ids)) None) (length ids) ≡ position_or_len (id_eq id) ids
    by_test true e = refl
    by_test false e = e refl

-- the nodes of a tree that has one
pub none_new : (nodes : List Tree) (t : Tree) → has_node nodes t ≡ true → nodes ≡ nodes ++ new_nodes nodes t
none_new nodes (node op kids) h = sym (ap (λ b. nodes ++ (cond b [] (new_in_kids nodes kids ++ node op kids ∷ []))) h ∙ append-nil nodes)

-- the nodes of the next kid
pub next_kid : (nodes new : List Tree) (t : Tree) (rest : Forest) → new ≡ nodes ++ new_nodes nodes t →
    new ++ new_in_kids new rest ≡ nodes ++ new_in_kids nodes (kid t rest)
next_kid nodes new t rest e =
    ap (λ n. n ++ new_in_kids n rest) e ∙ append_assoc nodes (new_nodes nodes t) (new_in_kids (nodes ++ new_nodes nodes t) rest)

-- a node isn't among those of its kids
pub still_new : (nodes now : List Tree) (op : Op) (kids : Forest) → has_node nodes (node op kids) ≡ false → now ≡ nodes ++ new_in_kids nodes kids →
    has_node now (node op kids) ≡ false
still_new nodes now op kids none e =
    let less : size_all kids < size (node op kids) = omega arith in
    ap (λ n. has_node n (node op kids)) e ∙ in_neither nodes (new_in_kids nodes kids) (node op kids) none (absent_in_kids nodes kids (node op kids) less)

-- and then it is put behind them
pub node_last : (nodes now : List Tree) (op : Op) (kids : Forest) → has_node nodes (node op kids) ≡ false → now ≡ nodes ++ new_in_kids nodes kids →
    now ++ node op kids ∷ [] ≡ nodes ++ new_nodes nodes (node op kids)
node_last nodes now op kids none e =
    ap (λ n. n ++ node op kids ∷ []) e ∙ append_assoc nodes (new_in_kids nodes kids) (node op kids ∷ [])
    ∙ sym (ap (λ b. nodes ++ (cond b [] (new_in_kids nodes kids ++ node op kids ∷ []))) none)

-- the nodes of all kids, once none is left
pub all_added : (trees old now : List Tree) (ks : List Id) (i : ℕ) → length ks ≤ i →
    now ++ new_in_kids now (kid_trees trees (drop i ks)) ≡ old ++ new_in_kids old (kid_trees trees ks) → now ≡ old ++ new_in_kids old (kid_trees trees ks)
all_added trees old now ks i le e =
    let none : drop i ks ≡ [] = drop_all i ks le in
    sym (append-nil now) ∙ sym (ap (λ (l : List Id). now ++ new_in_kids now (kid_trees trees l)) none) ∙ e

-- the nodes with one more
pub one_more_node : (trees : List Tree) (ids new : List Id) (id : Id) (t : Tree) → new ≡ ids ++ id ∷ [] → tree trees id ≡ t →
    nodes_at trees new ≡ nodes_at trees ids ++ t ∷ []
one_more_node trees ids new id t e is = ap (nodes_at trees) e ∙ map-append (tree trees) ids (id ∷ []) ∙ ap (λ u. nodes_at trees ids ++ u ∷ []) is
