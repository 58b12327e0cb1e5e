-- What is known of nodes in their tables, and what an operator or a node more does.
use Rattle.std.proofs.Common.{◌≡◌, ℕ, suc, ◌<◌, ◌≤◌, Bool, true, false, cond, List, [], ◌∷◌, ◌++◌, length, get_or, slice_get, Some, Result, Ok, Err}
use Rattle.std.proofs.Common.{IfOk, OnErr, refl, sym, ap, subst, ◌∙◌, arith, ⊎_elim}
use Rattle.std.specs.Prelude.{All}
use Rattle.std.specs.List.{list_any}
use Rattle.std.proofs.lemmas.List.{get_or_append_left, length-append, length-map, get_or-map, map-append}
use Rattle.std.proofs.Math.Seq.{get_or-append_seam}
use Rattle.std.proofs.lemmas.Bool.{cases_lt}
use Rattle.std.proofs.lemmas.Option.{slice_get_within, get_or_from_slice_get}
use Rattle.indexmap.specs.IndexSet.{insert_key}
use Rattle.dlk_tree.specs.declared.op.Op.{Op}
use Rattle.dlk_tree.specs.declared.op.Op.TheVariants.{True}
use Rattle.dlk_tree.specs.Trees.{Tree, node, WellMade}
use Rattle.dlk_tree.specs.Table.{Fits}
use Rattle.dlk_store.specs.declared.Id.{Id}
use Rattle.dlk_store.specs.Stores.{IsId, tree, kid_trees, sorts_at, Keeps, StandsFor}
use Rattle.dlk_shared.specs.Rows.{Row, tree_of, trees_of_rows, AreSoundRows}
use Rattle.dlk_shared.specs.Growth.{rows_length, tree_at, kids_known, rows_made, push_row_keeps, push_row_sound, push_row_stands}
use Rattle.dlk_shared.specs.Nodes.{op_at, row_of, rows_of, trees_of, AreSoundNodes, EachIs}
use Rattle.dlk_shared.specs.declared.node.Key.{Key}
use Rattle.dlk_shared.specs.declared.node.Facts.{Facts}

pub nodes_length : (ops : List Op) (nodes : List (Key × Facts)) → length (trees_of ops nodes) ≡ length nodes
nodes_length ops nodes = rows_length (rows_of ops nodes) ∙ length-map nodes (λ n. row_of ops n.0)

pub some_node : (nodes : List (Key × Facts)) → 0 < length nodes → Key × Facts
some_node [] h = absurd (omega arith)
some_node (n ∷ ns) h = n

-- ---- what is kept of a node

module _ (ops : List Op) (nodes : List (Key × Facts)) (sound : AreSoundNodes ops nodes) (id : Id) (k : Key) (m : Facts)
    (at : slice_get nodes id.0 ≡ Some (k, m)) where
  within : id.0 < length nodes
  within = slice_get_within nodes id.0 (k, m) at

  in_rows : id.0 < length (rows_of ops nodes)
  in_rows = omega (arith, within, length-map nodes (λ n. row_of ops n.0))

  is : get_or nodes id.0 (k, m) ≡ (k, m)
  is = get_or_from_slice_get nodes id.0 (k, m) (k, m) at

  row_is : get_or (rows_of ops nodes) id.0 (row_of ops k) ≡ row_of ops k
  row_is = get_or-map (λ (n : Key × Facts). row_of ops n.0) nodes id.0 (k, m) (row_of ops k) within ∙ ap (λ (n : Key × Facts). row_of ops n.0) is

  pub kept_tree : tree (trees_of ops nodes) id ≡ node (op_at ops k.op) (kid_trees (trees_of ops nodes) k.kids)
  kept_tree = tree_at (rows_of ops nodes) sound.rows id.0 (row_of ops k) in_rows ∙ ap (tree_of (trees_of ops nodes)) row_is

  pub kept_op : k.op < length ops
  kept_op = subst (λ (n : Key × Facts). n.0.op < length ops) is (sound.known id.0 (k, m) within)

  pub kept_kids : All (IsId (trees_of ops nodes)) k.kids
  kept_kids = subst (λ (r : Row). All (IsId (trees_of ops nodes)) r.kids) row_is (kids_known (rows_of ops nodes) sound.rows id.0 (row_of ops k) in_rows)

  pub kept_facts : (P : Tree → Facts → Type 0) → EachIs P (trees_of ops nodes) nodes → P (tree (trees_of ops nodes) id) m
  kept_facts P each = subst (λ (n : Key × Facts). P (tree (trees_of ops nodes) id) n.1) is (each id.0 (k, m) within)

-- ---- an operator more

-- each operator keeps its number
pub record KeepsOps (old new : List Op) : Type 0 where
  pub known : length old ≤ length new
  pub same : (n : ℕ) → n < length old → op_at new n ≡ op_at old n

module _ (eq : Op → Op → Bool) (ops : List Op) (op : Op) where
  pub inserted_keeps : KeepsOps ops (insert_key eq ops op)
  inserted_keeps = elim (list_any (eq op) ops) as (λ b. KeepsOps ops (cond b ops (ops ++ op ∷ []))) [
    | true ↦ record { known = omega arith; same = λ n h. refl }
    | false ↦ record { known = omega (arith, length-append ops (op ∷ [])); same = λ n h. get_or_append_left ops (op ∷ []) True n h }
  ]

  -- what an insertion that may fail leaves
  pub tried_keeps : {T E : Type 0} (r : Result T E) (new : List Op) → IfOk r (λ _. new ≡ insert_key eq ops op) → OnErr r (new ≡ ops) → KeepsOps ops new
  tried_keeps (Ok x) new ok err = subst (KeepsOps ops) (sym ok) inserted_keeps
  tried_keeps (Err y) new ok err = subst (KeepsOps ops) (sym err) (record { known = omega arith; same = λ n h. refl })

module _ {old new : List Op} (keeps : KeepsOps old new) where
  pub rows_kept : (nodes : List (Key × Facts)) → All (λ n. n.0.op < length old) nodes → rows_of new nodes ≡ rows_of old nodes
  rows_kept [] known = refl
  rows_kept (n ∷ ns) known =
      let first = keeps.same n.0.op (known 0 n (omega arith)) in
      let rest = rows_kept ns (λ i d h. known (suc i) d (omega arith)) in
      λ i. record { op = first i; kids = n.0.kids } ∷ rest i

  pub nodes_kept : (nodes : List (Key × Facts)) → AreSoundNodes old nodes → AreSoundNodes new nodes
  nodes_kept nodes sound =
      let same = rows_kept nodes sound.known in
      record {
        rows = subst AreSoundRows (sym same) sound.rows;
        known = λ i d h. omega (arith, sound.known i d h, keeps.known);
      }

-- ---- a node more

module _ (ops : List Op) (nodes : List (Key × Facts)) (k : Key) (m : Facts) where
  more_rows : rows_of ops (nodes ++ (k, m) ∷ []) ≡ rows_of ops nodes ++ row_of ops k ∷ []
  more_rows = map-append (λ (n : Key × Facts). row_of ops n.0) nodes ((k, m) ∷ [])

  pub push_keeps : Keeps (trees_of ops nodes) (trees_of ops (nodes ++ (k, m) ∷ []))
  push_keeps = subst (λ rows. Keeps (trees_of ops nodes) (trees_of_rows rows)) (sym more_rows) (push_row_keeps (rows_of ops nodes) (row_of ops k))

  pub push_stands : (id : Id) → id.0 ≡ length nodes → StandsFor (trees_of ops (nodes ++ (k, m) ∷ [])) id (tree_of (trees_of ops nodes) (row_of ops k))
  push_stands id e = subst (λ rows. StandsFor (trees_of_rows rows) id (tree_of (trees_of ops nodes) (row_of ops k))) (sym more_rows)
      (push_row_stands (rows_of ops nodes) (row_of ops k) id (omega (arith, length-map nodes (λ n. row_of ops n.0))))

  module _ (sound : AreSoundNodes ops nodes) (known : k.op < length ops) (kids : All (IsId (trees_of ops nodes)) k.kids)
      (fits : Fits (op_at ops k.op) (sorts_at (trees_of ops nodes) k.kids)) where
    pub push_sound : AreSoundNodes ops (nodes ++ (k, m) ∷ [])
    push_sound = record {
      rows = subst AreSoundRows (sym more_rows) (push_row_sound (rows_of ops nodes) (row_of ops k) sound.rows kids fits);
      known = λ i d h. ⊎_elim
          (λ (lt : i < length nodes). rw (get_or_append_left nodes ((k, m) ∷ []) d i lt) (sound.known i d lt))
          (λ (le : length nodes ≤ i). let at : i ≡ length nodes = omega (arith, length-append nodes ((k, m) ∷ [])) in
          rw (at, get_or-append_seam nodes (k, m) [] d) known)
          (cases_lt i (length nodes));
    }

    pub tried_sound : {T E : Type 0} (r : Result T E) (new : List (Key × Facts)) → IfOk r (λ _. new ≡ nodes ++ (k, m) ∷ []) → OnErr r (new ≡ nodes)
        → AreSoundNodes ops new
    tried_sound (Ok x) new ok err = subst (AreSoundNodes ops) (sym ok) push_sound
    tried_sound (Err y) new ok err = subst (AreSoundNodes ops) (sym err) sound

  pub push_facts : (P : Tree → Facts → Type 0) → EachIs P (trees_of ops nodes) nodes → P (tree_of (trees_of ops nodes) (row_of ops k)) m
      → EachIs P (trees_of ops (nodes ++ (k, m) ∷ [])) (nodes ++ (k, m) ∷ [])
  push_facts P each new i d h = ⊎_elim
      (λ (lt : i < length nodes).
      let was = push_keeps.same (record { 0 = i }) (omega (arith, nodes_length ops nodes)) in
      rw (get_or_append_left nodes ((k, m) ∷ []) d i lt, was) (each i d lt))
      (λ (le : length nodes ≤ i). let at : i ≡ length nodes = omega (arith, length-append nodes ((k, m) ∷ [])) in
      let is = (push_stands (record { 0 = i }) at).tree_is in
      rw is (rw (at, get_or-append_seam nodes (k, m) [] d) new))
      (cases_lt i (length nodes))

  pub tried_facts : (P : Tree → Facts → Type 0) → EachIs P (trees_of ops nodes) nodes → P (tree_of (trees_of ops nodes) (row_of ops k)) m
      → {T E : Type 0} (r : Result T E) (new : List (Key × Facts)) → IfOk r (λ _. new ≡ nodes ++ (k, m) ∷ []) → OnErr r (new ≡ nodes)
      → EachIs P (trees_of ops new) new
  tried_facts P each here (Ok x) new ok err = subst (λ ns. EachIs P (trees_of ops ns) ns) (sym ok) (push_facts P each here)
  tried_facts P each here (Err y) new ok err = subst (λ ns. EachIs P (trees_of ops ns) ns) (sym err) each

pub nodes_made : (ops : List Op) (nodes : List (Key × Facts)) → AreSoundNodes ops nodes → All WellMade (trees_of ops nodes)
nodes_made ops nodes sound = rows_made (rows_of ops nodes) sound.rows
