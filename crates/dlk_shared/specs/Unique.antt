-- Where no operator and no node stands twice, no tree does.
use Rattle.std.proofs.Common.{◌≡◌, ℕ, ◌<◌, Bool, true, List, length, get_or, sym, ap, subst, ◌∙◌, arith, ◌⊎◌, inl, inr, true≢false}
use Rattle.std.specs.List.{IsDistinct}
use Rattle.std.specs.Map.{keys_of}
use Rattle.std.proofs.lemmas.List.{length-map, get_or-map}
use Rattle.std.proofs.lemmas.Bool.{cases_order}
use Rattle.std.proofs.lemmas.Map.Keys.{apart_from_distinct}
use Rattle.dlk_tree.specs.contracts.op.OpPartialEq.TheImpl as OpEq
use Rattle.dlk_tree.specs.contracts.op.OpEq.TheImpl.Laws.{laws-law as op_laws}
use Rattle.dlk_tree.specs.declared.op.Op.{Op}
use Rattle.dlk_tree.specs.declared.op.Op.TheVariants.{True}
use Rattle.dlk_store.specs.Stores.{HasOneId}
use Rattle.dlk_shared.specs.Rows.{Row}
use Rattle.dlk_shared.specs.Growth.{AreApart, rows_one_id}
use Rattle.dlk_shared.specs.Nodes.{row_of, rows_of, trees_of, AreSoundNodes}
use Rattle.dlk_shared.specs.Sound.{some_node}
use Rattle.dlk_shared.specs.declared.node.Key.{Key}
use Rattle.dlk_shared.specs.declared.node.Facts.{Facts}
use Rattle.dlk_shared.specs.contracts.node.KeyPartialEq.TheImpl as KeyEq
use Rattle.dlk_shared.specs.contracts.node.KeyEq.TheImpl.Laws.{laws-law}

-- what is equal by the test stands at one place
module _ {K : Type 0} (eq : K → K → Bool) (itself : (k : K) → eq k k ≡ true) (ks : List K) (apart : IsDistinct eq ks) where
  pub place_one : (i j : ℕ) (d : K) → i < length ks → j < length ks → get_or ks i d ≡ get_or ks j d → i ≡ j
  place_one i j d p q e = by (cases_order i j)
    where
      alike : eq (get_or ks i d) (get_or ks j d) ≡ true
      alike = subst (λ k. eq (get_or ks i d) k ≡ true) e (itself (get_or ks i d))

      alike_back : eq (get_or ks j d) (get_or ks i d) ≡ true
      alike_back = subst (λ k. eq k (get_or ks i d) ≡ true) e (itself (get_or ks i d))

      by : (i ≡ j) ⊎ ((i < j) ⊎ (j < i)) → i ≡ j
      by (inl h) = h
      by (inr (inl h)) = absurd (true≢false (sym alike ∙ apart_from_distinct eq ks i j d apart h q))
      by (inr (inr h)) = absurd (true≢false (sym alike_back ∙ apart_from_distinct eq ks j i d apart h p))

module _ (ops : List Op) (nodes : List (Key × Facts)) (ops_apart : IsDistinct OpEq.ghosts.eq ops) (nodes_apart : IsDistinct KeyEq.ghosts.eq (keys_of nodes))
    (sound : AreSoundNodes ops nodes) where
  rows_apart : AreApart (rows_of ops nodes)
  rows_apart i j r p q e =
      let long = length-map nodes (λ n. row_of ops n.0) in
      let keys = length-map nodes (λ (n : Key × Facts). n.0) in
      let inside : i < length nodes = omega arith in
      let beside : j < length nodes = omega arith in
      let d : Key × Facts = some_node nodes (omega arith) in
      let k = (get_or nodes i d).0 in
      let l = (get_or nodes j d).0 in
      let same : row_of ops k ≡ row_of ops l =
      sym (get_or-map (λ (n : Key × Facts). row_of ops n.0) nodes i d r inside) ∙ e ∙ get_or-map (λ (n : Key × Facts). row_of ops n.0) nodes j d r beside in
      let op : k.op ≡ l.op = place_one OpEq.ghosts.eq op_laws.refl ops ops_apart k.op l.op True (sound.known i d inside)
      (sound.known j d beside)
      (ap (λ (s : Row). s.op) same) in
      let key : k ≡ l = λ t. record { op = op t; kids = (same t).kids } in
      place_one KeyEq.ghosts.eq laws-law.refl (keys_of nodes) nodes_apart i j d.0 (omega (arith, keys)) (omega (arith, keys))
      (get_or-map (λ (n : Key × Facts). n.0) nodes i d d.0 inside ∙ key ∙ sym (get_or-map (λ (n : Key × Facts). n.0) nodes j d d.0 beside))

  pub nodes_one_id : HasOneId (trees_of ops nodes)
  nodes_one_id = rows_one_id (rows_of ops nodes) sound.rows rows_apart
