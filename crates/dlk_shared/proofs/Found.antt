-- A key that is found is the node's.
use Rattle.std.proofs.Common.{◌≡◌, ℕ, ◌<◌, true, List, length, get_or, Some, position, refl, sym, ap, ◌∙◌, arith, eqb, eqb-true}
use Rattle.std.specs.Bool.{Decides}
use Rattle.std.specs.Cmp.{first_so, second_so}
use Rattle.std.specs.Cmp.Lexicographic.{pointwise}
use Rattle.std.specs.Map.{keys_of}
use Rattle.std.proofs.lemmas.List.{length-map, get_or-map}
use Rattle.std.proofs.lemmas.List.Quantifiers.{position-Some}
use Rattle.std.proofs.lemmas.Option.{slice_get-get_or}
use Rattle.std.proofs.lemmas.Slice.Eq.{slice_eq-Decides}
use Rattle.std.proofs.Common.{rules}
use Rattle.dlk_tree.specs.declared.op.Op.{Op}
use Rattle.dlk_store.specs.declared.Id.{Id}
use Rattle.dlk_store.specs.Stores.{StandsFor}
use Rattle.dlk_store.specs.contracts.IdPartialEq.TheImpl as IdEq
use Rattle.dlk_shared.specs.contracts.node.KeyPartialEq.TheImpl as KeyEq
use Rattle.dlk_shared.specs.Rows.{tree_of}
use Rattle.dlk_shared.specs.Nodes.{row_of, trees_of, AreSoundNodes}
use Rattle.dlk_shared.specs.Sound.{nodes_length, kept_tree, some_node}
use Rattle.dlk_shared.specs.declared.node.Key.{Key}
use Rattle.dlk_shared.specs.declared.node.Facts.{Facts}

id_decides : (a b : Id) → Decides (IdEq.ghosts.eq a b) (a ≡ b)
id_decides a b = search rules

pub kids_decides : (a b : List Id) → Decides (pointwise IdEq.ghosts.eq a b) (a ≡ b)
kids_decides a b = slice_eq-Decides id_decides a b _ refl

-- the test of keys finds none but equal ones
pub key_exact : (a b : Key) → KeyEq.ghosts.eq a b ≡ true → a ≡ b
key_exact a b h =
    let op = eqb-true a.op b.op (first_so (eqb a.op b.op) (pointwise IdEq.ghosts.eq a.kids b.kids) h) in
    let kids = (kids_decides a.kids b.kids).0 (second_so (eqb a.op b.op) (pointwise IdEq.ghosts.eq a.kids b.kids) h) in
    λ i. record { op = op i; kids = kids i }

pub found_stands : (ops : List Op) (nodes : List (Key × Facts)) (k : Key) (place : ℕ) → AreSoundNodes ops nodes
    → position (KeyEq.ghosts.eq k) (keys_of nodes) ≡ Some place
    → StandsFor (trees_of ops nodes) (record { 0 = place }) (tree_of (trees_of ops nodes) (row_of ops k))
found_stands ops nodes k place sound e =
    let found = position-Some (KeyEq.ghosts.eq k) (keys_of nodes) place k e in
    let within : place < length nodes = omega (arith, found.0, length-map nodes (λ (n : Key × Facts). n.0)) in
    let d : Key × Facts = some_node nodes (omega arith) in
    let n = get_or nodes place d in
    let is : k ≡ n.0 = key_exact k (get_or (keys_of nodes) place k) found.1 ∙ get_or-map (λ (n : Key × Facts). n.0) nodes place d k within in
    record {
      known = omega (arith, within, nodes_length ops nodes);
      tree_is = kept_tree ops nodes sound (record { 0 = place }) n.0 n.1 (slice_get-get_or nodes place d within)
          ∙ ap (λ l. tree_of (trees_of ops nodes) (row_of ops l)) (sym is);
    }
