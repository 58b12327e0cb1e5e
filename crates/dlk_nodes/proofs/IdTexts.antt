-- The numbers of nodes by their ids, and by their trees: in a unique store they are the same.
use Rattle.std.proofs.Common.{◌≡◌, ℕ, suc, List, [], ◌∷◌, ◌++◌, refl, ap}
use Rattle.std.specs.Prelude.{All, codes}
use Rattle.std.specs.Fmt.{decimal}
use Rattle.std.specs.List.{flat_map}
use Rattle.std.proofs.lemmas.List.Elements.{All-head, All-tail}
use Rattle.dlk_tree.specs.Trees.{Tree}
use Rattle.dlk_grammar.specs.Shown.{spell}
use Rattle.dlk_grammar.specs.Symbols.{shown_symbol}
use Rattle.dlk_store.specs.declared.Id.{Id}
use Rattle.dlk_store.specs.Stores.{IsId, tree, kid_trees, HasOneId}
use Rattle.dlk_sequent.specs.declared.subst.Pair.{Pair}
use Rattle.dlk_sequent.specs.Substitutions.{pair_at}
use Rattle.dlk_lines.specs.Written.{number_text, numbers_text, numbers_before, pair_text}
use Rattle.dlk_nodes.specs.Tables.{nodes_at, id_text}
use Rattle.dlk_nodes.specs.Written.{kids_text}
use Rattle.dlk_nodes.proofs.Tables.{place_is}

-- a pair by the id that replaces its symbol
abbrev pub id_pair : List Id → Pair → List ℕ
id_pair table p = spell (shown_symbol p.sym) ++ codes "~>" ++ id_text table p.by

module _ (trees : List Tree) (one : HasOneId trees) (table : List Id) (known : All (IsId trees) table) where
  pub number_same : (id : Id) → IsId trees id → id_text table id ≡ number_text (nodes_at trees table) (tree trees id)
  number_same id is = ap (λ n. decimal (suc n)) (place_is trees one table id known is)

  pub behind_same : (ids : List Id) → All (IsId trees) ids →
      flat_map (λ id. codes " " ++ id_text table id) ids ≡ numbers_text (nodes_at trees table) (nodes_at trees ids)
  behind_same [] all = refl
  behind_same (i ∷ ids) all =
      let first = number_same i (All-head (IsId trees) i ids all) in
      let rest = behind_same ids (All-tail (IsId trees) i ids all) in
      λ t. codes " " ++ first t ++ rest t

  pub kids_same : (ids : List Id) → All (IsId trees) ids →
      flat_map (λ id. codes " " ++ id_text table id) ids ≡ kids_text (nodes_at trees table) (kid_trees trees ids)
  kids_same [] all = refl
  kids_same (i ∷ ids) all =
      let first = number_same i (All-head (IsId trees) i ids all) in
      let rest = kids_same ids (All-tail (IsId trees) i ids all) in
      λ t. codes " " ++ first t ++ rest t

  pub before_same : (ids : List Id) → All (IsId trees) ids →
      flat_map (λ id. id_text table id ++ codes " ") ids ≡ numbers_before (nodes_at trees table) (nodes_at trees ids)
  before_same [] all = refl
  before_same (i ∷ ids) all =
      let first = number_same i (All-head (IsId trees) i ids all) in
      let rest = before_same ids (All-tail (IsId trees) i ids all) in
      λ t. first t ++ codes " " ++ rest t

  pub pair_same : (p : Pair) → IsId trees p.by → id_pair table p ≡ pair_text (nodes_at trees table) (pair_at trees p)
  pair_same p is = ap (λ (number : List ℕ). spell (shown_symbol p.sym) ++ codes "~>" ++ number) (number_same p.by is)
