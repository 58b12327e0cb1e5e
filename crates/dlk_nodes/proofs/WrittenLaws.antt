-- How far the text of a node has been appended.
use Rattle.std.proofs.Common.{◌≡◌, ℕ, ◌+◌, ◌<◌, ◌≤◌, List, [], ◌∷◌, ◌++◌, length, drop, get_or, Option, Some, None, codes, sym, ap, ◌∙◌, append_assoc}
use Rattle.std.proofs.Common.{append-nil, add-one}
use Rattle.std.specs.List.{flat_map}
use Rattle.std.proofs.Math.Seq.{drop-cons}
use Rattle.std.proofs.lemmas.List.{drop_all}
use Rattle.dlk_tree.specs.declared.op.OdeItem.{OdeItem}
use Rattle.dlk_tree.specs.Trees.{Tree}
use Rattle.dlk_store.specs.declared.Id.{Id}
use Rattle.dlk_print.proofs.Left.{Left, unbegun, same_rest}
use Rattle.dlk_nodes.specs.Words.{with_taboo, item_text}
use Rattle.dlk_sequent.specs.declared.subst.Pair.{Pair}
use Rattle.dlk_sequent.specs.Substitutions.{pair_at, pairs_at}
use Rattle.dlk_lines.specs.Written.{pair_text}
use Rattle.dlk_nodes.specs.Tables.{id_text}

-- what comes behind a name
abbrev pub behind_name : List ℕ → List ℕ → Option (List ℕ) → List ℕ
behind_name before after None = []
behind_name before after (Some y) = (before ++ y) ++ after

pub taboo_left : (old before after x : List ℕ) (y : Option (List ℕ)) → Left old (with_taboo before after x y) old (x ++ behind_name before after y)
taboo_left old before after x None = unbegun old (append-nil x)
taboo_left old before after x (Some y) = unbegun old (simp append_assoc)

-- ---- items

abbrev pub later_items : List OdeItem → List ℕ
later_items items = flat_map (λ i. codes "," ++ item_text i) items

pub items_left : {old text now : List ℕ} (items : List OdeItem) (k : ℕ) (d : OdeItem) → k < length items → Left old text now (later_items (drop k items)) →
    Left old text now (codes "," ++ (item_text (get_or items k d) ++ later_items (drop (k + 1) items)))
items_left items k d less left =
    let e : later_items (drop k items) ≡ codes "," ++ (item_text (get_or items k d) ++ later_items (drop (k + 1) items)) =
    ap later_items (drop-cons items k d less ∙ ap (λ n. get_or items k d ∷ drop n items) (sym (add-one k))) ∙ simp append_assoc in
    same_rest e left

-- ---- any parts

module _ {A : Type 0} (text_of : A → List ℕ) where
  pub each_left : {old text now : List ℕ} (xs : List A) (k : ℕ) (d : A) → k < length xs → Left old text now (flat_map text_of (drop k xs)) →
      Left old text now (text_of (get_or xs k d) ++ flat_map text_of (drop (k + 1) xs))
  each_left xs k d less left =
      same_rest (ap (flat_map text_of) (drop-cons xs k d less ∙ ap (λ n. get_or xs k d ∷ drop n xs) (sym (add-one k)))) left

  pub none_left : {old text now : List ℕ} (xs : List A) (k : ℕ) → length xs ≤ k → Left old text now (flat_map text_of (drop k xs)) →
      Left old text now []
  none_left xs k le left = same_rest (ap (flat_map text_of) (drop_all k xs le)) left

-- the numbers of nodes, each before a space
module _ (table : List Id) where
  abbrev pub numbers_left : List Id → List ℕ
  numbers_left ids = flat_map (λ id. id_text table id ++ codes " ") ids

  pub before_left : {old text now : List ℕ} (ids : List Id) (k : ℕ) (d : Id) → k < length ids → Left old text now (numbers_left (drop k ids)) →
      Left old text now (id_text table (get_or ids k d) ++ (codes " " ++ numbers_left (drop (k + 1) ids)))
  before_left ids k d less left =
      same_rest (append_assoc (id_text table (get_or ids k d)) (codes " ") (numbers_left (drop (k + 1) ids)))
      (each_left (λ id. id_text table id ++ codes " ") ids k d less left)

-- ---- lines

pub line_left : (old number op kids : List ℕ) → Left old (codes "node " ++ number ++ codes " " ++ (op ++ kids)) old (codes "node " ++ (number ++
    (codes " " ++ (op ++ kids))))
line_left old number op kids = unbegun old (simp append_assoc)

-- ---- the trees of a step

module _ (trees : List Tree) (nodes : List Tree) where
  abbrev pub later_pairs : List Pair → List ℕ
  later_pairs pairs = flat_map (λ p. codes "," ++ pair_text nodes p) (pairs_at trees pairs)

  pub pairs_left : {old text now : List ℕ} (pairs : List Pair) (k : ℕ) (d : Pair) → k < length pairs → Left old text now (later_pairs (drop k pairs)) →
      Left old text now (codes "," ++ (pair_text nodes (pair_at trees (get_or pairs k d)) ++ later_pairs (drop (k + 1) pairs)))
  pairs_left pairs k d less left =
      let e : later_pairs (drop k pairs) ≡ codes "," ++ (pair_text nodes (pair_at trees (get_or pairs k d)) ++ later_pairs (drop (k + 1) pairs)) =
      ap later_pairs (drop-cons pairs k d less ∙ ap (λ n. get_or pairs k d ∷ drop n pairs) (sym (add-one k)))
      ∙ append_assoc (codes ",") (pair_text nodes (pair_at trees (get_or pairs k d))) (later_pairs (drop (k + 1) pairs)) in
      same_rest e left

  pub no_pairs_left : {old text now : List ℕ} (pairs : List Pair) (k : ℕ) → length pairs ≤ k → Left old text now (later_pairs (drop k pairs)) →
      Left old text now []
  no_pairs_left pairs k le left = same_rest (ap later_pairs (drop_all k pairs le)) left

-- three parts
pub three_left : (old a b c : List ℕ) → Left old (a ++ b ++ c) old (a ++ (b ++ c))
three_left old a b c = unbegun old (simp append_assoc)
