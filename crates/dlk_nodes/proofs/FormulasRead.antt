-- Formulas among the trees of ids, and formulas by the numbers of nodes.
use Rattle.std.proofs.Common.{◌≡◌, ◌≢◌, ℕ, ◌<◌, ◌≤◌, ◌+◌, List, ◌++◌, map, take, length, get_or, codes, refl, sym, subst, ◌∙◌}
use Rattle.std.specs.Prelude.{All}
use Rattle.std.proofs.lemmas.List.{get_or-map, length-map, take_more, take_all}
use Rattle.std.proofs.lemmas.List.Elements.{All-push, All-map}
use Rattle.dlk_tree.specs.declared.op.Sort.TheVariants.{Formula as OfFormulas}
use Rattle.dlk_tree.specs.Trees.{Tree, sort}
use Rattle.dlk_store.specs.declared.Id.{Id}
use Rattle.dlk_store.specs.Stores.{tree}
use Rattle.dlk_lines.specs.Spelled.{Names, NamesFormula, formula}
use Rattle.dlk_nodes.proofs.Numbered.{one_name}

-- the first n of the ids are those of formulas
abbrev pub FirstFormulas : List Tree → List Id → ℕ → Type 0
FirstFormulas trees ids n = All (λ id. sort (tree trees id) ≡ OfFormulas) (take n ids)

pub one_more : (trees : List Tree) (ids : List Id) (n : ℕ) (d : Id) → n < length ids → FirstFormulas trees ids n →
    sort (tree trees (get_or ids n d)) ≡ OfFormulas → FirstFormulas trees ids (n + 1)
one_more trees ids n d lt h is =
    rw (take_more ids n d lt) (All-push (λ id. sort (tree trees id) ≡ OfFormulas) (take n ids) (get_or ids n d) h is)

pub all_of_them : (trees : List Tree) (ids : List Id) (n : ℕ) → length ids ≤ n → FirstFormulas trees ids n →
    All (λ t. sort t ≡ OfFormulas) (map (tree trees) ids)
all_of_them trees ids n le h =
    All-map (λ t. sort t ≡ OfFormulas) (tree trees) ids (subst (All (λ id. sort (tree trees id) ≡ OfFormulas)) (take_all n ids le) h)

pub not_all : (trees : List Tree) (ids : List Id) (n : ℕ) (d : Id) → n < length ids → (sort (tree trees (get_or ids n d)) ≡ OfFormulas → ⊥) →
    All (λ t. sort t ≡ OfFormulas) (map (tree trees) ids) → ⊥
not_all trees ids n d lt none all =
    none (subst (λ t. sort t ≡ OfFormulas) (get_or-map (tree trees) ids n d (tree trees d) lt) (all n (tree trees d) (rw length-map lt)))

module _ (nodes : List Tree) where
  pub record FormulaParts (text : List ℕ) (h : Tree) : Type 0 where
    pub digits : List ℕ
    pub text_is : text ≡ codes "#" ++ digits
    pub names : Names nodes digits h
    pub sort_is : sort h ≡ OfFormulas

  pub formula_parts : (text : List ℕ) (h : Tree) → NamesFormula nodes text h → FormulaParts text h
  formula_parts _ _ (formula {i} names is) = record { digits = i; text_is = refl; names = names; sort_is = is }

  pub parts_formula : (text : List ℕ) (h : Tree) → FormulaParts text h → NamesFormula nodes text h
  parts_formula text h w = subst (λ l. NamesFormula nodes l h) (sym w.text_is) (formula w.names w.sort_is)

  pub sign_first : (text : List ℕ) → ((digits : List ℕ) → text ≢ codes "#" ++ digits) → (h : Tree) → ¬ NamesFormula nodes text h
  sign_first text none h is = let w = formula_parts text h is in none w.digits w.text_is

  module _ (text digits : List ℕ) (e : text ≡ codes "#" ++ digits) where
    pub its_digits : (h : Tree) → NamesFormula nodes text h → Names nodes digits h × (sort h ≡ OfFormulas)
    its_digits h is =
        let w = formula_parts text h is in
        let both : codes "#" ++ w.digits ≡ codes "#" ++ digits = sym w.text_is ∙ e in
        let same : w.digits ≡ digits = cc in
        (subst (λ d. Names nodes d h) same w.names, w.sort_is)

    pub formula_node : ((t : Tree) → ¬ Names nodes digits t) → (h : Tree) → ¬ NamesFormula nodes text h
    formula_node none h is = none h (its_digits h is).0

    pub formula_sort : (t : Tree) → Names nodes digits t → sort t ≢ OfFormulas → (h : Tree) → ¬ NamesFormula nodes text h
    formula_sort t names other h is =
        let w = its_digits h is in
        other (subst (λ u. sort u ≡ OfFormulas) (one_name nodes digits h t w.0 names) w.1)
