-- Formulas among the trees of ids, counted up one by one.
use Rattle.std.proofs.Common.{ℕ, ◌+◌, ◌<◌, ◌≤◌, List, map, take, length, get_or, subst}
use Rattle.std.specs.Prelude.{All}
use Rattle.std.proofs.lemmas.List.{get_or-map, take_more, take_all, length-map}
use Rattle.std.proofs.lemmas.List.Elements.{All-push, All-map}
use Rattle.dlk_tree.specs.Trees.{Tree}
use Rattle.dlk_store.specs.declared.Id.{Id}
use Rattle.dlk_store.specs.Stores.{tree}
use Rattle.dlk_calculus.specs.Sequents.{IsFormula}

-- the first n of the ids are those of formulas
abbrev pub FirstFormulas : List Tree → List Id → ℕ → Type 0
FirstFormulas trees ids n = All (λ id. IsFormula (tree trees id)) (take n ids)

pub one_more : (trees : List Tree) (ids : List Id) (n : ℕ) (d : Id) → n < length ids → FirstFormulas trees ids n → IsFormula (tree trees (get_or ids n d)) →
    FirstFormulas trees ids (n + 1)
one_more trees ids n d lt h is = rw (take_more ids n d lt) (All-push (λ id. IsFormula (tree trees id)) (take n ids) (get_or ids n d) h is)

pub all_of_them : (trees : List Tree) (ids : List Id) (n : ℕ) → length ids ≤ n → FirstFormulas trees ids n → All IsFormula (map (tree trees) ids)
all_of_them trees ids n le h = All-map IsFormula (tree trees) ids (subst (All (λ id. IsFormula (tree trees id))) (take_all n ids le) h)

pub not_all : (trees : List Tree) (ids : List Id) (n : ℕ) (d : Id) → n < length ids → (IsFormula (tree trees (get_or ids n d)) → ⊥) →
    All IsFormula (map (tree trees) ids) → ⊥
not_all trees ids n d lt none all = none (subst IsFormula (get_or-map (tree trees) ids n d (tree trees d) lt) (all n (tree trees d) (rw length-map lt)))
