-- From the row that states the model to that of its derivative.
use Rattle.std.proofs.Common.{◌≡◌, ℕ, ◌≤◌, ◌⊎◌, inl, inr, List, length, ap, ◌∙◌, arith, Some, refl}
use Rattle.std.proofs.lemmas.List.{length-map}
use Rattle.dlk_tree.specs.Trees.{Tree, size}
use Rattle.dlk_calculus.specs.Notation.{diff, diff_formula}
use Rattle.dlk_calculus.specs.Paths.{subtree, put_at}
use Rattle.dlk_calculus.proofs.PathLaws.{subtree_join}
use Rattle.dlk_derive.specs.Derivative.{OfTerm, OfFormula}
use Rattle.dlk_derive.specs.Derives.{Plans, of_term, of_formula}
use Rattle.dlk_derive.specs.Plans.{below, plan, plan_at}
use Rattle.dlk_derive.specs.Rewriting.{Rewrites, conditions, IsNear, IsTermPlace}
use Rattle.dlk_derive.specs.Ways.{IsUsable}
use Rattle.dlk_reach.specs.Derived.{Derivable, Reaches}
use Rattle.dlk_reach.proofs.AllUses.{from_start, plan_short}
use Rattle.dlk_reach.proofs.Sites.{subtree_size}

term_stands : (model k : Tree) (path : List ℕ) → IsTermPlace model path (diff k) → subtree model path ≡ Some (diff k)
term_stands model k path place = ap (subtree model) place.parts ∙ subtree_join model place.outer place.inner place.formula place.stands ∙ place.inside

-- a `( )'` in a model of at most 150 nodes has at most 149 under it
term_less : (model k : Tree) (path : List ℕ) → size model ≤ 150 → IsTermPlace model path (diff k) → size k ≤ 149
term_less model k path few place = let l = (subtree_size model path (diff k) (term_stands model k path place)).0 in omega (arith, l, few)

formula_less : (model k : Tree) (path : List ℕ) → size model ≤ 150 → subtree model path ≡ Some (diff_formula k) → size k ≤ 149
formula_less model k path few stands = let l = (subtree_size model path (diff_formula k) stands).0 in omega (arith, l, few)

less : (model k d : Tree) (path : List ℕ) → Derivable model path k d → size k ≤ 149
less model k d path it = by_place it.place
  where
    by_place : (IsTermPlace model path (diff k) × OfTerm k d) ⊎ ((subtree model path ≡ Some (diff_formula k)) × OfFormula k d) → size k ≤ 149
    by_place (inl h) = term_less model k path it.few h.0
    by_place (inr h) = formula_less model k path it.few h.0

plan_few : (k : Tree) (path : List ℕ) → length (plan_at k path) ≤ size k
plan_few k path = let h = plan_short k in omega (arith, h, length-map (plan k) (below path))

pub few_calls : (model k d : Tree) (path : List ℕ) → Derivable model path k d → length (plan_at k path) ≤ 149
few_calls model k d path it = let h = plan_few k path in let l = less model k d path it in omega (arith, h, l)

-- the plan is the one of the place
pub has_plan : (model k d : Tree) (path : List ℕ) → Derivable model path k d → Plans (Some model) path (plan_at k path)
has_plan model k d path it = by_place it.place
  where
    by_place : (IsTermPlace model path (diff k) × OfTerm k d) ⊎ ((subtree model path ≡ Some (diff_formula k)) × OfFormula k d) →
        Plans (Some model) path (plan_at k path)
    by_place (inl h) = of_term model k d refl (term_stands model k path h.0) h.1
    by_place (inr h) = of_formula model k d refl h.0 h.1

abbrev Rewritten : (e k d : Tree) (path : List ℕ) → Type 0
Rewritten e k d path = Rewrites (IsNear e (size k)) IsUsable (plan_at k path) e (put_at e path d) (conditions k)

module _ (terms : (e k d : Tree) (path : List ℕ) → IsTermPlace e path (diff k) → OfTerm k d → size k ≤ 149 → Rewritten e k d path)
    (formulas : (e k d : Tree) (path : List ℕ) → subtree e path ≡ Some (diff_formula k) → OfFormula k d → size k ≤ 149 → Rewritten e k d path) where
  pub reached : (byte : ℕ) (model k d : Tree) (path : List ℕ) → Derivable model path k d → Reaches byte (plan_at k path) model (put_at model path d)
      (conditions k)
  reached byte model k d path it =
      from_start byte model k (put_at model path d) (plan_at k path) (conditions k) it.formula it.few (less model k d path it) (plan_few k path)
      (rewritten it.place)
    where
      rewritten : (IsTermPlace model path (diff k) × OfTerm k d) ⊎ ((subtree model path ≡ Some (diff_formula k)) × OfFormula k d) → Rewritten model k d path
      rewritten (inl h) = terms model k d path h.0 h.1 (less model k d path it)
      rewritten (inr h) = formulas model k d path h.0 h.1 (less model k d path it)
