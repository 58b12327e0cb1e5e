-- Instances, over ids and over trees.
use Rattle.std.proofs.Common.{◌≡◌, ◌+◌, ◌≤◌, ℕ, suc, Bool, true, false, List, [], ◌∷◌, ◌++◌, length, map, refl, sym, ap, subst, ◌∙◌, arith}
use Rattle.std.specs.Prelude.{if◌then◌else◌}
use Rattle.std.specs.Str.{bytes_eq}
use Rattle.dlk_rules.specs.declared.step.Step.{Step}
use Rattle.dlk_rules.specs.declared.step.Step.TheVariants as step
use Rattle.std.specs.Prelude.{All}
use Rattle.std.proofs.lemmas.List.{map-append, length-map}
use Rattle.std.proofs.lemmas.List.Elements.{All-cons, All-nil, All-append}
use Rattle.dlk_tree.specs.Trees.{Tree}
use Rattle.dlk_calculus.specs.Steps.{UseAxiom, Rename}
use Rattle.dlk_sequent.specs.declared.subst.Pair.{Pair}
use Rattle.dlk_sequent.specs.Substitutions.{pairs_at, AreKnownPairs}
use Rattle.dlk_rules.specs.Steps.{step_at, HasKnownIds}
use Rattle.dlk_uses.specs.Uses.{renaming, substituting, instance}
use Rattle.dlk_elab.specs.Forms.{renamed, substituted}
use Rattle.dlk_elab.specs.Plans.{ArePlanned}

-- one pair of names more
pub renamed_more : (rows : ℕ) (ys : List (List ℕ × List ℕ)) (r : List ℕ × List ℕ) →
    renamed rows (ys ++ r ∷ []) ≡ renamed rows ys ++ renamed (rows + length (renamed rows ys)) (r ∷ [])
renamed_more rows [] r = let row : rows ≡ rows + 0 = omega arith in λ i. renamed (row i) (r ∷ [])
renamed_more rows (y ∷ ys) r = by_test (bytes_eq y.0 y.1) (renamed_more rows ys r) (renamed_more (rows + 1) ys r)
  where
    by_test : (same : Bool) → renamed rows (ys ++ r ∷ []) ≡ renamed rows ys ++ renamed (rows + length (renamed rows ys)) (r ∷ []) →
        renamed (rows + 1) (ys ++ r ∷ []) ≡ renamed (rows + 1) ys ++ renamed (rows + 1 + length (renamed (rows + 1) ys)) (r ∷ []) →
        (if same then renamed rows (ys ++ r ∷ []) else step.Rename rows y.0 y.1 ∷ renamed (rows + 1) (ys ++ r ∷ [])) ≡
        (if same then renamed rows ys else step.Rename rows y.0 y.1 ∷ renamed (rows + 1) ys) ++
        renamed (rows + length (if same then renamed rows ys else step.Rename rows y.0 y.1 ∷ renamed (rows + 1) ys)) (r ∷ [])
    by_test true stays goes = stays
    by_test false stays goes =
        let row : rows + 1 + length (renamed (rows + 1) ys) ≡ rows + suc (length (renamed (rows + 1) ys)) = omega arith in
        (λ i. step.Rename rows y.0 y.1 ∷ goes i) ∙ (λ i. step.Rename rows y.0 y.1 ∷ (renamed (rows + 1) ys ++ renamed (row i) (r ∷ [])))

-- there are no more steps than pairs
pub renamed_few : (rows : ℕ) (ys : List (List ℕ × List ℕ)) → length (renamed rows ys) ≤ length ys
renamed_few rows [] = omega arith
renamed_few rows (y ∷ ys) = by_test (bytes_eq y.0 y.1) (renamed_few rows ys) (renamed_few (rows + 1) ys)
  where
    by_test : (same : Bool) → length (renamed rows ys) ≤ length ys → length (renamed (rows + 1) ys) ≤ length ys →
        length (if same then renamed rows ys else step.Rename rows y.0 y.1 ∷ renamed (rows + 1) ys) ≤ suc (length ys)
    by_test true stays goes = omega (arith, stays)
    by_test false stays goes = omega (arith, goes)

-- over trees
renamed_are : (trees : List Tree) (rows : ℕ) (ys : List (List ℕ × List ℕ)) → map (step_at trees) (renamed rows ys) ≡ renaming rows ys
renamed_are trees rows [] = refl
renamed_are trees rows (y ∷ ys) = by_test (bytes_eq y.0 y.1) (renamed_are trees rows ys) (renamed_are trees (rows + 1) ys)
  where
    by_test : (same : Bool) → map (step_at trees) (renamed rows ys) ≡ renaming rows ys → map (step_at trees) (renamed (rows + 1) ys) ≡ renaming (rows + 1) ys →
        map (step_at trees) (if same then renamed rows ys else step.Rename rows y.0 y.1 ∷ renamed (rows + 1) ys) ≡
        (if same then renaming rows ys else Rename rows y.0 y.1 ∷ renaming (rows + 1) ys)
    by_test true stays goes = stays
    by_test false stays goes = λ i. Rename rows y.0 y.1 ∷ goes i

renamed_known : (trees : List Tree) (rows : ℕ) (ys : List (List ℕ × List ℕ)) → All (HasKnownIds trees) (renamed rows ys)
renamed_known trees rows [] = All-nil (HasKnownIds trees)
renamed_known trees rows (y ∷ ys) = by_test (bytes_eq y.0 y.1) (renamed_known trees rows ys) (renamed_known trees (rows + 1) ys)
  where
    by_test : (same : Bool) → All (HasKnownIds trees) (renamed rows ys) → All (HasKnownIds trees) (renamed (rows + 1) ys) →
        All (HasKnownIds trees) (if same then renamed rows ys else step.Rename rows y.0 y.1 ∷ renamed (rows + 1) ys)
    by_test true stays goes = stays
    by_test false stays goes = All-cons (HasKnownIds trees) (step.Rename rows y.0 y.1) (renamed (rows + 1) ys) tt goes

substituted_are : (trees : List Tree) (rows : ℕ) (pairs : List Pair) → map (step_at trees) (substituted rows pairs) ≡ substituting rows (pairs_at trees pairs)
substituted_are trees rows [] = refl
substituted_are trees rows (p ∷ pairs) = refl

substituted_known : (trees : List Tree) (rows : ℕ) (pairs : List Pair) → AreKnownPairs trees pairs → All (HasKnownIds trees) (substituted rows pairs)
substituted_known trees rows [] known = All-nil (HasKnownIds trees)
substituted_known trees rows (p ∷ pairs) known = All-cons (HasKnownIds trees) (step.Subst rows (p ∷ pairs)) [] known (All-nil (HasKnownIds trees))

pub instance_planned : (trees : List Tree) (rows last : ℕ) (name : List ℕ) (renames : List (List ℕ × List ℕ)) (pairs : List Pair) (steps : List Step) →
    last ≡ rows + 1 + length (renamed (rows + 1) renames) →
    steps ≡ (step.Axiom name ∷ renamed (rows + 1) renames) ++ substituted last pairs → AreKnownPairs trees pairs →
    ArePlanned trees steps (instance rows name (record { renames = renames; pairs = pairs_at trees pairs }))
instance_planned trees rows last name renames pairs steps last_is is known =
    let names = renamed_are trees (rows + 1) renames in
    let count : length (renaming (rows + 1) renames) ≡ length (renamed (rows + 1) renames) =
    sym (ap length names) ∙ length-map (renamed (rows + 1) renames) (step_at trees) in
    let row : last ≡ rows + suc (length (renaming (rows + 1) renames)) = omega (arith, last_is, count) in
    record {
      are =
          ap (map (step_at trees)) is ∙ map-append (step_at trees) (step.Axiom name ∷ renamed (rows + 1) renames) (substituted last pairs) ∙
          (λ i. (UseAxiom name ∷ names i) ++ substituted_are trees last pairs i) ∙
          (λ i. (UseAxiom name ∷ renaming (rows + 1) renames) ++ substituting (row i) (pairs_at trees pairs));
      known = subst (All (HasKnownIds trees)) (sym is)
          (All-append (HasKnownIds trees) (step.Axiom name ∷ renamed (rows + 1) renames) (substituted last pairs)
          (All-cons (HasKnownIds trees) (step.Axiom name) (renamed (rows + 1) renames) tt (renamed_known trees (rows + 1) renames))
          (substituted_known trees last pairs known));
    }
