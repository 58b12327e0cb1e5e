-- A step over ids with other numbers for its facts.
use Rattle.std.proofs.Common.{◌≡◌, ℕ, ◌∷◌, List, [], refl, sym, ap, subst, ◌∙◌, arith}
use Rattle.std.specs.List.{Contains}
use Rattle.dlk_tree.specs.Trees.{Tree}
use Rattle.dlk_calculus.specs.Steps.{Apply, Merge, Substitute, Rename}
use Rattle.dlk_sequent.specs.declared.subst.Pair.{Pair}
use Rattle.dlk_sequent.specs.Substitutions.{pairs_at}
use Rattle.dlk_rules.specs.declared.rule.Rule.{Rule}
use Rattle.dlk_rules.specs.declared.step.Step.{Step}
use Rattle.dlk_rules.specs.declared.step.Step.TheVariants as step
use Rattle.dlk_rules.specs.Facts.{facts_of, renumbered}
use Rattle.dlk_rules.specs.Steps.{rule_at, step_at}

first_of : (fact : ℕ) (rest : List ℕ) → Contains (fact ∷ rest) fact
first_of fact rest = (0, omega arith, refl)

module _ (trees : List Tree) (numbers : ℕ → ℕ) (old new : Step) where
  -- the step names the fact
  abbrev pub Has : ℕ → Type 0
  Has fact = Contains (facts_of (step_at [] old)) fact

  abbrev pub IsRenumbered : Type 0
  IsRenumbered = step_at trees new ≡ renumbered numbers (step_at trees old)

  from_old : (s : Step) → old ≡ s → step_at trees new ≡ renumbered numbers (step_at trees s) → IsRenumbered
  from_old s is e = e ∙ sym (ap (λ z. renumbered numbers (step_at trees z)) is)

  has : (s : Step) (fact : ℕ) → old ≡ s → Contains (facts_of (step_at [] s)) fact → Has fact
  has s fact is c = subst (λ z. Contains (facts_of (step_at [] z)) fact) (sym is) c

  pub apply_renumbered : (fact goal number : ℕ) (rule : Rule) → old ≡ step.Apply fact goal rule → new ≡ step.Apply number goal rule →
      (Has fact → number ≡ numbers fact) → IsRenumbered
  apply_renumbered fact goal number rule is made same =
      from_old _ is (ap (step_at trees) made ∙ ap (λ k. Apply k goal (rule_at trees rule)) (same (has _ fact is (first_of fact []))))

  pub merge_renumbered : (fact goal by number other : ℕ) → old ≡ step.Merge fact goal by → new ≡ step.Merge number goal other →
      (Has fact → number ≡ numbers fact) → (Has by → other ≡ numbers by) → IsRenumbered
  merge_renumbered fact goal by number other is made same too =
      let a = same (has _ fact is (first_of fact (by ∷ []))) in
      let b = too (has _ by is (1, omega arith, refl)) in
      from_old _ is (ap (step_at trees) made ∙ (λ i. Merge (a i) goal (b i)))

  pub substitute_renumbered : (fact number : ℕ) (pairs : List Pair) → old ≡ step.Subst fact pairs → new ≡ step.Subst number pairs →
      (Has fact → number ≡ numbers fact) → IsRenumbered
  substitute_renumbered fact number pairs is made same =
      from_old _ is (ap (step_at trees) made ∙ ap (λ k. Substitute k (pairs_at trees pairs)) (same (has _ fact is (first_of fact []))))

  pub rename_renumbered : (fact number : ℕ) (x y : List ℕ) → old ≡ step.Rename fact x y → new ≡ step.Rename number x y →
      (Has fact → number ≡ numbers fact) → IsRenumbered
  rename_renumbered fact number x y is made same =
      from_old _ is (ap (step_at trees) made ∙ ap (λ k. Rename k x y) (same (has _ fact is (first_of fact []))))
