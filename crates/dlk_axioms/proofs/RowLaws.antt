-- The shapes of the rows are those of well-made trees, and their own names are names.
use Rattle.std.proofs.Common.{◌≡◌, ℕ, refl, sym, ap, subst, ◌∙◌, Bool, true, false, cond, List, [], ◌∷◌, Some, find}
use Rattle.std.specs.Prelude.{IsTrue}
use Rattle.std.specs.List.{All, list_all}
use Rattle.std.specs.Str.{bytes_eq}
use Rattle.std.proofs.lemmas.Bool.{and_parts}
use Rattle.std.proofs.lemmas.List.Folds.{list_all-map}
use Rattle.std.proofs.lemmas.List.Sums.{AllPass-from_list_all}
use Rattle.std.proofs.lemmas.Option.{none-some, same_Some}
use denote.Ref.{Bor}
use Rattle.dlk_tree.specs.Names.{is_name}
use Rattle.dlk_tree.specs.Trees.{WellMade}
use Rattle.dlk_calculus.specs.Axioms.{Axiom, AxiomaticRule, axioms, axiom_named, rule_named}
use Rattle.dlk_calculus.proofs.AxiomLaws.{axiom_formula, rule_formulas}
use Rattle.dlk_axioms.specs.declared.table.AxiomRow.{AxiomRow}
use Rattle.dlk_axioms.specs.declared.table.RuleRow.{RuleRow}
use Rattle.dlk_axioms.specs.Shapes.{tree_of}
use Rattle.dlk_axioms.specs.Rows.{said, said_of_rule}

-- what is found in a list passes a test that all its items pass
found_passes : {A : Type 0} (test sought : A → Bool) (xs : List A) (x : A) → list_all test xs ≡ true → find sought xs ≡ Some x → test x ≡ true
found_passes test sought [] x all e = absurd (none-some x e)
found_passes test sought (y ∷ xs) x all e =
    let both = and_parts (test y) (list_all test xs) all in
    go both.0 (found_passes test sought xs x both.1) (sought y) e
  where
    go : test y ≡ true → (find sought xs ≡ Some x → test x ≡ true) → (b : Bool) → cond b (Some y) (find sought xs) ≡ Some x → test x ≡ true
    go here rest true h = subst (λ z. test z ≡ true) (same_Some y x h) here
    go here rest false h = rest h

pub axiom_made : (name : List ℕ) (a : Axiom) (row : AxiomRow) → axiom_named name ≡ Some a → said row ≡ a → WellMade (tree_of row.formula.now)
axiom_made name a row e same = subst WellMade (sym (ap (λ (x : Axiom). x.formula) same)) (axiom_formula name a e).well_made

module _ (name : List ℕ) (r : AxiomaticRule) (row : RuleRow) (e : rule_named name ≡ Some r) (same : said_of_rule row ≡ r) where
  pub premise_made : WellMade (tree_of row.premise.now)
  premise_made = subst WellMade (sym (ap (λ (x : AxiomaticRule). x.premise) same)) (rule_formulas name r e).0.well_made

  pub conclusion_made : WellMade (tree_of row.conclusion.now)
  conclusion_made = subst WellMade (sym (ap (λ (x : AxiomaticRule). x.conclusion) same)) (rule_formulas name r e).1.well_made

-- the own names of an axiom's row are names
pub own_names_are_names : (name : List ℕ) (a : Axiom) (row : AxiomRow) → axiom_named name ≡ Some a → said row ≡ a →
    All (λ (word : Bor (List ℕ)). IsTrue (is_name word.now)) row.own_names.now
own_names_are_names name a row e same =
    let names : list_all is_name a.own_names ≡ true =
    found_passes (λ (x : Axiom). list_all is_name x.own_names) (λ (x : Axiom). bytes_eq x.name name) axioms a refl e in
    AllPass-from_list_all (λ (word : Bor (List ℕ)). is_name word.now) row.own_names.now
    (sym (list_all-map is_name (λ (word : Bor (List ℕ)). word.now) row.own_names.now) ∙ ap (λ (x : Axiom). list_all is_name x.own_names) same ∙ names)
