-- The axioms and axiomatic rules that were named before, with what was made of them.
use Rattle.std.specs.Prelude.{◌≡◌, ℕ, List, Some, All, Any}
use Rattle.dlk_tree.specs.Trees.{Tree}
use Rattle.dlk_store.specs.declared.Id.{Id}
use Rattle.dlk_store.specs.Stores.{StandsFor}
use Rattle.dlk_calculus.specs.Axioms.{Axiom, AxiomaticRule, axiom_named, rule_named}
use Rattle.dlk_calculus.specs.Provables.{inferred}
use Rattle.dlk_kernel.specs.declared.axioms.NamedFormula.{NamedFormula}
use Rattle.dlk_kernel.specs.declared.named.Named.{Named}
use Rattle.dlk_kernel.specs.declared.named_rules.NamedRule.{NamedRule}
use Rattle.dlk_kernel.specs.declared.row.Row.{Row}
use Rattle.dlk_kernel.specs.Kernel.{provable_at, IsKnownRow}

-- the id stands for the formula of the axiom of this name
pub record IsFormulaOf (trees : List Tree) (name : List ℕ) (id : Id) : Type 0 where
  pub found : Axiom
  pub named : axiom_named name ≡ Some found
  pub stands : StandsFor trees id found.formula

-- so do all of these
abbrev pub AreFormulas : List Tree → List NamedFormula → Type 0
AreFormulas trees all = All (λ (n : NamedFormula). IsFormulaOf trees n.name n.formula) all

-- one of these has the name
abbrev pub IsNamed : List NamedFormula → List ℕ → Type 0
IsNamed all name = Any (λ (n : NamedFormula). n.name ≡ name) all

-- the row stands for the inference of this rule
pub record IsRowOf (trees : List Tree) (rule : AxiomaticRule) (row : Row) : Type 0 where
  pub known : IsKnownRow trees row
  pub stands : provable_at trees row ≡ inferred rule.premise rule.conclusion

-- the row stands for the inference of the axiomatic rule of this name
pub record IsRowNamed (trees : List Tree) (name : List ℕ) (row : Row) : Type 0 where
  pub found : AxiomaticRule
  pub named : rule_named name ≡ Some found
  pub is_row : IsRowOf trees found row

-- so do all of these
abbrev pub AreRows : List Tree → List NamedRule → Type 0
AreRows trees all = All (λ (n : NamedRule). IsRowNamed trees n.name n.row) all

-- one of these has the name
abbrev pub IsRuleNamed : List NamedRule → List ℕ → Type 0
IsRuleNamed all name = Any (λ (n : NamedRule). n.name ≡ name) all

-- the axioms that were named have their formulas, and the axiomatic rules their rows
pub record AreNamed (trees : List Tree) (named : Named) : Type 0 where
  pub axioms : AreFormulas trees named.axioms
  pub rules : AreRows trees named.rules
