-- The rows of axioms and axiomatic rules.
use Rattle.std.proofs.Common.{◌≡◌, ℕ, List, [], ◌∷◌, Some}
use Rattle.std.proofs.lemmas.List.Elements.{All-nil}
use Rattle.dlk_tree.specs.Trees.{Tree}
use Rattle.dlk_store.specs.declared.Id.{Id}
use Rattle.dlk_store.specs.Stores.{StandsFor}
use Rattle.dlk_calculus.specs.Axioms.{Axiom, AxiomaticRule, axiom_named, rule_named}
use Rattle.dlk_calculus.specs.Provables.{Provable, known}
use Rattle.dlk_calculus.specs.Steps.{UseAxiom, UseRule, Gives, use_axiom, use_rule}
use Rattle.dlk_sequent.specs.declared.sequent.Sequent.{Sequent}
use Rattle.dlk_sequent.specs.Sequents.{IsKnown}
use Rattle.dlk_axioms.specs.Answers.{IsRuleAt}
use Rattle.dlk_kernel.specs.declared.row.Row.{Row}
use Rattle.dlk_kernel.specs.Kernel.{provable_at}
use Rattle.dlk_kernel.specs.Named.{IsRowOf}

-- an axiom whose formula an id stands for
pub axiom_given : (trees : List Tree) (id : Id) (row : Row) →
    row ≡ record { conclusion = record { ante = []; succ = id ∷ [] }; goals = []; leaves = [] } → (name : List ℕ) (a : Axiom) → axiom_named name ≡ Some a →
    StandsFor trees id a.formula → (rows : List Provable) → Gives rows (UseAxiom name) (provable_at trees row)
axiom_given trees id row is name a there h rows =
    let stands : provable_at trees row ≡ known a.formula = rw (is, h.tree_is) in
    rw stands (use_axiom name a there)

-- an axiomatic rule whose premise and conclusion sequents of ids stand for
pub rule_row : (trees : List Tree) (premises : List Sequent) (conclusion : Sequent) (row : Row) →
    row ≡ record { conclusion = conclusion; goals = premises; leaves = [] } → (r : AxiomaticRule) → IsRuleAt trees r premises conclusion → IsRowOf trees r row
rule_row trees premises conclusion row is r h = record {
  known = rw is (record { conclusion = h.conclusion_known; goals = h.premises_known; leaves = All-nil (IsKnown trees) });
  stands = rw is (λ i. record { conclusion = h.conclusion_is i; goals = h.premises_are i; leaves = [] });
}

pub rule_given : (trees : List Tree) (row : Row) (r : AxiomaticRule) → IsRowOf trees r row → (name : List ℕ) → rule_named name ≡ Some r →
    (rows : List Provable) → Gives rows (UseRule name) (provable_at trees row)
rule_given trees row r h name there rows = rw h.stands (use_rule name r there)
