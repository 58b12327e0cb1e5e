-- The laws of strategies' texts and of their runs, as answers want them.
use Rattle.std.proofs.Common.{◌≡◌, ◌⊎◌, ℕ, List, [], length}
use Rattle.std.specs.Prelude.{All}
use Rattle.dlk_tree.specs.Trees.{Tree}
use Rattle.dlk_calculus.specs.Provables.{Provable}
use Rattle.dlk_calculus.specs.Places.{At}
use Rattle.dlk_calculus.specs.Sequents.{alone_right}
use Rattle.dlk_kernel.specs.Taken.{Takes}
use Rattle.dlk_tacsyn.specs.Tactics.{Tactic}
use Rattle.dlk_tacsyn.specs.Faults.{Fault}
use Rattle.dlk_tacsyn.specs.Strategies.{StrategyText, StrategyFault}
use Rattle.dlk_elab.specs.Symbols.{ReplacesSymbols}
use Rattle.dlk_strategy.specs.Runs.{Progress, Outcome, Done, RunsModel}
use Rattle.dlk_jobs_check.specs.Terms.{ModelText}

-- a text says one strategy, or has one fault
abbrev pub OneText : Type 0
OneText = (bytes : List ℕ) (t u : Tactic) → StrategyText bytes t → StrategyText bytes u → t ≡ u

abbrev pub TextOrFault : Type 0
TextOrFault = (bytes : List ℕ) (t : Tactic) (why : Fault) → StrategyText bytes t → StrategyFault bytes why → ⊥

abbrev pub OneFault : Type 0
OneFault = (bytes : List ℕ) (why other : Fault) → StrategyFault bytes why → StrategyFault bytes other → why ≡ other

abbrev pub SomeText : Type 0
SomeText = (bytes : List ℕ) → ((t : Tactic) × StrategyText bytes t) ⊎ ((why : Fault) × StrategyFault bytes why)

-- one thing becomes of a strategy's run on a formula
abbrev pub OneRun : Type 0
OneRun = (t : Tactic) (f : Tree) (a b : Outcome) → RunsModel t f a → RunsModel t f b → a ≡ b

-- and something becomes of what is read
abbrev pub SomeRun : Type 0
SomeRun = (bytes : List ℕ) (t : Tactic) (model : List ℕ) (f : Tree) → StrategyText bytes t → ModelText model f → (o : Outcome) × RunsModel t f o

-- the steps of a run that is done are taken in turn
abbrev pub RunsTaken : Type 0
RunsTaken = (t : Tactic) (f : Tree) (made : Progress) (left : ℕ) → RunsModel t f (Done made left) → Takes [] made.steps made.rows

-- what they replace are symbols, if a text says the strategy
abbrev pub RunsReplaceSymbols : Type 0
RunsReplaceSymbols = (bytes : List ℕ) (t : Tactic) (f : Tree) (made : Progress) (left : ℕ) → StrategyText bytes t → RunsModel t f (Done made left) →
    All ReplacesSymbols made.steps

-- and the last row shows the formula
abbrev pub RunsShow : Type 0
RunsShow = (t : Tactic) (f : Tree) (made : Progress) (left : ℕ) → RunsModel t f (Done made left) →
    (p : Provable) × At made.rows (length made.rows) p × (p.conclusion ≡ alone_right f)
