-- What `prove` answers to a model and a strategy, and the term that it writes.
use Rattle.std.specs.Prelude.{ℕ, List, codes}
use Rattle.dlk_tree.specs.Trees.{Tree}
use Rattle.dlk_calculus.specs.Provables.{Provable}
use Rattle.dlk_grammar.specs.Texts.{TextFault}
use Rattle.dlk_tacsyn.specs.Tactics.{Tactic}
use Rattle.dlk_tacsyn.specs.Faults.{Fault, Syntax, Nesting, Repeat, UnknownAtom, Arguments}
use Rattle.dlk_tacsyn.specs.Strategies.{StrategyText, StrategyFault}
use Rattle.dlk_elab.specs.declared.fault.FailWhy.{FailWhy}
use Rattle.dlk_strategy.specs.Runs.{Progress, Outcome, Done, Fails, Budget, RunsModel}
use Rattle.dlk_replies.specs.declared.form.Role.TheVariants.{Model, Strategy}
use Rattle.dlk_replies.specs.Replies.{Reply, refusal}
use Rattle.dlk_replies.specs.Refusals.{refused_at, text_refused}
use Rattle.dlk_jobs_check.specs.Terms.{ModelText, ModelFault}
use Rattle.dlk_jobs_record.specs.Fates.{fails_text, budget_text}
use Rattle.dlk_jobs_record.specs.Records.{Records, IsLast}

-- refused: strategy at B: WHY. One row a fault.
abbrev pub strategy_refused : Fault → Reply
strategy_refused (Syntax at) = refused_at Strategy at (codes "syntax")
strategy_refused (Nesting at) = refused_at Strategy at (codes "nesting")
strategy_refused (Repeat at) = refused_at Strategy at (codes "repeat")
strategy_refused (UnknownAtom at) = refused_at Strategy at (codes "unknown")
strategy_refused (Arguments at) = refused_at Strategy at (codes "arguments")

-- refused: fails at B: WHY
abbrev pub failed : ℕ → FailWhy → Reply
failed at why = refusal (fails_text at why)

-- refused: budget at B
abbrev pub over_budget : ℕ → Reply
over_budget at = refusal (budget_text at)

-- the texts are a formula and a strategy, of whose run this becomes
pub record RunsTo (model strategy : List ℕ) (outcome : Outcome) : Type 0 where
  pub formula : Tree
  pub reads : ModelText model formula
  pub tactic : Tactic
  pub says : StrategyText strategy tactic
  pub run : RunsModel tactic formula outcome

-- Proves model strategy reply: this is what is answered to the two texts. One case an answer, the first that applies.
pub data Proves (model strategy : List ℕ) : Reply → Type 0 where
  bad_model : (why : TextFault) → ModelFault model why → Proves model strategy (text_refused Model why)
  bad_strategy : (f : Tree) → ModelText model f → (why : Fault) → StrategyFault strategy why → Proves model strategy (strategy_refused why)
  fails : (at used : ℕ) (why : FailWhy) → RunsTo model strategy (Fails at why used) → Proves model strategy (failed at why)
  spent : (at : ℕ) → RunsTo model strategy (Budget at) → Proves model strategy (over_budget at)
  records : (made : Progress) (left : ℕ) → RunsTo model strategy (Done made left) → (p : Provable) → IsLast made.rows p →
      (reply : Reply) → Records made.steps p reply → Proves model strategy reply
