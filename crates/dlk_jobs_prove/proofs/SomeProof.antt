-- `prove` answers something to a model and a strategy.
use Rattle.std.proofs.Common.{ℕ, List, inl, inr}
use Rattle.dlk_tree.specs.Trees.{Tree}
use Rattle.dlk_grammar.specs.declared.token.Dots.TheVariants.{Refused}
use Rattle.dlk_grammar.specs.declared.token.Form.TheVariants.{Formula}
use Rattle.dlk_machine.proofs.SomeText.{some_tree}
use Rattle.dlk_strategy.specs.Runs.{Outcome, Done, Fails, Budget}
use Rattle.dlk_replies.specs.declared.form.Role.TheVariants.{Model}
use Rattle.dlk_replies.specs.Replies.{Reply}
use Rattle.dlk_replies.specs.Refusals.{text_refused}
use Rattle.dlk_jobs_check.specs.Terms.{ModelText}
use Rattle.dlk_jobs_prove.specs.Proves.{Proves, bad_model, bad_strategy, fails, spent, records, strategy_refused, failed, over_budget, RunsTo}
use Rattle.dlk_jobs_check.proofs.Ends.{last_of}
use Rattle.dlk_jobs_record.proofs.OneRecord.{some_record}
use Rattle.dlk_jobs_prove.proofs.RunSteps.{some_rows}
use Rattle.dlk_jobs_prove.proofs.StrategyLaws.{SomeText, SomeRun, RunsShow}

module _ (some_text : SomeText) (some_run : SomeRun) (runs_show : RunsShow) (model strategy : List ℕ) where
  by_outcome : (o : Outcome) → RunsTo model strategy o → (reply : Reply) × Proves model strategy reply
  by_outcome (Fails at why used) run = (failed at why, fails at used why run)
  by_outcome (Budget at) run = (over_budget at, spent at run)
  by_outcome (Done made left) run =
      let last = last_of made.rows (some_rows runs_show run.tactic run.formula made left run.run) in
      let reply = some_record made.steps last.1 in
      (reply.0, records made left run last.1 (record { before = last.0; rows_are = last.2 }) reply.0 reply.1)

  by_model : (f : Tree) → ModelText model f → (reply : Reply) × Proves model strategy reply
  by_model f reads = elim (some_text strategy) [
    | inr fault ↦ (strategy_refused fault.0, bad_strategy f reads fault.0 fault.1)
    | inl says ↦
        let run = some_run strategy says.0 model f says.1 reads in
        by_outcome run.0 (record { formula = f; reads = reads; tactic = says.0; says = says.1; run = run.1 })
  ]

  pub some_prove : (reply : Reply) × Proves model strategy reply
  some_prove = elim (some_tree Formula Refused model) [
    | inr fault ↦ (text_refused Model fault.0, bad_model fault.0 fault.1)
    | inl read ↦ by_model read.0 read.1
  ]
