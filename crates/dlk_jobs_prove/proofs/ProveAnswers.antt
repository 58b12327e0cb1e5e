-- From what reading, running and recording a strategy answer to what `prove` answers.
use Rattle.std.proofs.Common.{◌≡◌, ◌≤◌, ℕ, List, length, map, Result, Ok, Err, sym, subst, ap, ◌∙◌, inl, inr}
use Rattle.std.specs.Prelude.{IfErr}
use Rattle.std.proofs.lemmas.List.{length-map}
use Rattle.dlk_tree.specs.Trees.{Tree}
use Rattle.dlk_calculus.specs.Places.{At}
use Rattle.dlk_calculus.specs.Provables.{Provable}
use Rattle.dlk_calculus.specs.Steps.{Step}
use Rattle.dlk_kernel.specs.declared.row.Row.{Row}
use Rattle.dlk_tacsyn.specs.Tactics.{Tactic}
use Rattle.dlk_tacsyn.specs.Faults.{Syntax, Nesting, Repeat, UnknownAtom, Arguments, IsTacSyntaxOf}
use Rattle.dlk_tacsyn.specs.Strategies.{StrategyText, StrategyFault}
use Rattle.dlk_tacsyn.specs.declared.fault.TacSyntax.{TacSyntax}
use Rattle.dlk_tacsyn.specs.declared.fault.TacSyntax.TheVariants as syntax
use Rattle.dlk_strategy.specs.declared.fault.RunFault.{RunFault}
use Rattle.dlk_strategy.specs.declared.fault.RunFault.TheVariants as run
use Rattle.dlk_strategy.specs.Runs.{Progress, Outcome, Done, RunsModel}
use Rattle.dlk_strategy.specs.Ties.{IsRunFaultOf}
use Rattle.dlk_replies.specs.declared.ended.Ended.{Ended}
use Rattle.dlk_replies.specs.declared.reply.Reply.{Reply as IdReply}
use Rattle.dlk_replies.specs.Ended.{EndsIn}
use Rattle.dlk_replies.specs.Replies.{Reply}
use Rattle.dlk_replies.proofs.Ends.{ends_weaker}
use Rattle.dlk_jobs_check.specs.Terms.{ModelText}
use Rattle.dlk_jobs_check.specs.Judged.{RefusesModel}
use Rattle.dlk_jobs_record.specs.Records.{Records}
use Rattle.dlk_jobs_prove.specs.Proves.{Proves, bad_model, bad_strategy, fails, spent, records, RunsTo}
use Rattle.dlk_jobs_prove.specs.Proved.{IsStrategyRefused, IsRunRefused, RefusesStrategy, RefusesRun}
use Rattle.dlk_jobs_check.proofs.Ends.{last_of, last_item}

pub model_answer : (model text : List ℕ) (reply : Reply) → RefusesModel model reply → Proves model text reply
model_answer model text reply (why, fault, is) = subst (Proves model text) (sym is) (bad_model why fault)

-- a job that ends early with what is recorded of these steps
pub early_done : (job : Result IdReply Ended) (steps : List Step) (IsAnswer : Reply → Type 0) →
    ((reply : Reply) → ((p : Provable) → Records steps p reply) → IsAnswer reply) → IfErr job (EndsIn (λ reply. (p : Provable) → Records steps p reply)) →
    IfErr job (EndsIn IsAnswer)
early_done (Ok reply) steps IsAnswer answers says = tt
early_done (Err end) steps IsAnswer answers says = ends_weaker (λ reply. (p : Provable) → Records steps p reply) IsAnswer answers end says

-- a text that is no strategy
pub strategy_refuses : (text : List ℕ) (why : TacSyntax) (reply : Reply) → IsTacSyntaxOf (StrategyFault text) why → IsStrategyRefused why reply →
    RefusesStrategy text reply
strategy_refuses text (syntax.Syntax at) reply fault is = (Syntax at, fault, is)
strategy_refuses text (syntax.Nesting at) reply fault is = (Nesting at, fault, is)
strategy_refuses text (syntax.Repeat at) reply fault is = (Repeat at, fault, is)
strategy_refuses text (syntax.UnknownAtom at) reply fault is = (UnknownAtom at, fault, is)
strategy_refuses text (syntax.Arguments at) reply fault is = (Arguments at, fault, is)
strategy_refuses text syntax.Memory reply fault is = absurd is

-- a run that fails, or has no more atoms to run
pub run_refuses : (becomes : Outcome → Type 0) (why : RunFault) (reply : Reply) → IsRunFaultOf becomes why → IsRunRefused why reply → RefusesRun becomes reply
run_refuses becomes (run.Fails at why) reply (used, is_run) is = inl (at, used, why, is_run, is)
run_refuses becomes (run.Budget at) reply is_run is = inr (at, is_run, is)
run_refuses becomes run.Memory reply is_run is = absurd is

module _ (model text : List ℕ) (f : Tree) (reads : ModelText model f) where
  pub strategy_answer : (reply : Reply) → RefusesStrategy text reply → Proves model text reply
  strategy_answer reply (why, fault, is) = subst (Proves model text) (sym is) (bad_strategy f reads why fault)

  module _ (t : Tactic) (says : StrategyText text t) where
    pub fault_answer : (reply : Reply) → RefusesRun (RunsModel t f) reply → Proves model text reply
    fault_answer reply (inl h) =
        subst (Proves model text) (sym h.4) (fails h.0 h.1 h.2 (record { formula = f; reads = reads; tactic = t; says = says; run = h.3 }))
    fault_answer reply (inr h) = subst (Proves model text) (sym h.2) (spent h.0 (record { formula = f; reads = reads; tactic = t; says = says; run = h.1 }))

    -- a run that is done
    pub done_answer : (made : Progress) (left : ℕ) → RunsModel t f (Done made left) → 1 ≤ length made.rows → (rows : List Row) (stands : Row → Provable) →
        made.rows ≡ map stands rows →
        (fact : ℕ) → fact ≡ length rows → (reply : Reply) → ((p : Provable) → At (map stands rows) fact p → Records made.steps p reply) →
        Proves model text reply
    done_answer made left is_run some rows stands rows_are fact fact_is reply says_so =
        let end = last_of made.rows some in
        let whole : RunsTo model text (Done made left) = record { formula = f; reads = reads; tactic = t; says = says; run = is_run } in
        let count : length made.rows ≡ fact = ap length rows_are ∙ length-map rows stands ∙ sym fact_is in
        let there : At (map stands rows) fact end.1 =
        subst (λ (l : List Provable). At l fact end.1) rows_are (subst (λ n. At made.rows n end.1) count (last_item made.rows end.0 end.1 end.2)) in
        records made left whole end.1 (record { before = end.0; rows_are = end.2 }) reply (says_so end.1 there)
