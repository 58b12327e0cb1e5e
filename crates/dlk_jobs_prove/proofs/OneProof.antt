-- There is one answer to a model and a strategy.
use Rattle.std.proofs.Common.{◌≡◌, ℕ, List, refl, sym, ap, subst, ◌∙◌}
use Rattle.dlk_tree.specs.Trees.{Tree}
use Rattle.dlk_calculus.specs.Provables.{Provable}
use Rattle.dlk_grammar.specs.declared.token.Dots.TheVariants.{Refused}
use Rattle.dlk_grammar.specs.declared.token.Form.TheVariants.{Formula}
use Rattle.dlk_grammar.specs.Texts.{TextFault}
use Rattle.dlk_machine.proofs.TextLaws.{one_tree_fault}
use Rattle.dlk_tacsyn.specs.Tactics.{Tactic}
use Rattle.dlk_tacsyn.specs.Faults.{Fault}
use Rattle.dlk_tacsyn.specs.Strategies.{StrategyFault}
use Rattle.dlk_strategy.specs.Runs.{Outcome, Done, Fails, Budget, RunsModel}
use Rattle.dlk_replies.specs.declared.form.Role.TheVariants.{Model}
use Rattle.dlk_replies.specs.Replies.{Reply}
use Rattle.dlk_replies.specs.Refusals.{text_refused}
use Rattle.dlk_jobs_check.specs.Terms.{ModelText, ModelFault}
use Rattle.dlk_jobs_record.specs.Records.{Records, IsLast}
use Rattle.dlk_jobs_prove.specs.Proves.{Proves, bad_model, bad_strategy, fails, spent, records, strategy_refused, failed, over_budget, RunsTo}
use Rattle.dlk_jobs_check.proofs.Ends.{one_last, one_model, model_or_fault}
use Rattle.dlk_jobs_record.proofs.OneRecord.{one_record}
use Rattle.dlk_jobs_prove.proofs.StrategyLaws.{OneText, TextOrFault, OneFault, OneRun}

-- how far it comes
data Ending : Type 0 where
  AtModel : TextFault → Ending
  AtStrategy : Fault → Ending
  AtRun : Outcome → Ending

abbrev Comes : List ℕ → List ℕ → Ending → Type 0
Comes model strategy (AtModel why) = ModelFault model why
Comes model strategy (AtStrategy why) = (f : Tree) × ModelText model f × StrategyFault strategy why
Comes model strategy (AtRun outcome) = RunsTo model strategy outcome

-- what is answered there
abbrev Answers : Ending → Reply → Type 0
Answers (AtModel why) reply = reply ≡ text_refused Model why
Answers (AtStrategy why) reply = reply ≡ strategy_refused why
Answers (AtRun (Fails at why used)) reply = reply ≡ failed at why
Answers (AtRun (Budget at)) reply = reply ≡ over_budget at
Answers (AtRun (Done made left)) reply = (p : Provable) × IsLast made.rows p × Records made.steps p reply

one_answer : (end : Ending) (r s : Reply) → Answers end r → Answers end s → r ≡ s
one_answer (AtModel why) r s a b = a ∙ sym b
one_answer (AtStrategy why) r s a b = a ∙ sym b
one_answer (AtRun (Fails at why used)) r s a b = a ∙ sym b
one_answer (AtRun (Budget at)) r s a b = a ∙ sym b
one_answer (AtRun (Done made left)) r s (p, ended, a) (q, other, b) =
    let same : q ≡ p = one_last other.before ended.before q p (sym other.rows_are ∙ ended.rows_are) in
    one_record made.steps p r s a (subst (λ (x : Provable). Records made.steps x s) same b)

-- the answer, and how far it comes
record Reached (model strategy : List ℕ) (reply : Reply) : Type 0 where
  end : Ending
  comes : Comes model strategy end
  answers : Answers end reply

reached : (model strategy : List ℕ) (reply : Reply) → Proves model strategy reply → Reached model strategy reply
reached model strategy _ (bad_model why is) = record { end = AtModel why; comes = is; answers = refl }
reached model strategy _ (bad_strategy f reads why is) = record { end = AtStrategy why; comes = (f, reads, is); answers = refl }
reached model strategy _ (fails at used why run) = record { end = AtRun (Fails at why used); comes = run; answers = refl }
reached model strategy _ (spent at run) = record { end = AtRun (Budget at); comes = run; answers = refl }
reached model strategy _ (records made left run p ended reply is) = record { end = AtRun (Done made left); comes = run; answers = (p, ended, is) }

module _ (one_text : OneText) (text_or_fault : TextOrFault) (one_fault : OneFault) (one_run : OneRun) (model strategy : List ℕ) where
  one_outcome : (a b : Outcome) → RunsTo model strategy a → RunsTo model strategy b → a ≡ b
  one_outcome a b r s =
      let formula : s.formula ≡ r.formula = one_model s.reads r.reads in
      let tactic : s.tactic ≡ r.tactic = one_text strategy s.tactic r.tactic s.says r.says in
      one_run r.tactic r.formula a b r.run (subst (λ (t : Tactic). RunsModel t r.formula b) tactic (subst (λ (f : Tree). RunsModel s.tactic f b) formula s.run))

  one_ending : (a b : Ending) → Comes model strategy a → Comes model strategy b → a ≡ b
  one_ending (AtModel why) (AtModel other) x y = ap AtModel (one_tree_fault Formula Refused model why other x y)
  one_ending (AtModel why) (AtStrategy other) x y = absurd (model_or_fault why y.1 x)
  one_ending (AtModel why) (AtRun outcome) x y = absurd (model_or_fault why y.reads x)
  one_ending (AtStrategy why) (AtModel other) x y = absurd (model_or_fault other x.1 y)
  one_ending (AtStrategy why) (AtStrategy other) x y = ap AtStrategy (one_fault strategy why other x.2 y.2)
  one_ending (AtStrategy why) (AtRun outcome) x y = absurd (text_or_fault strategy y.tactic why y.says x.2)
  one_ending (AtRun outcome) (AtModel other) x y = absurd (model_or_fault other x.reads y)
  one_ending (AtRun outcome) (AtStrategy other) x y = absurd (text_or_fault strategy x.tactic other x.says y.2)
  one_ending (AtRun outcome) (AtRun another) x y = ap AtRun (one_outcome outcome another x y)

  pub one_prove : (r s : Reply) → Proves model strategy r → Proves model strategy s → r ≡ s
  one_prove r s a b =
      let x = reached model strategy r a in
      let y = reached model strategy s b in
      one_answer x.end r s x.answers (subst (λ (e : Ending). Answers e s) (one_ending y.end x.end y.comes x.comes) y.answers)
