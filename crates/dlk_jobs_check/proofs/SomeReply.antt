-- There is some answer to a model and a term.
use Rattle.std.proofs.Common.{ℕ, List, length, inl, inr}
use Rattle.dlk_calculus.specs.Provables.{Provable}
use Rattle.dlk_calculus.specs.Steps.{Step}
use Rattle.dlk_guard.specs.Guarded.{lines}
use Rattle.dlk_replies.specs.declared.reply.Layout.TheVariants.{Text}
use Rattle.dlk_replies.specs.declared.reply.Showing.{Showing}
use Rattle.dlk_replies.specs.Replies.{Reply}
use Rattle.dlk_jobs_check.specs.Terms.{Replays}
use Rattle.dlk_jobs_check.specs.Checks.{Checks, refuses, reports, answered, reported}
use Rattle.dlk_jobs_check.specs.Guards.{Guards, refuses as refuses_term, guards, GuardSays, is_guarded, is_unguarded, guarded_line, unguarded_line}
use Rattle.dlk_jobs_check.specs.Guards.{with_line_first}
use Rattle.dlk_jobs_check.proofs.OneTerm.{some_judgement}
use Rattle.dlk_jobs_check.proofs.GuardLaws.{SomeFirst}

pub some_check : (showing : Showing) (model term : List ℕ) → (reply : Reply) × Checks showing model term reply
some_check showing model term = elim (some_judgement model term) [
  | inl refused ↦ (refused.0, refuses refused.0 refused.1)
  | inr taken ↦ (answered showing taken.2 (length taken.1), reports taken.0 taken.1 taken.2 taken.3)
]

module _ (some_first : SomeFirst) where
  some_said : (term : List ℕ) (steps : List Step) (rows : List Provable) (p : Provable) → Replays term steps rows p → (said : List ℕ) × GuardSays term said
  some_said term steps rows p r = elim (some_first (lines steps rows)) [
    | inl all ↦ (guarded_line, is_guarded steps rows p r all)
    | inr first ↦ (unguarded_line first.0 first.1, is_unguarded steps rows p r first.0 first.1 first.2)
  ]

  pub some_guard : (model term : List ℕ) → (reply : Reply) × Guards model term reply
  some_guard model term = elim (some_judgement model term) [
    | inl refused ↦ (refused.0, refuses_term refused.0 refused.1)
    | inr taken ↦
        let said = some_said term taken.0 taken.1 taken.2 taken.3.replays in
        (with_line_first said.0 (reported Text taken.2 (length taken.1)), guards taken.0 taken.1 taken.2 taken.3 said.0 said.1)
  ]
