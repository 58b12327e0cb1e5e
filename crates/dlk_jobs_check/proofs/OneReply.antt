-- There is one answer to a model and a term.
use Rattle.std.proofs.Common.{◌≡◌, ℕ, List, length, refl, subst}
use Rattle.dlk_calculus.specs.Provables.{Provable}
use Rattle.dlk_calculus.specs.Steps.{Step}
use Rattle.dlk_guard.specs.Guarded.{lines, Guarded, FirstUnguarded}
use Rattle.dlk_replies.specs.declared.reply.Layout.TheVariants.{Text}
use Rattle.dlk_replies.specs.declared.reply.Showing.{Showing}
use Rattle.dlk_replies.specs.Replies.{Reply}
use Rattle.dlk_jobs_check.specs.Terms.{Replays}
use Rattle.dlk_jobs_check.specs.Checks.{Checks, refuses, reports, answered, reported}
use Rattle.dlk_jobs_check.specs.Guards.{Guards, refuses as refuses_term, guards, GuardSays, is_guarded, is_unguarded, unguarded_line, with_line_first}
use Rattle.dlk_jobs_check.proofs.OneTerm.{one_end, one_replay, one_refusal, one_taken, refused_or_taken}
use Rattle.dlk_jobs_check.proofs.GuardLaws.{OneFirst}

module _ (showing : Showing) (model term : List ℕ) where
  pub one_check : (r s : Reply) → Checks showing model term r → Checks showing model term s → r ≡ s
  one_check _ _ (refuses r a) (refuses s b) = one_refusal model term r s a b
  one_check _ _ (refuses r a) (reports steps rows p t) = absurd (refused_or_taken model term r steps rows p a t)
  one_check _ _ (reports steps rows p t) (refuses s b) = absurd (refused_or_taken model term s steps rows p b t)
  one_check _ _ (reports steps rows p t) (reports others more q u) =
      let same = one_taken model term steps others rows more p q t u in
      λ i. answered showing (same.2 i) (length (same.1 i))

module _ (one_first : OneFirst) where
  -- a term that is replayed has one list of lines with their rows
  same_lines : {term : List ℕ} {steps others : List Step} {rows more : List Provable} {p q : Provable} → Replays term steps rows p →
      Replays term others more q →
      lines steps rows ≡ lines others more
  same_lines a b =
      let steps_are = one_replay a b in
      let rows_are = (one_end a.accepts b.accepts).rows_are in
      λ i. lines (steps_are i) (rows_are i)

  pub one_said : (term one other : List ℕ) → GuardSays term one → GuardSays term other → one ≡ other
  one_said term _ _ (is_guarded steps rows p a g) (is_guarded others more q b h) = refl
  one_said term _ _ (is_guarded steps rows p a g) (is_unguarded others more q b n why first) =
      absurd ((subst Guarded (same_lines a b) g).none n why first.refused)
  one_said term _ _ (is_unguarded steps rows p a n why first) (is_guarded others more q b h) =
      absurd ((subst Guarded (same_lines b a) h).none n why first.refused)
  one_said term _ _ (is_unguarded steps rows p a n why first) (is_unguarded others more q b m reason second) =
      let same = same_lines b a in
      let is = one_first (lines steps rows) n m why reason first (subst (λ l. FirstUnguarded l m reason) same second) in
      λ i. unguarded_line (is.0 i) (is.1 i)

  pub one_guard : (model term : List ℕ) (r s : Reply) → Guards model term r → Guards model term s → r ≡ s
  one_guard model term _ _ (refuses_term r a) (refuses_term s b) = one_refusal model term r s a b
  one_guard model term _ _ (refuses_term r a) (guards steps rows p t said says) = absurd (refused_or_taken model term r steps rows p a t)
  one_guard model term _ _ (guards steps rows p t said says) (refuses_term s b) = absurd (refused_or_taken model term s steps rows p b t)
  one_guard model term _ _ (guards steps rows p t said says) (guards others more q u line tells) =
      let same = one_taken model term steps others rows more p q t u in
      let line_is = one_said term said line says tells in
      λ i. with_line_first (line_is i) (reported Text (same.2 i) (length (same.1 i)))
