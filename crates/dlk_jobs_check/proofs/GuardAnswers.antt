-- From what the guard saw to what `guard` answers.
use Rattle.std.proofs.Common.{◌≡◌, ℕ, List, length, Option, None, Some, sym, ap, subst, ◌∙◌}
use Rattle.dlk_calculus.specs.Places.{At}
use Rattle.dlk_calculus.specs.Provables.{Provable}
use Rattle.dlk_calculus.specs.Steps.{Step}
use Rattle.dlk_guard.specs.declared.guard.Refusal.{Refusal}
use Rattle.dlk_guard.specs.Guarded.{lines}
use Rattle.dlk_guard.specs.Watched.{Watch, started, watched, watch_of, verdict, after_all}
use Rattle.dlk_replay.specs.declared.fault.Ending.{Ending}
use Rattle.dlk_replies.specs.declared.reply.Layout.TheVariants.{Text}
use Rattle.dlk_replies.specs.Replies.{Reply}
use Rattle.dlk_jobs_check.specs.Terms.{Replays}
use Rattle.dlk_jobs_check.specs.Checks.{reported}
use Rattle.dlk_jobs_check.specs.Guards.{Guards, guards, GuardSays, is_guarded, is_unguarded, with_line_first}
use Rattle.dlk_jobs_check.specs.Judged.{IsTaken}
use Rattle.dlk_jobs_check.specs.Verdicts.{line_of}
use Rattle.dlk_jobs_check.proofs.Ends.{last_item}
use Rattle.dlk_jobs_check.proofs.GuardLaws.{NoneSaid, FirstSaid}

module _ (none_said : NoneSaid) (first_said : FirstSaid) where
  -- the line of the guard that saw the lines of the term
  line_said : (term : List ℕ) (steps : List Step) (rows : List Provable) (p : Provable) → Replays term steps rows p →
      (said : Option Refusal) → said ≡ verdict (watch_of (lines steps rows)) → GuardSays term (line_of said)
  line_said term steps rows p r None is = is_guarded steps rows p r (none_said (lines steps rows) (sym is))
  line_said term steps rows p r (Some refusal) is = is_unguarded steps rows p r refusal.line refusal.why (first_said (lines steps rows) refusal (sym is))

  -- the report behind that line
  pub guards_answer : (model term : List ℕ) (rows : List Provable) (ending : Ending) (begun watch : Watch) → begun ≡ started →
      IsTaken watched model term rows ending begun watch →
      (shown reply : Reply) (first : List ℕ) (said : Option Refusal) → ((p : Provable) → At rows ending.fact p → shown ≡ reported Text p ending.lines) →
      said ≡ verdict watch → first ≡ line_of said → reply ≡ with_line_first first shown → Guards model term reply
  guards_answer model term rows ending begun watch begins t shown reply first said reports said_is first_is is =
      let a = t.takes.replays.accepts in
      let there : At rows ending.fact t.last = subst (λ n. At rows n t.last) (sym t.counts.fact) (last_item rows a.before t.last a.last) in
      let report : shown ≡ reported Text t.last (length rows) = reports t.last there ∙ ap (λ n. reported Text t.last n) t.counts.lines in
      let saw : watch ≡ watch_of (lines t.steps rows) = t.seen ∙ ap (λ w. after_all watched w (lines t.steps rows)) begins in
      let says = line_said term t.steps rows t.last t.takes.replays said (said_is ∙ ap verdict saw) in
      let whole : reply ≡ with_line_first (line_of said) (reported Text t.last (length rows)) = is ∙ (λ i. with_line_first (first_is i) (report i)) in
      subst (Guards model term) (sym whole) (guards t.steps rows t.last t.takes (line_of said) says)
