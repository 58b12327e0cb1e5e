-- There is some answer of each of the commands.
use Rattle.std.proofs.Common.{◌⊎◌, ℕ, List, [], length, inl, inr}
use Rattle.dlk_calculus.specs.declared.reason.Reason.{Reason}
use Rattle.dlk_calculus.specs.Places.{At}
use Rattle.dlk_calculus.specs.Provables.{Provable, IsAmong}
use Rattle.dlk_calculus.specs.Steps.{Step, IsProper, StepOf, Fault}
use Rattle.dlk_calculus.proofs.StepLaws.{is_among}
use Rattle.dlk_kernel.specs.Taken.{Takes}
use Rattle.dlk_link.specs.Ends.{EndsIn}
use Rattle.dlk_link.specs.Linked.{Linked, Joined}
use Rattle.dlk_link.specs.Trimmed.{Trimmed}
use Rattle.dlk_link.proofs.OneLinked.{some_linked}
use Rattle.dlk_replay.specs.Files.{file_lines, accepted, bad, Verdict, Answer}
use Rattle.dlk_replay.specs.declared.fault.LineWhy.{LineWhy}
use Rattle.dlk_replay.proofs.Verdicts.{some_verdict, accepted_some}
use Rattle.dlk_replies.specs.Replies.{Reply}
use Rattle.dlk_jobs_check.specs.Terms.{line_refused, Accepts, Replays}
use Rattle.dlk_jobs_check.proofs.Ends.{last_of}
use Rattle.dlk_jobs_check.proofs.OneTerm.{replays, some_judgement}
use Rattle.dlk_jobs_record.proofs.OneRecord.{some_record}
use Rattle.dlk_jobs_terms.specs.Converts.{Converts, bad_line, records as writes_anew}
use Rattle.dlk_jobs_terms.specs.Links.{LinksSteps, no_goal, past_limit, records, no_goal_refused, link_refused, lemma_refused, Links, refuses, bad_lemma, links}
use Rattle.dlk_jobs_terms.specs.Made.{RecordsLast}
use Rattle.dlk_jobs_terms.specs.Trims.{Trims, refuses as refuses_term, trims}
use Rattle.dlk_jobs_terms.proofs.EndLaws.{SaysSteps, KeptShows, kept_ends, replay_takes, replay_last, replay_ends}
use Rattle.dlk_jobs_terms.proofs.LinkedFates.{linked_fate}
use Rattle.dlk_jobs_terms.proofs.SameStep.{RuleIsItsCall}
use Rattle.dlk_jobs_terms.proofs.SomeTrimmed.{some_trimmed}

-- a term is replayed, or has a first wrong line
replayed_or_bad : (term : List ℕ) → ((steps : List Step) × (rows : List Provable) × (p : Provable) × Replays term steps rows p)
    ⊎ ((n : ℕ) × (why : LineWhy) × Verdict (file_lines term) (bad n why))
replayed_or_bad term = by_verdict (some_verdict (file_lines term))
  where
    by_verdict : (a : Answer) × Verdict (file_lines term) a → ((steps : List Step) × (rows : List Provable) × (p : Provable) × Replays term steps rows p)
        ⊎ ((n : ℕ) × (why : LineWhy) × Verdict (file_lines term) (bad n why))
    by_verdict (bad n why, verdict) = inr (n, why, verdict)
    by_verdict (accepted rows line, verdict) =
        let last = last_of rows (accepted_some (file_lines term) rows line verdict) in
        let a : Accepts term rows last.1 = record { before = last.0; last = last.2; line = line; verdict = verdict } in
        let r = replays term rows last.1 a in
        inl (r.0, rows, last.1, r.1)

pub some_convert : (term : List ℕ) → (reply : Reply) × Converts term reply
some_convert term = elim (replayed_or_bad term) [
  | inr wrong ↦ (line_refused wrong.0 wrong.1, bad_line wrong.0 wrong.1 wrong.2)
  | inl r ↦ let reply = some_record r.0 r.2 in (reply.0, writes_anew r.0 r.1 r.2 r.3 reply.0 reply.1)
]

-- steps that are taken are recorded
made : (steps : List Step) (last : Provable) → EndsIn steps last → (reply : Reply) × RecordsLast steps reply
made steps last ends = let reply = some_record steps last in (reply.0, (last, ends, reply.1))

module _ (says : SaysSteps) where
  module _ (decide : (rows : List Provable) (step : Step) → IsProper step → ((p : Provable) × StepOf rows step p) ⊎ ((why : Reason) × Fault rows step why))
      (row : (term lemma steps : List Step) (rows others after : List Provable) (p q : Provable) → Takes [] term rows → Takes [] lemma others →
      At rows (length rows) p → At others (length others) q → Linked term p.goals lemma q.conclusion steps → IsAmong q.conclusion p.goals →
      Takes [] steps after → (r : Provable) × At after (length after) r × Joined p q r) where
    some_linking : (term lemma : List ℕ) (steps others : List Step) (rows more : List Provable) (p q : Provable) → Replays term steps rows p →
        Replays lemma others more q → (reply : Reply) × LinksSteps steps others p q reply
    some_linking term lemma steps others rows more p q main by = elim (is_among q.conclusion p.goals) [
      | no none ↦ (no_goal_refused, no_goal none)
      | yes some ↦
          let l = some_linked steps others p.goals q.conclusion in
          let takes = replay_takes says term steps rows p main in
          let takes_lemma = replay_takes says lemma others more q by in
          elim (linked_fate decide steps others l.0 rows more p.goals q.conclusion takes takes_lemma l.1) [
            | inr fault ↦ (link_refused fault.0, past_limit some l.0 l.1 fault.0 fault.1)
            | inl after ↦
                let last = row steps others l.0 rows more after.0 p q takes takes_lemma (replay_last term steps rows p main)
                (replay_last lemma others more q by) l.1
                some after.1 in
                let reply = made l.0 last.0 (record { rows = after.0; takes = after.1; last = last.1 }) in
                (reply.0, records some l.0 l.1 reply.0 reply.1)
          ]
    ]

    pub some_link : (model term lemma : List ℕ) → (reply : Reply) × Links model term lemma reply
    some_link model term lemma = elim (some_judgement model term) [
      | inl refused ↦ (refused.0, refuses refused.0 refused.1)
      | inr t ↦ elim (replayed_or_bad lemma) [
        | inr wrong ↦ (lemma_refused wrong.0 wrong.1, bad_lemma t.0 t.1 t.2 t.3 wrong.0 wrong.1 wrong.2)
        | inl u ↦
            let reply = some_linking term lemma t.0 u.0 t.1 u.1 t.2 u.2 t.3.replays u.3 in
            (reply.0, links t.0 t.1 t.2 t.3 u.0 u.1 u.2 u.3 reply.0 reply.1)
      ]
    ]

  module _ (rule_is : RuleIsItsCall) (shows : KeptShows) where
    some_kept : (term : List ℕ) (steps : List Step) (rows : List Provable) (p : Provable) → Replays term steps rows p →
        (kept : List Step) × Trimmed steps kept × EndsIn kept p
    some_kept term steps rows p r =
        let kept = some_trimmed rule_is steps rows (replay_takes says term steps rows p r) in
        (kept.0, kept.1, kept_ends shows steps kept.0 p (replay_ends says term steps rows p r) kept.1)

    pub some_trim : (model term : List ℕ) → (reply : Reply) × Trims model term reply
    some_trim model term = elim (some_judgement model term) [
      | inl refused ↦ (refused.0, refuses_term refused.0 refused.1)
      | inr t ↦
          let kept = some_kept term t.0 t.1 t.2 t.3.replays in
          let reply = made kept.0 t.2 kept.2 in
          (reply.0, trims t.0 t.1 t.2 t.3 kept.0 kept.1 reply.0 reply.1)
    ]
