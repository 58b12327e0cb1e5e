-- What `link` answers to a model, a term and a lemma.
use Rattle.std.specs.Prelude.{ℕ, List, [], ◌++◌, codes}
use Rattle.dlk_calculus.specs.declared.reason.Reason.{Reason}
use Rattle.dlk_calculus.specs.Provables.{Provable, IsAmong}
use Rattle.dlk_calculus.specs.Reasons.{reason_text}
use Rattle.dlk_calculus.specs.Steps.{Step}
use Rattle.dlk_link.specs.Linked.{Linked, Joined}
use Rattle.dlk_replay.specs.Files.{Verdict, bad, file_lines}
use Rattle.dlk_replay.specs.declared.fault.LineWhy.{LineWhy}
use Rattle.dlk_replies.specs.Replies.{Reply, refusal}
use Rattle.dlk_uses.specs.Taking.{FirstFault}
use Rattle.dlk_jobs_check.specs.Terms.{refused_line, Replays, TakesTerm, RefusesTerm}
use Rattle.dlk_jobs_record.specs.Records.{IsWritten}
use Rattle.dlk_jobs_terms.specs.Made.{RecordsLast}

-- refused: lemma line N: WHY
abbrev pub lemma_refused : ℕ → LineWhy → Reply
lemma_refused n why = refused_line (codes "lemma line") n why

-- refused: no-goal
abbrev pub no_goal_refused : Reply
no_goal_refused = refusal (codes "no-goal")

-- refused: link: REASON
abbrev pub link_refused : Reason → Reply
link_refused why = refusal (codes "link: " ++ reason_text why)

-- LinksSteps steps others p q reply: what is answered where a term ends in p by the first steps, and a lemma in q by the others. One case an
-- answer, the first that applies.
pub data LinksSteps (steps others : List Step) (p q : Provable) : Reply → Type 0 where
  no_goal : ¬ IsAmong q.conclusion p.goals → LinksSteps steps others p q no_goal_refused
  -- the first reason against a linked step
  past_limit : IsAmong q.conclusion p.goals → (linked : List Step) → Linked steps p.goals others q.conclusion linked →
      (why : Reason) → FirstFault [] linked why → LinksSteps steps others p q (link_refused why)
  -- the linked steps, and the report of their last row
  records : IsAmong q.conclusion p.goals → (linked : List Step) → Linked steps p.goals others q.conclusion linked →
      (reply : Reply) → RecordsLast linked reply → LinksSteps steps others p q reply

-- Links model term lemma reply: this is what is answered to the three texts. One case an answer, the first that applies.
pub data Links (model term lemma : List ℕ) : Reply → Type 0 where
  refuses : (reply : Reply) → RefusesTerm model term reply → Links model term lemma reply
  bad_lemma : (steps : List Step) (rows : List Provable) (p : Provable) → TakesTerm model term steps rows p →
      (n : ℕ) (why : LineWhy) → Verdict (file_lines lemma) (bad n why) → Links model term lemma (lemma_refused n why)
  links : (steps : List Step) (rows : List Provable) (p : Provable) → TakesTerm model term steps rows p →
      (others : List Step) (more : List Provable) (q : Provable) → Replays lemma others more q →
      (reply : Reply) → LinksSteps steps others p q reply → Links model term lemma reply

-- the written term shows what the term shows, with the lemma in the place of each goal that it concludes, and this is reported
pub record IsJoined (model term lemma written : List ℕ) (reply : Reply) : Type 0 where
  pub steps : List Step
  pub rows : List Provable
  pub main : Provable
  pub takes : TakesTerm model term steps rows main
  pub others : List Step
  pub more : List Provable
  pub by : Provable
  pub replays : Replays lemma others more by
  pub after : List Provable
  pub last : Provable
  pub joined : Joined main by last
  pub is_written : IsWritten written after last reply
