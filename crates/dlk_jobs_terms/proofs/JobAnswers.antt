-- From what replaying, linking, trimming and recording answer to what the commands answer.
use Rattle.std.proofs.Common.{List, ℕ, sym, subst, codes}
use Rattle.dlk_calculus.specs.Provables.{Provable}
use Rattle.dlk_calculus.specs.Steps.{Step}
use Rattle.dlk_link.specs.declared.fault.LinkFault.{LinkFault}
use Rattle.dlk_link.specs.declared.fault.LinkFault.TheVariants as fault
use Rattle.dlk_link.specs.Faults.{IsLinkFault}
use Rattle.dlk_link.specs.Links.{Links as AreLinked, LacksGoal, LinksUpTo}
use Rattle.dlk_replies.specs.Replies.{Reply}
use Rattle.dlk_jobs_check.specs.Judged.{RefusesLine}
use Rattle.dlk_jobs_check.specs.Terms.{Replays, TakesTerm}
use Rattle.dlk_jobs_record.specs.Records.{Records}
use Rattle.dlk_jobs_terms.specs.Converts.{Converts, bad_line, records as writes_anew}
use Rattle.dlk_jobs_terms.specs.Links.{LinksSteps, no_goal, past_limit, records, Links, bad_lemma, links}
use Rattle.dlk_jobs_terms.specs.Made.{RecordsLast}
use Rattle.dlk_jobs_terms.specs.Refused.{IsLinkRefused}
use Rattle.dlk_jobs_terms.proofs.EndLaws.{SaysSteps, one_ending, replay_ends}

pub line_answer : (term : List ℕ) (reply : Reply) → RefusesLine (codes "line") term reply → Converts term reply
line_answer term reply (n, why, verdict, is) = subst (Converts term) (sym is) (bad_line n why verdict)

pub convert_answer : SaysSteps → (term : List ℕ) (steps : List Step) (rows : List Provable) (p : Provable) → Replays term steps rows p → (reply : Reply) →
    RecordsLast steps reply → Converts term reply
convert_answer says term steps rows p r reply (last, ends, x) =
    writes_anew steps rows p r reply (subst (λ (z : Provable). Records steps z reply) (one_ending steps last p ends (replay_ends says term steps rows p r)) x)

module _ (model term lemma : List ℕ) (steps : List Step) (rows : List Provable) (p : Provable) (t : TakesTerm model term steps rows p) where
  pub lemma_answer : (reply : Reply) → RefusesLine (codes "lemma line") lemma reply → Links model term lemma reply
  lemma_answer reply (n, why, verdict, is) = subst (Links model term lemma) (sym is) (bad_lemma steps rows p t n why verdict)

  module _ (says : SaysSteps) (others : List Step) (more : List Provable) (q : Provable) (u : Replays lemma others more q) where
    answer : (reply : Reply) → LinksSteps steps others p q reply → Links model term lemma reply
    answer reply x = links steps rows p t others more q u reply x

    pub link_answer : (linked : List Step) → AreLinked steps others linked → (reply : Reply) → RecordsLast linked reply → Links model term lemma reply
    link_answer linked are reply x =
        let is = are p q (replay_ends says term steps rows p t.replays) (replay_ends says lemma others more q u) in
        answer reply (records is.0 linked is.1 reply x)

    pub fault_answer : (why : LinkFault) → IsLinkFault (LacksGoal steps others) (LinksUpTo steps others) why → (reply : Reply) → IsLinkRefused why reply →
        Links model term lemma reply
    fault_answer fault.NoGoal lacks reply is =
        let none = lacks p q (replay_ends says term steps rows p t.replays) (replay_ends says lemma others more q u) in
        answer reply (subst (LinksSteps steps others p q) (sym is) (no_goal none))
    fault_answer (fault.Step why) (linked, are, first) reply is =
        let l = are p q (replay_ends says term steps rows p t.replays) (replay_ends says lemma others more q u) in
        answer reply (subst (LinksSteps steps others p q) (sym is) (past_limit l.0 linked l.1 why first))
    fault_answer fault.Memory free reply is = absurd is
