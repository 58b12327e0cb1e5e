-- There is one answer of each of the commands.
use Rattle.std.proofs.Common.{◌≡◌, ℕ, List, [], refl, ap, subst, subst₂, codes}
use Rattle.dlk_calculus.specs.declared.reason.Reason.{Reason}
use Rattle.dlk_calculus.specs.Provables.{Provable}
use Rattle.dlk_calculus.specs.Steps.{Step, Gives, Fault}
use Rattle.dlk_elab.proofs.TakenLaws.{fault_one}
use Rattle.dlk_link.proofs.InTurn.{no_fault_in}
use Rattle.dlk_link.proofs.OneLinked.{one_linked}
use Rattle.dlk_link.proofs.OneTrimmed.{one_trimmed}
use Rattle.dlk_replies.specs.Replies.{Reply}
use Rattle.dlk_uses.specs.Taking.{FirstFault}
use Rattle.dlk_jobs_check.proofs.OneTerm.{one_end, one_replay, one_refusal, one_taken, refused_or_taken}
use Rattle.dlk_jobs_record.specs.Records.{Records}
use Rattle.dlk_jobs_record.proofs.OneRecord.{one_record}
use Rattle.dlk_jobs_terms.specs.Converts.{Converts, bad_line, records as writes_anew}
use Rattle.dlk_jobs_terms.specs.Links.{LinksSteps, no_goal, past_limit, records, link_refused, Links, refuses, bad_lemma, links}
use Rattle.dlk_jobs_terms.specs.Made.{RecordsLast}
use Rattle.dlk_jobs_terms.specs.Trims.{Trims, refuses as refuses_term, trims}
use Rattle.dlk_jobs_terms.proofs.EndLaws.{one_made, accepted_or_bad, one_bad_line}

pub one_convert : (term : List ℕ) (r s : Reply) → Converts term r → Converts term s → r ≡ s
one_convert term _ _ (bad_line n why v) (bad_line m other w) = one_bad_line (codes "line") term n m why other v w
one_convert term _ _ (bad_line n why v) (writes_anew steps rows p a s x) = absurd (accepted_or_bad term rows p n why a.accepts v)
one_convert term _ _ (writes_anew steps rows p a r x) (bad_line n why v) = absurd (accepted_or_bad term rows p n why a.accepts v)
one_convert term _ _ (writes_anew steps rows p a r x) (writes_anew others more q b s y) =
    let steps_are = one_replay b a in
    let last_is = (one_end b.accepts a.accepts).last_is in
    one_record steps p r s x (subst (λ (z : Provable). Records steps z s) last_is (subst (λ (l : List Step). Records l q s) steps_are y))

pub one_trim : (model term : List ℕ) (r s : Reply) → Trims model term r → Trims model term s → r ≡ s
one_trim model term _ _ (refuses_term r a) (refuses_term s b) = one_refusal model term r s a b
one_trim model term _ _ (refuses_term r a) (trims steps rows p t kept is s y) = absurd (refused_or_taken model term r steps rows p a t)
one_trim model term _ _ (trims steps rows p t kept is r x) (refuses_term s b) = absurd (refused_or_taken model term s steps rows p b t)
one_trim model term _ _ (trims steps rows p t kept is r x) (trims others more q u left was s y) =
    let same = one_taken model term others steps more rows q p u t in
    let kept_are = one_trimmed others left kept was (rw same.0 is) in
    one_made kept r s x (subst (λ (l : List Step). RecordsLast l s) kept_are y)

module _ (one_provable : (rows : List Provable) (step : Step) (p q : Provable) → Gives rows step p → Gives rows step q → p ≡ q)
    (one_fault : (rows : List Provable) (step : Step) (why other : Reason) → Fault rows step why → Fault rows step other → why ≡ other) where
  one_linking : (steps others : List Step) (p q : Provable) (r s : Reply) → LinksSteps steps others p q r → LinksSteps steps others p q s → r ≡ s
  one_linking steps others p q _ _ (no_goal none) (no_goal also) = refl
  one_linking steps others p q _ _ (no_goal none) (past_limit some l is why f) = absurd (none some)
  one_linking steps others p q _ _ (no_goal none) (records some l is s y) = absurd (none some)
  one_linking steps others p q _ _ (past_limit some l is why f) (no_goal none) = absurd (none some)
  one_linking steps others p q _ _ (past_limit some l is why f) (past_limit also m was other g) =
      let same = one_linked steps others p.goals q.conclusion m l was is in
      ap link_refused (fault_one one_provable one_fault [] l why other f (subst (λ (x : List Step). FirstFault [] x other) same g))
  one_linking steps others p q _ _ (past_limit some l is why f) (records also m was s y) =
      let same = one_linked steps others p.goals q.conclusion l m is was in
      absurd (no_fault_in m y.1.rows why y.1.takes (subst (λ (x : List Step). FirstFault [] x why) same f))
  one_linking steps others p q _ _ (records some l is r x) (no_goal none) = absurd (none some)
  one_linking steps others p q _ _ (records some l is r x) (past_limit also m was why f) =
      let same = one_linked steps others p.goals q.conclusion m l was is in
      absurd (no_fault_in l x.1.rows why x.1.takes (subst (λ (z : List Step). FirstFault [] z why) same f))
  one_linking steps others p q _ _ (records some l is r x) (records also m was s y) =
      let same = one_linked steps others p.goals q.conclusion m l was is in
      one_made l r s x (subst (λ (z : List Step). RecordsLast z s) same y)

  module _ (model term lemma : List ℕ) where
    pub one_link : (r s : Reply) → Links model term lemma r → Links model term lemma s → r ≡ s
    one_link _ _ (refuses r a) (refuses s b) = one_refusal model term r s a b
    one_link _ _ (refuses r a) (bad_lemma steps rows p t n why v) = absurd (refused_or_taken model term r steps rows p a t)
    one_link _ _ (refuses r a) (links steps rows p t others more q u s y) = absurd (refused_or_taken model term r steps rows p a t)
    one_link _ _ (bad_lemma steps rows p t n why v) (refuses s b) = absurd (refused_or_taken model term s steps rows p b t)
    one_link _ _ (bad_lemma steps rows p t n why v) (bad_lemma steps' rows' p' t' m other w) = one_bad_line (codes "lemma line") lemma n m why other v w
    one_link _ _ (bad_lemma steps rows p t n why v) (links steps' rows' p' t' others more q u s y) = absurd (accepted_or_bad lemma more q n why u.accepts v)
    one_link _ _ (links steps rows p t others more q u r x) (refuses s b) = absurd (refused_or_taken model term s steps rows p b t)
    one_link _ _ (links steps rows p t others more q u r x) (bad_lemma steps' rows' p' t' n why v) = absurd (accepted_or_bad lemma more q n why u.accepts v)
    one_link _ _ (links steps rows p t others more q u r x) (links steps' rows' p' t' others' more' q' u' s y) =
        let taken = one_taken model term steps' steps rows' rows p' p t' t in
        let others_are = one_replay u' u in
        let last_is = (one_end u'.accepts u.accepts).last_is in
        one_linking steps others p q r s x (move s taken.0 others_are taken.2 last_is y)
      where
        move : (s : Reply) {a b c d : List Step} {e f g h : Provable} → a ≡ b → c ≡ d → e ≡ f → g ≡ h → LinksSteps a c e g s → LinksSteps b d f h s
        move s {a} {b} {c} {d} {e} {f} {g} {h} i j k l y =
            subst₂ (λ (w : Provable) (z : Provable). LinksSteps b d w z s) k l (subst₂ (λ (w : List Step) (z : List Step). LinksSteps w z e g s) i j y)
