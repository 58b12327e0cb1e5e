-- What the commands answer is carried out, and it writes a term unless it is a refusal.
use Rattle.std.proofs.Common.{ℕ, List, refl, inl, arith}
use Rattle.dlk_calculus.specs.Provables.{Provable}
use Rattle.dlk_calculus.specs.Steps.{Step}
use Rattle.dlk_replies.specs.Replies.{Reply}
use Rattle.dlk_replies.proofs.CarriedOut.{IsCarriedOut, printed_only}
use Rattle.dlk_jobs_check.specs.Terms.{RefusesTerm}
use Rattle.dlk_jobs_check.proofs.CarriedOut.{refusal_carried_out}
use Rattle.dlk_jobs_check.proofs.GuardReports.{term_is_refused}
use Rattle.dlk_jobs_record.specs.Records.{WritesUnlessRefused}
use Rattle.dlk_jobs_record.proofs.CarriedOut.{record_carried_out}
use Rattle.dlk_jobs_record.proofs.OneRecord.{whole_record}
use Rattle.dlk_jobs_terms.specs.Converts.{Converts, bad_line, records as writes_anew}
use Rattle.dlk_jobs_terms.specs.Links.{LinksSteps, no_goal, past_limit, records, Links, refuses, bad_lemma, links}
use Rattle.dlk_jobs_terms.specs.Trims.{Trims, refuses as refuses_term, trims}
use Rattle.dlk_jobs_terms.proofs.Accepted.{term_unwritten}

pub convert_carried_out : (term : List ℕ) (reply : Reply) → Converts term reply → IsCarriedOut reply
convert_carried_out term _ (bad_line n why v) = printed_only _ _ (omega arith)
convert_carried_out term _ (writes_anew steps rows p a reply x) = record_carried_out steps p reply x

linking_carried_out : (steps others : List Step) (p q : Provable) (reply : Reply) → LinksSteps steps others p q reply → IsCarriedOut reply
linking_carried_out steps others p q _ (no_goal none) = printed_only _ _ (omega arith)
linking_carried_out steps others p q _ (past_limit some l is why f) = printed_only _ _ (omega arith)
linking_carried_out steps others p q _ (records some l is reply (last, ends, x)) = record_carried_out l last reply x

pub link_carried_out : (model term lemma : List ℕ) (reply : Reply) → Links model term lemma reply → IsCarriedOut reply
link_carried_out model term lemma _ (refuses reply refused) = refusal_carried_out model term reply refused
link_carried_out model term lemma _ (bad_lemma steps rows p t n why v) = printed_only _ _ (omega arith)
link_carried_out model term lemma _ (links steps rows p t others more q u reply x) = linking_carried_out steps others p q reply x

pub trim_carried_out : (model term : List ℕ) (reply : Reply) → Trims model term reply → IsCarriedOut reply
trim_carried_out model term _ (refuses_term reply refused) = refusal_carried_out model term reply refused
trim_carried_out model term _ (trims steps rows p t kept is reply (last, ends, x)) = record_carried_out kept last reply x

-- a refusal of a term is one, and writes nothing
refusal_whole : (model term : List ℕ) (reply : Reply) → RefusesTerm model term reply → WritesUnlessRefused reply
refusal_whole model term reply refused = inl (term_is_refused model term reply refused, term_unwritten model term reply refused)

pub convert_whole : (term : List ℕ) (reply : Reply) → Converts term reply → WritesUnlessRefused reply
convert_whole term _ (bad_line n why v) = inl (refl, refl)
convert_whole term _ (writes_anew steps rows p a reply x) = whole_record steps p reply x

linking_whole : (steps others : List Step) (p q : Provable) (reply : Reply) → LinksSteps steps others p q reply → WritesUnlessRefused reply
linking_whole steps others p q _ (no_goal none) = inl (refl, refl)
linking_whole steps others p q _ (past_limit some l is why f) = inl (refl, refl)
linking_whole steps others p q _ (records some l is reply (last, ends, x)) = whole_record l last reply x

pub link_whole : (model term lemma : List ℕ) (reply : Reply) → Links model term lemma reply → WritesUnlessRefused reply
link_whole model term lemma _ (refuses reply refused) = refusal_whole model term reply refused
link_whole model term lemma _ (bad_lemma steps rows p t n why v) = inl (refl, refl)
link_whole model term lemma _ (links steps rows p t others more q u reply x) = linking_whole steps others p q reply x

pub trim_whole : (model term : List ℕ) (reply : Reply) → Trims model term reply → WritesUnlessRefused reply
trim_whole model term _ (refuses_term reply refused) = refusal_whole model term reply refused
trim_whole model term _ (trims steps rows p t kept is reply (last, ends, x)) = whole_record kept last reply x
