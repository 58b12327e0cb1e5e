use Rattle.std.proofs.Common.{◌≡◌}
use Rattle.std.proofs.lemmas.Result.{IfOk-weaker}
use Rattle.dlk_sequent.specs.Substitutions.{pairs_at}
use Rattle.dlk_replies.specs.Shown.{reply_of}
use Rattle.dlk_replies.proofs.Ends.{ends_so}
use Rattle.dlk_jobs_text.specs.Substitutes.{pair_refused}
use Rattle.dlk_jobs_text.specs.Refused.{RefusesPair}
use Rattle.dlk_jobs_text.proofs.subst.substitution_of.Goals as goal

pub returns-in-Err-Ill-clause-refused : goal.returns-in-Err-Ill-clause-refused
returns-in-Err-Ill-clause-refused g c =
    let pairs = pairs_at (g.S.Store.trees c.args.store.now) c.args.pairs.items in
    let bad = c.in-Err-Ill in
    let ill = rw bad.field-0-is at bad.ensures.ill in
    let said = rw bad.why-is at (rw bad.pair-is at c.refuse_pair.ensures) in
    ends_so (RefusesPair pairs) c.refuse_pair.result c.end_by.result c.end_by.ensures
    (IfOk-weaker c.refuse_pair.result (λ r. reply_of r ≡ pair_refused bad.pair bad.why) (λ r. RefusesPair pairs (reply_of r))
    (λ r is. (bad.pair, bad.why, ill, is)) said)
