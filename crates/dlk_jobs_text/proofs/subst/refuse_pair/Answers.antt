use Rattle.std.proofs.Common.{◌≡◌, ap, ◌∙◌, codes, decimal, ◌++◌}
use Rattle.std.proofs.lemmas.Result.{IfOk-weaker}
use Rattle.dlk_replies.specs.Replies.{refusal}
use Rattle.dlk_jobs_text.specs.Substitutes.{pair_refused}
use Rattle.dlk_replies.specs.Shown.{reply_of}
use Rattle.dlk_jobs_text.proofs.subst.refuse_pair.Goals as goal

pub returns : goal.returns
returns c =
    IfOk-weaker c.refused.result (λ r. reply_of r ≡ refusal c.as_str.result.now) (λ r. reply_of r ≡ pair_refused c.args.pair c.args.why)
    (λ r is. is ∙ ap refusal (c.as_str.ensures.value ∙ c.in_ok-why.ensures.ok
    ∙ ap (λ x. codes "subst pair " ++ (decimal c.args.pair ++ (codes ": " ++ x))) c.word-word.ensures)) c.refused.ensures
