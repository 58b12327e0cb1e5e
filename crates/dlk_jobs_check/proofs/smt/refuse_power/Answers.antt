use Rattle.std.proofs.Common.{◌≡◌, ap, ◌∙◌}
use Rattle.std.proofs.lemmas.Result.{IfOk-weaker}
use Rattle.dlk_replies.specs.Replies.{refusal}
use Rattle.dlk_jobs_check.specs.Checks.{power_refused}
use Rattle.dlk_replies.specs.Shown.{reply_of}
use Rattle.dlk_jobs_check.proofs.smt.refuse_power.Goals as goal

pub returns : goal.returns
returns c =
    IfOk-weaker c.refused.result (λ r. reply_of r ≡ refusal c.as_str.result.now) (λ r. reply_of r ≡ power_refused c.args.leaf)
    (λ r is. is ∙ ap refusal (c.as_str.ensures.value ∙ c.in_ok-why.ensures.ok)) c.refused.ensures
