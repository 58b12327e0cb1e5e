use Rattle.std.proofs.Common.{◌≡◌, ap, ◌∙◌, codes, decimal, ◌++◌}
use Rattle.std.proofs.lemmas.Result.{IfOk-weaker}
use Rattle.dlk_replies.specs.Replies.{refusal}
use Rattle.dlk_replies.specs.Refusals.{refused_at}
use Rattle.dlk_replies.specs.Shown.{reply_of}
use Rattle.dlk_replies.proofs.refusal.refuse_at.Goals as goal

pub returns : goal.returns
returns c =
    let behind = codes " at " ++ (decimal c.args.at ++ (codes ": " ++ c.args.why.now)) in
    IfOk-weaker c.refused.result (λ r. reply_of r ≡ refusal c.as_str.result.now) (λ r. reply_of r ≡ refused_at c.args.role c.args.at c.args.why.now)
    (λ r is. is ∙ ap refusal (c.as_str.ensures.value ∙ c.in_ok-why.ensures.ok ∙ ap (λ x. x ++ behind) c.word-word.ensures)) c.refused.ensures
