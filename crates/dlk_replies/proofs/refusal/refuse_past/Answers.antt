use Rattle.std.proofs.Common.{◌≡◌, ap, ◌∙◌, codes, decimal, ◌++◌}
use Rattle.std.proofs.lemmas.Result.{IfOk-weaker}
use Rattle.dlk_replies.specs.Replies.{refusal}
use Rattle.dlk_replies.specs.Refusals.{refused_past}
use Rattle.dlk_replies.specs.Shown.{reply_of}
use Rattle.dlk_replies.proofs.refusal.refuse_past.Goals as goal

pub returns : goal.returns
returns c =
    let behind = codes ": " ++ (c.args.measure.now ++ (codes " " ++ decimal c.args.number)) in
    IfOk-weaker c.refused.result (λ r. reply_of r ≡ refusal c.as_str.result.now) (λ r. reply_of r ≡ refused_past c.args.role c.args.measure.now c.args.number)
    (λ r is. is ∙ ap refusal (c.as_str.ensures.value ∙ c.in_ok-why.ensures.ok ∙ ap (λ x. x ++ behind) c.word-word.ensures)) c.refused.ensures
