use Rattle.std.proofs.Common.{◌≡◌, ap, ◌∙◌, codes, decimal, ◌++◌}
use Rattle.std.proofs.lemmas.Result.{IfOk-weaker}
use Rattle.dlk_replies.specs.Replies.{refusal}
use Rattle.dlk_jobs_check.specs.Terms.{refused_line}
use Rattle.dlk_replies.specs.Shown.{reply_of}
use Rattle.dlk_jobs_check.proofs.term.refuse_line.Goals as goal

pub returns : goal.returns
returns c =
    IfOk-weaker c.refused.result (λ r. reply_of r ≡ refusal c.as_str.result.now) (λ r. reply_of r ≡ refused_line c.args.words.now c.args.line c.args.why)
    (λ r is. is ∙ ap refusal (c.as_str.ensures.value ∙ c.in_ok-why.ensures.ok
    ∙ ap (λ x. c.args.words.now ++ (codes " " ++ (decimal c.args.line ++ (codes ": " ++ x)))) c.word-word.ensures)) c.refused.ensures
