use Rattle.std.proofs.Common.{◌≡◌, ◌∙◌, sym, subst, map, string_bytes}
use Rattle.std.proofs.lemmas.Result.{IfOk-weaker}
use Rattle.dlk_replies.specs.Replies.{Reply}
use Rattle.dlk_answers.specs.Answers.{Does, Responds, refuses, does, too_long}
use Rattle.dlk_replies.specs.Shown.{texts_of, reply_of}
use Rattle.dlk_replies.proofs.Fits.{same_sought}
use Rattle.dlk_answers.proofs.answer.respond.Goals as goal

pub returns-in-Some-clause-reply : goal.returns-in-Some-clause-reply
returns-in-Some-clause-reply g c =
    let command = c.args.command in
    let words = map string_bytes c.args.words.now in
    let texts = texts_of c.args.inputs.now in
    let sought = same_sought command words (map string_bytes c.inputs.result.now) c.form.result texts c.inputs.ensures.names c.form.ensures in
    IfOk-weaker c.refused_too_long.result (λ r. reply_of r ≡ too_long c.in-Some.name.now) (λ r. Responds command words texts (reply_of r))
    (λ r is. subst (λ (reply : Reply). Responds command words texts reply) (sym is) (refuses c.in-Some.name.now (sym sought ∙ sym c.in-Some.ensures)))
    c.refused_too_long.ensures

pub returns-in-None-clause-reply : goal.returns-in-None-clause-reply
returns-in-None-clause-reply g c =
    let command = c.args.command in
    let words = map string_bytes c.args.words.now in
    let texts = texts_of c.args.inputs.now in
    let sought = same_sought command words (map string_bytes c.inputs.result.now) c.form.result texts c.inputs.ensures.names c.form.ensures in
    IfOk-weaker c.job.result (λ r. Does command (map string_bytes c.others.result.now) texts (reply_of r)) (λ r. Responds command words texts (reply_of r))
    (λ r job. does (sym sought ∙ sym c.in-None.ensures) (reply_of r) (subst (λ others. Does command others texts (reply_of r)) c.others.ensures.words job))
    c.job.ensures.reply
