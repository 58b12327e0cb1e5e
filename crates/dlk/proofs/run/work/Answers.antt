use Rattle.std.proofs.Common.{◌≡◌, sym, ap, ◌∙◌, subst, length, map, string_bytes, refl, rules, Global}
use Rattle.std.proofs.lemmas.List.{length-map}
use Rattle.dlk_replies.specs.Forms.{form_of, limit_of, inputs_of, limits_of}
use Rattle.dlk_replies.specs.Replies.{Reply, code_of}
use Rattle.dlk.specs.Answers.{Answers, no_form}
use Rattle.dlk_replies.specs.Shown.{texts_of, reply_of}
use Rattle.dlk_answers.proofs.CarriedOut.{carried_out}
use Rattle.dlk.proofs.Answered.{answered, have_inputs, words_known, none_written, asks_words}
use Rattle.dlk.proofs.Looked.{none_looked, command_looked}
use Rattle.dlk.proofs.run.work.Goals as goal

pub returns-in_default-clause-ok : goal.returns-in_default-clause-ok
returns-in_default-clause-ok g c = λ told.
    subst (λ (reply : Reply). Answers (map string_bytes c.args.call.words.now) (g.D.Desk.outside c.args.desk.now).files reply)
    (sym c.in_ok-words_refused.ensures) (no_form (search rules))

pub returns-clause-ok : goal.returns-clause-ok
returns-clause-ok g c =
    let command = c.in-Some.command in
    let many : length (inputs_of command (map string_bytes c.args.call.words.now)) ≡ length (limits_of command) =
    ap length (sym c.inputs.ensures.names) ∙ length-map c.inputs.result.now (string_bytes {Z = Global}) ∙ c.inputs.ensures.count ∙
    sym (length-map (form_of command).inputs limit_of) in
    λ told.
    answered (map string_bytes c.args.call.words.now) c.in-Some.command (g.D.Desk.outside c.args.desk.now).files (texts_of c.in_ok-inputs.inputs.items)
    (reply_of c.in_ok-respond.field-0)
    (search rules) (search rules) (search rules) (search rules)

pub returns-clause-missing : goal.returns-clause-missing
returns-clause-missing g c =
    let command = c.in-Some.command in
    let many : length (inputs_of command (map string_bytes c.args.call.words.now)) ≡ length (limits_of command) =
    ap length (sym c.inputs.ensures.names) ∙ length-map c.inputs.result.now (string_bytes {Z = Global}) ∙ c.inputs.ensures.count ∙
    sym (length-map (form_of command).inputs limit_of) in
    λ told.
    have_inputs (map string_bytes c.args.call.words.now) c.in-Some.command (g.D.Desk.outside c.args.desk.now).files (texts_of c.in_ok-inputs.inputs.items)
    (search rules) (search rules) (search rules)

pub returns-clause-words : goal.returns-clause-words
returns-clause-words g c =
    let words = map string_bytes c.args.call.words.now in
    let reply = c.in_ok-respond.field-0 in
    let carried = carried_out c.in-Some.command words (texts_of c.deref.result.now) (reply_of reply) c.in_ok-respond.ensures.reply in
    words_known words c.in-Some.command (code_of reply.status) (search rules) carried.status

pub returns-clause-refusal : goal.returns-clause-refusal
returns-clause-refusal g c = λ two.
    let words = map string_bytes c.args.call.words.now in
    let reply = c.in_ok-respond.field-0 in
    let carried = carried_out c.in-Some.command words (texts_of c.deref.result.now) (reply_of reply) c.in_ok-respond.ensures.reply in
    none_written reply.written (carried.refusal two)

pub returns-clause-asks : goal.returns-clause-asks
returns-clause-asks g c =
    asks_words g.D.Desk.tells (map string_bytes c.args.call.words.now) (map string_bytes c.inputs.result.now) c.in-Some.command c.form.result
    (g.D.Desk.outside c.args.desk.now) (g.D.Desk.outside c.read_inputs.new.desk)
    (search rules) c.inputs.ensures.names c.form.ensures c.in_ok-inputs.ensures.asks

pub returns-in_default-clause-looks : goal.returns-in_default-clause-looks
returns-in_default-clause-looks g c = λ told. none_looked (map string_bytes c.args.call.words.now) (g.D.Desk.outside c.args.desk.now).files _ _ refl

pub returns-clause-looks : goal.returns-clause-looks
returns-clause-looks g c =
    let command = c.in-Some.command in
    let many : length (inputs_of command (map string_bytes c.args.call.words.now)) ≡ length (limits_of command) =
    ap length (sym c.inputs.ensures.names) ∙ length-map c.inputs.result.now (string_bytes {Z = Global}) ∙ c.inputs.ensures.count ∙
    sym (length-map (form_of command).inputs limit_of) in
    λ told.
    command_looked (map string_bytes c.args.call.words.now) c.in-Some.command (g.D.Desk.outside c.args.desk.now).files
    (texts_of c.in_ok-inputs.inputs.items) _ _
    (search rules) (search rules) (search rules) (rw c.deref.ensures.value at c.respond.ensures.looks)

pub returns-in_err-respond-clause-looks : goal.returns-in_err-respond-clause-looks
returns-in_err-respond-clause-looks g c =
    let command = c.in-Some.command in
    let many : length (inputs_of command (map string_bytes c.args.call.words.now)) ≡ length (limits_of command) =
    ap length (sym c.inputs.ensures.names) ∙ length-map c.inputs.result.now (string_bytes {Z = Global}) ∙ c.inputs.ensures.count ∙
    sym (length-map (form_of command).inputs limit_of) in
    λ told.
    command_looked (map string_bytes c.args.call.words.now) c.in-Some.command (g.D.Desk.outside c.args.desk.now).files
    (texts_of c.in_ok-inputs.inputs.items) _ _
    (search rules) (search rules) (search rules) (rw c.deref.ensures.value at c.respond.ensures.looks)
