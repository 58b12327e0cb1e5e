use Rattle.std.proofs.Common.{◌++◌, List, ℕ, map, string_bytes, option_copied, refl, sym, ap, subst, ◌∙◌, inl, inr, arith}
use Rattle.dlk_replies.specs.Shown.{reply_of}
use Rattle.dlk.specs.Headline.{JudgesTruly}
use Rattle.dlk.proofs.Truly.{whole_truly, front_truly, silent_truly, whole_derives, front_derives, silent_derives}
use Rattle.dlk.proofs.Judged.{answer_judges}
use Rattle.dlk.proofs.Ran.{gives_whole, breaks_off, keeps_given, asks_given}
use Rattle.dlk.specs.Looks.{LooksAtFew}
use Rattle.dlk.proofs.Looked.{none_written, given_looked, ungiven_looked}
use Rattle.dlk.proofs.Written.{whole_proves}
use Rattle.dlk.proofs.WrittenTerms.{whole_converts, whole_links, whole_trims}
use Rattle.dlk.proofs.Played.{whole_session}
use Rattle.dlk.proofs.Writing.{checked_by}
use Rattle.dlk.proofs.Guarding.{whole_guards}
use Rattle.dlk.proofs.run.run.Goals as goal

pub returns-in-Ok-give-clause-derived_truly : goal.returns-in-Ok-give-clause-derived_truly
returns-in-Ok-give-clause-derived_truly g c = λ t.
    let words = map string_bytes c.args.words.now in
    let old = g.D.Desk.outside c.args.desk.now in
    let mid = g.D.Desk.outside c.work.new.desk in
    let new = g.D.Desk.outside c.give.new.desk in
    let reply = reply_of c.in-Ok.reply in
    let reads = c.in-Ok.ensures.only in
    whole_derives (checked_by c.proved_is_checked.ensures c.linked_is_checked.ensures.checked c.trimmed_is_checked.ensures.checked) words c.code.result old
    new reply
    (gives_whole words old mid new reply (option_copied c.output.result) c.output.ensures (c.in-Ok.ensures.ok t) (reads.files t) (reads.printed t)
    (c.in-Ok-give.ensures.file t) (c.in-Ok-give.ensures.printed t) c.code.result c.code.ensures)

pub returns-in-Ok-give-clause-closed_truly : goal.returns-in-Ok-give-clause-closed_truly
returns-in-Ok-give-clause-closed_truly g c = λ t.
    let words = map string_bytes c.args.words.now in
    let old = g.D.Desk.outside c.args.desk.now in
    let mid = g.D.Desk.outside c.work.new.desk in
    let new = g.D.Desk.outside c.give.new.desk in
    let reply = reply_of c.in-Ok.reply in
    let reads = c.in-Ok.ensures.only in
    whole_truly (checked_by c.proved_is_checked.ensures c.linked_is_checked.ensures.checked c.trimmed_is_checked.ensures.checked) words c.code.result old
    new reply
    (gives_whole words old mid new reply (option_copied c.output.result) c.output.ensures (c.in-Ok.ensures.ok t) (reads.files t) (reads.printed t)
    (c.in-Ok-give.ensures.file t) (c.in-Ok-give.ensures.printed t) c.code.result c.code.ensures)

pub returns-in-Ok-give-clause-proves_truly : goal.returns-in-Ok-give-clause-proves_truly
returns-in-Ok-give-clause-proves_truly g c = λ t.
    let words = map string_bytes c.args.words.now in
    let old = g.D.Desk.outside c.args.desk.now in
    let mid = g.D.Desk.outside c.work.new.desk in
    let new = g.D.Desk.outside c.give.new.desk in
    let reply = reply_of c.in-Ok.reply in
    let reads = c.in-Ok.ensures.only in
    whole_proves (checked_by c.proved_is_checked.ensures c.linked_is_checked.ensures.checked c.trimmed_is_checked.ensures.checked) words c.code.result old
    new reply
    (gives_whole words old mid new reply (option_copied c.output.result) c.output.ensures (c.in-Ok.ensures.ok t) (reads.files t) (reads.printed t)
    (c.in-Ok-give.ensures.file t) (c.in-Ok-give.ensures.printed t) c.code.result c.code.ensures)

pub returns-in-Ok-give-clause-guards_truly : goal.returns-in-Ok-give-clause-guards_truly
returns-in-Ok-give-clause-guards_truly g c = λ t.
    let words = map string_bytes c.args.words.now in
    let old = g.D.Desk.outside c.args.desk.now in
    let mid = g.D.Desk.outside c.work.new.desk in
    let new = g.D.Desk.outside c.give.new.desk in
    let reply = reply_of c.in-Ok.reply in
    let reads = c.in-Ok.ensures.only in
    whole_guards c.one_verdict.ensures words c.code.result old new reply
    (gives_whole words old mid new reply (option_copied c.output.result) c.output.ensures (c.in-Ok.ensures.ok t) (reads.files t) (reads.printed t)
    (c.in-Ok-give.ensures.file t) (c.in-Ok-give.ensures.printed t) c.code.result c.code.ensures)

pub returns-in-Ok-give-clause-converts_truly : goal.returns-in-Ok-give-clause-converts_truly
returns-in-Ok-give-clause-converts_truly g c = λ t.
    let words = map string_bytes c.args.words.now in
    let old = g.D.Desk.outside c.args.desk.now in
    let mid = g.D.Desk.outside c.work.new.desk in
    let new = g.D.Desk.outside c.give.new.desk in
    let reply = reply_of c.in-Ok.reply in
    let reads = c.in-Ok.ensures.only in
    whole_converts c.converted_is_accepted.ensures words c.code.result old new reply
    (gives_whole words old mid new reply (option_copied c.output.result) c.output.ensures (c.in-Ok.ensures.ok t) (reads.files t) (reads.printed t)
    (c.in-Ok-give.ensures.file t) (c.in-Ok-give.ensures.printed t) c.code.result c.code.ensures)

pub returns-in-Ok-give-clause-links_truly : goal.returns-in-Ok-give-clause-links_truly
returns-in-Ok-give-clause-links_truly g c = λ t.
    let words = map string_bytes c.args.words.now in
    let old = g.D.Desk.outside c.args.desk.now in
    let mid = g.D.Desk.outside c.work.new.desk in
    let new = g.D.Desk.outside c.give.new.desk in
    let reply = reply_of c.in-Ok.reply in
    let reads = c.in-Ok.ensures.only in
    whole_links (checked_by c.proved_is_checked.ensures c.linked_is_checked.ensures.checked c.trimmed_is_checked.ensures.checked)
    c.linked_is_checked.ensures.joined words c.code.result old new reply
    (gives_whole words old mid new reply (option_copied c.output.result) c.output.ensures (c.in-Ok.ensures.ok t) (reads.files t) (reads.printed t)
    (c.in-Ok-give.ensures.file t) (c.in-Ok-give.ensures.printed t) c.code.result c.code.ensures)

pub returns-in-Ok-give-clause-trims_truly : goal.returns-in-Ok-give-clause-trims_truly
returns-in-Ok-give-clause-trims_truly g c = λ t.
    let words = map string_bytes c.args.words.now in
    let old = g.D.Desk.outside c.args.desk.now in
    let mid = g.D.Desk.outside c.work.new.desk in
    let new = g.D.Desk.outside c.give.new.desk in
    let reply = reply_of c.in-Ok.reply in
    let reads = c.in-Ok.ensures.only in
    whole_trims (checked_by c.proved_is_checked.ensures c.linked_is_checked.ensures.checked c.trimmed_is_checked.ensures.checked)
    c.trimmed_is_checked.ensures.trimmed words c.code.result old new reply
    (gives_whole words old mid new reply (option_copied c.output.result) c.output.ensures (c.in-Ok.ensures.ok t) (reads.files t) (reads.printed t)
    (c.in-Ok-give.ensures.file t) (c.in-Ok-give.ensures.printed t) c.code.result c.code.ensures)

pub returns-in-Ok-give-clause-sessions_truly : goal.returns-in-Ok-give-clause-sessions_truly
returns-in-Ok-give-clause-sessions_truly g c = λ t.
    let words = map string_bytes c.args.words.now in
    let old = g.D.Desk.outside c.args.desk.now in
    let mid = g.D.Desk.outside c.work.new.desk in
    let new = g.D.Desk.outside c.give.new.desk in
    let reply = reply_of c.in-Ok.reply in
    let reads = c.in-Ok.ensures.only in
    whole_session c.session_is_checked.ensures words c.code.result old new reply
    (gives_whole words old mid new reply (option_copied c.output.result) c.output.ensures (c.in-Ok.ensures.ok t) (reads.files t) (reads.printed t)
    (c.in-Ok-give.ensures.file t) (c.in-Ok-give.ensures.printed t) c.code.result c.code.ensures)

pub returns-in-Ok-give-clause-judges_truly : goal.returns-in-Ok-give-clause-judges_truly
returns-in-Ok-give-clause-judges_truly g c = λ t.
    let words = map string_bytes c.args.words.now in
    let old = g.D.Desk.outside c.args.desk.now in
    let new = g.D.Desk.outside c.give.new.desk in
    let reply = reply_of c.in-Ok.reply in
    let printed = c.in-Ok-give.ensures.printed t ∙ ap (λ (l : List ℕ). l ++ reply.printed) (c.in-Ok.ensures.only.printed t) in
    subst (λ status. JudgesTruly words status old new) (sym c.code.ensures) (answer_judges words old new reply (c.in-Ok.ensures.ok t) printed)

pub returns-in-Ok-give-clause-asks : goal.returns-in-Ok-give-clause-asks
returns-in-Ok-give-clause-asks g c =
    asks_given g.D.Desk.tells (map string_bytes c.args.words.now) c.code.result (g.D.Desk.outside c.args.desk.now) (g.D.Desk.outside c.work.new.desk)
    (g.D.Desk.outside c.give.new.desk)
    c.in-Ok.ensures.asks c.in-Ok.ensures.all c.give.ensures.only

pub returns-clause-derived_truly : goal.returns-clause-derived_truly
returns-clause-derived_truly g c = λ t.
    let old = g.D.Desk.outside c.args.desk.now in
    let mid = g.D.Desk.outside c.work.new.desk in
    let new = g.D.Desk.outside c.give.new.desk in
    let reply = reply_of c.in-Ok.reply in
    let given = c.give.ensures in
    let reads = c.in-Ok.ensures.only in
    front_derives (checked_by c.proved_is_checked.ensures c.linked_is_checked.ensures.checked c.trimmed_is_checked.ensures.checked)
    (map string_bytes c.args.words.now) old new reply
    (breaks_off (map string_bytes c.args.words.now) old mid new reply (option_copied c.output.result) c.output.ensures
    (c.in-Ok.ensures.ok t) (reads.files t) (reads.printed t) g.D.Desk.tells reads
    (given.part t) (given.front t) (given.file_first t) (given.file_kept t))

pub returns-clause-closed_truly : goal.returns-clause-closed_truly
returns-clause-closed_truly g c = λ t.
    let old = g.D.Desk.outside c.args.desk.now in
    let mid = g.D.Desk.outside c.work.new.desk in
    let new = g.D.Desk.outside c.give.new.desk in
    let reply = reply_of c.in-Ok.reply in
    let given = c.give.ensures in
    let reads = c.in-Ok.ensures.only in
    front_truly (checked_by c.proved_is_checked.ensures c.linked_is_checked.ensures.checked c.trimmed_is_checked.ensures.checked)
    (map string_bytes c.args.words.now) old new reply
    (breaks_off (map string_bytes c.args.words.now) old mid new reply (option_copied c.output.result) c.output.ensures
    (c.in-Ok.ensures.ok t) (reads.files t) (reads.printed t) g.D.Desk.tells reads
    (given.part t) (given.front t) (given.file_first t) (given.file_kept t))

pub returns-clause-asks : goal.returns-clause-asks
returns-clause-asks g c =
    asks_given g.D.Desk.tells (map string_bytes c.args.words.now) 5 (g.D.Desk.outside c.args.desk.now) (g.D.Desk.outside c.work.new.desk)
    (g.D.Desk.outside c.give.new.desk)
    c.in-Ok.ensures.asks c.in-Ok.ensures.all c.give.ensures.only

pub returns-clause-keeps : goal.returns-clause-keeps
returns-clause-keeps g c =
    keeps_given g.D.Desk.tells (map string_bytes c.args.words.now) 5 (g.D.Desk.outside c.args.desk.now) (g.D.Desk.outside c.work.new.desk)
    (g.D.Desk.outside c.give.new.desk)
    (reply_of c.in-Ok.reply) (option_copied c.output.result) c.output.ensures c.in-Ok.ensures.only c.give.ensures.none
    (λ e. absurd (omega (arith, e))) (λ e. absurd (omega (arith, e))) (λ e. absurd (omega (arith, e)))

pub returns-clause-answered : goal.returns-clause-answered
returns-clause-answered g c = λ t has.
    let old = g.D.Desk.outside c.args.desk.now in
    let mid = g.D.Desk.outside c.work.new.desk in
    let new = g.D.Desk.outside c.give.new.desk in
    let reply = reply_of c.in-Ok.reply in
    let given = c.give.ensures in
    let reads = c.in-Ok.ensures.only in
    inr (inr (inl (
      refl,
      (
        reply,
        breaks_off (map string_bytes c.args.words.now) old mid new reply (option_copied c.output.result) c.output.ensures
            (c.in-Ok.ensures.ok t) (reads.files t) (reads.printed t) g.D.Desk.tells reads
            (given.part t) (given.front t) (given.file_first t) (given.file_kept t),
      ),
    )))

pub returns-in-Ok-give-clause-looks : goal.returns-in-Ok-give-clause-looks
returns-in-Ok-give-clause-looks g c = λ t.
    let words = map string_bytes c.args.words.now in
    let old = g.D.Desk.outside c.args.desk.now in
    let new = g.D.Desk.outside c.give.new.desk in
    let reply = reply_of c.in-Ok.reply in
    let printed = c.in-Ok-give.ensures.printed t ∙ ap (λ (l : List ℕ). l ++ reply.printed) (c.in-Ok.ensures.only.printed t) in
    subst (λ status. LooksAtFew words status old new c.args.steps.now c.work.new.steps) (sym c.code.ensures)
    (given_looked words old new _ _ (c.work.ensures.looks t) reply (c.in-Ok.ensures.ok t)
    (λ two. none_written c.in-Ok.reply.written (c.in-Ok.ensures.refusal two)) printed)

pub returns-clause-looks : goal.returns-clause-looks
returns-clause-looks g c = λ t.
    ungiven_looked (map string_bytes c.args.words.now) (g.D.Desk.outside c.args.desk.now) (g.D.Desk.outside c.give.new.desk) _ _ (c.work.ensures.looks t) 5
    (λ e. absurd (omega (arith, e)))

pub returns-in-Err-Memory-clause-looks : goal.returns-in-Err-Memory-clause-looks
returns-in-Err-Memory-clause-looks g c = λ t.
    ungiven_looked (map string_bytes c.args.words.now) (g.D.Desk.outside c.args.desk.now) (g.D.Desk.outside c.work.new.desk) _ _ (c.work.ensures.looks t) 6
    (λ e. absurd (omega (arith, e)))

pub returns-in-Err-Fault-clause-looks : goal.returns-in-Err-Fault-clause-looks
returns-in-Err-Fault-clause-looks g c = λ t.
    ungiven_looked (map string_bytes c.args.words.now) (g.D.Desk.outside c.args.desk.now) (g.D.Desk.outside c.work.new.desk) _ _ (c.work.ensures.looks t) 4
    (λ e. absurd (omega (arith, e)))

pub returns-in-Err-Memory-clause-derived_truly : goal.returns-in-Err-Memory-clause-derived_truly
returns-in-Err-Memory-clause-derived_truly g c = λ t.
    silent_derives (map string_bytes c.args.words.now) 6 (g.D.Desk.outside c.args.desk.now) (g.D.Desk.outside c.work.new.desk) (c.work.ensures.only.printed t)

pub returns-in-Err-Memory-clause-closed_truly : goal.returns-in-Err-Memory-clause-closed_truly
returns-in-Err-Memory-clause-closed_truly g c = λ t.
    silent_truly (map string_bytes c.args.words.now) 6 (g.D.Desk.outside c.args.desk.now) (g.D.Desk.outside c.work.new.desk) (c.work.ensures.only.printed t)

pub returns-in-Err-Fault-clause-derived_truly : goal.returns-in-Err-Fault-clause-derived_truly
returns-in-Err-Fault-clause-derived_truly g c = λ t.
    silent_derives (map string_bytes c.args.words.now) 4 (g.D.Desk.outside c.args.desk.now) (g.D.Desk.outside c.work.new.desk) (c.work.ensures.only.printed t)

pub returns-in-Err-Fault-clause-closed_truly : goal.returns-in-Err-Fault-clause-closed_truly
returns-in-Err-Fault-clause-closed_truly g c = λ t.
    silent_truly (map string_bytes c.args.words.now) 4 (g.D.Desk.outside c.args.desk.now) (g.D.Desk.outside c.work.new.desk) (c.work.ensures.only.printed t)
