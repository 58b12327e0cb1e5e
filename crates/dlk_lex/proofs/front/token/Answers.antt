use Rattle.std.proofs.Common.{◌∙◌, sym, get_or}
use Rattle.std.proofs.lemmas.Bool.{ne_eqb}
use Rattle.dlk_lex.proofs.Fronts.{run_is_word, word_front, hole_front, mark_front}
use Rattle.dlk_lex.proofs.front.token.Goals as goal

pub word-requires : goal.word-requires
word-requires c = rw c.word_run-n.ensures.count (run_is_word c.args.bytes.now (sym c.is_letter.ensures ∙ c.if-is_letter.true))

pub returns-then-is_letter-clause-token : goal.returns-then-is_letter-clause-token
returns-then-is_letter-clause-token c =
    let spells = rw c.word_run-n.ensures.count at c.in_ok-word.ensures in
    rw c.word_run-n.ensures.count (word_front c.args.bytes.now c.in_ok-word.field-0 (sym c.is_letter.ensures ∙ c.if-is_letter.true) spells)

pub returns-then-first-eq95-clause-token : goal.returns-then-first-eq95-clause-token
returns-then-first-eq95-clause-token c = hole_front c.args.bytes.now c.if-first-eq95.true

pub returns-clause-token : goal.returns-clause-token
returns-clause-token c =
    let no_letter = sym c.is_letter.ensures ∙ c.if-is_letter.false in
    let no_digit = sym c.is_digit.ensures ∙ c.if-is_digit.false in
    let no_point = ne_eqb (get_or c.args.bytes.now 0 0) 46 c.if-first-eq46.false in
    let no_under = ne_eqb (get_or c.args.bytes.now 0 0) 95 c.if-first-eq95.false in
    let found = c.in-Some.ensures.found in
    rw found.1 (mark_front c.args.bytes.now no_letter no_digit no_point no_under c.in-Some.mark found.0)
