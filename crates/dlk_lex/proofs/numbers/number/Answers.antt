use Rattle.std.proofs.Common.{◌≡◌, ◌+◌, ◌-◌, refl, sym, ap, ◌∙◌, arith}
use Rattle.dlk_grammar.specs.Tokens.{is_digit}
use Rattle.dlk_lex.proofs.Fronts.{prefix_all}
use Rattle.dlk_lex.proofs.Literals.{whole_front, pointed_front, fraction_digits}
use Rattle.dlk_lex.proofs.Steps.{rest_from}
use Rattle.dlk_lex.specs.Fronts.{fraction_len}
use Rattle.dlk_lex.proofs.numbers.number.Goals as goal

pub literal-requires-clause-integer : goal.literal-requires-clause-integer
literal-requires-clause-integer c = rw c.digit_run-integer.ensures.count (prefix_all is_digit c.args.bytes.now)

pub returns-then-fraction-eq0 : goal.returns-then-fraction-eq0
returns-then-fraction-eq0 c =
    let count = c.fraction_run-fraction.ensures.count ∙ ap fraction_len (rest_from c.args.bytes.now c.digit_run-integer.result) in
    let none = sym count ∙ c.if-fraction-eq0.true in
    rw c.literal.ensures (whole_front c.args.bytes.now c.requires c.digit_run-integer.result c.digit_run-integer.ensures.count none)

pub literal-requires-2-clause-integer : goal.literal-requires-2-clause-integer
literal-requires-2-clause-integer c = rw c.digit_run-integer.ensures.count (prefix_all is_digit c.args.bytes.now)

pub literal-requires-2-clause-fraction : goal.literal-requires-2-clause-fraction
literal-requires-2-clause-fraction c =
    let n = c.digit_run-integer.result in
    let f = c.fraction_run-fraction.result in
    let count = c.fraction_run-fraction.ensures.count ∙ ap fraction_len (rest_from c.args.bytes.now c.digit_run-integer.result) in
    let size : (c.digit_run-integer.result + 1 + c.fraction_run-fraction.result) - (c.digit_run-integer.result + 1) ≡ c.fraction_run-fraction.result =
    omega arith in
    rw size (fraction_digits c.args.bytes.now c.digit_run-integer.result c.fraction_run-fraction.result count c.if-fraction-eq0.false)

pub returns : goal.returns
returns c =
    let count = c.fraction_run-fraction.ensures.count ∙ ap fraction_len (rest_from c.args.bytes.now c.digit_run-integer.result) in
    let size : (c.digit_run-integer.result + 1 + c.fraction_run-fraction.result) - (c.digit_run-integer.result + 1) ≡ c.fraction_run-fraction.result =
    omega arith in
    let found = pointed_front c.args.bytes.now c.requires c.digit_run-integer.result c.fraction_run-fraction.result _
    c.digit_run-integer.ensures.count count c.if-fraction-eq0.false refl in
    rw (c.literal-2.ensures, size) found.1
