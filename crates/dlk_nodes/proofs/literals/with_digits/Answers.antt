use Rattle.std.proofs.Common.{◌≡◌, ℕ, ◌+◌, ◌-◌, ◌*◌, refl, length, arith}
use Rattle.std.proofs.lemmas.List.Sums.{fold_more}
use Rattle.dlk_lex.proofs.Literals.{digit_more}
use Rattle.dlk_nodes.proofs.literals.with_digits.Goals as goal
use Rattle.dlk_grammar.proofs.Digits.{below_more, digit_at}

pub overflow_mul-value : goal.overflow_mul-value
overflow_mul-value c =
    let more = digit_more ((38 - length c.args.digits.now) + c.loop-digit.digit-index) c.loop-digit.value c.loop-digit.invariant.1 (omega arith) in
    omega arith

pub overflow_add-value : goal.overflow_add-value
overflow_add-value c =
    let more = digit_more ((38 - length c.args.digits.now) + c.loop-digit.digit-index) c.loop-digit.value c.loop-digit.invariant.1 (omega arith) in
    let digit = digit_at c.args.digits.now c.loop-digit.digit-index c.requires.digits (omega arith) in
    omega (arith, digit.1)

pub loop-digit-preserved : goal.loop-digit-preserved
loop-digit-preserved c =
    let ds = c.args.digits.now in
    let i = c.loop-digit.digit-index in
    let digit = digit_at c.args.digits.now c.loop-digit.digit-index c.requires.digits (omega arith) in
    let more = fold_more (λ (n b : ℕ). 10 * n + (b - 48)) c.args.number c.args.digits.now c.loop-digit.digit-index 0 (omega arith) in
    let low = below_more ((38 - length c.args.digits.now) + c.loop-digit.digit-index) c.loop-digit.value c.from.result c.loop-digit.invariant.1
    (omega (arith, digit.1)) in
    let place : ((38 - length c.args.digits.now) + c.loop-digit.digit-index) + 1 ≡ (38 - length c.args.digits.now) + (c.loop-digit.digit-index + 1) =
    omega arith in
    (rw (more, ← c.loop-digit.invariant.0, c.from.ensures) refl, rw (← place) low)
