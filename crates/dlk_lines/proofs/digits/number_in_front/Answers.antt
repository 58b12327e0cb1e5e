use Rattle.std.proofs.Common.{◌≡◌, false, sym, ◌∙◌, arith, get_or, subst, ℕ}
use Rattle.dlk_grammar.specs.Tokens.{is_digit}
use Rattle.dlk_lines.proofs.Numbers.{below_power, digit_between, none_of_ten, none_of_other, none_of_zero, number_read, past_end}
use Rattle.dlk_lines.proofs.digits.number_in_front.Goals as goal
use Rattle.dlk_lines.proofs.digits.number_in_front.Goals.{then-loop-place-test+else-is_ascii_digit, else-loop-place-test}
use Rattle.dlk_lines.proofs.digits.number_in_front.Goals.{then-place-eq0-via-then-place-eq0, then-place-eq0-via-else-place-eq0+then-text-eq48}

pub returns-then-place-eq9-clause-none : goal.returns-then-place-eq9-clause-none
returns-then-place-eq9-clause-none c =
    none_of_ten c.args.text.now c.loop-place.place c.loop-place.number c.loop-place.invariant c.if-place-eq9.true
    (sym c.is_ascii_digit.ensures.value ∙ c.if-is_ascii_digit.true)

pub overflow_mul-number : goal.overflow_mul-number
overflow_mul-number c = omega (arith, below_power c.loop-place.place (omega arith), c.loop-place.invariant.below)

pub overflow_add-number : goal.overflow_add-number
overflow_add-number c =
    let digit = digit_between (get_or c.args.text.now c.loop-place.place 0) (sym c.is_ascii_digit.ensures.value ∙ c.if-is_ascii_digit.true) in
    omega (arith, below_power c.loop-place.place (omega arith), c.loop-place.invariant.below, c.from.ensures)

pub returns-then-place-eq0-clause-none : goal.returns-then-place-eq0-clause-none
returns-then-place-eq0-clause-none c =
    let text = c.args.text.now in
    let ends : is_digit (get_or text c.loop-place.place 0) ≡ false = elim c.loop-place-test.branch [
      | then-loop-place-test+else-is_ascii_digit w ↦ sym w.is_ascii_digit.ensures.value ∙ w.if-is_ascii_digit.false
      | else-loop-place-test w ↦ past_end text c.loop-place.place w.loop-place-test.false
    ] in
    elim c.then-place-eq0.branch [
      | then-place-eq0-via-then-place-eq0 w ↦ none_of_other text (subst (λ (p : ℕ). is_digit (get_or text p 0) ≡ false) w.if-place-eq0.true ends)
      | then-place-eq0-via-else-place-eq0+then-text-eq48 w ↦ none_of_zero text w.if-text-eq48.true
    ]

pub returns-clause-found : goal.returns-clause-found
returns-clause-found c =
    let text = c.args.text.now in
    let ends : is_digit (get_or text c.loop-place.place 0) ≡ false = elim c.loop-place-test.branch [
      | then-loop-place-test+else-is_ascii_digit w ↦ sym w.is_ascii_digit.ensures.value ∙ w.if-is_ascii_digit.false
      | else-loop-place-test w ↦ past_end text c.loop-place.place w.loop-place-test.false
    ] in
    number_read text c.loop-place.place c.loop-place.number c.loop-place.invariant ends (omega arith) c.if-text-eq48.false
