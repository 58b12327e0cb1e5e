use Rattle.std.proofs.Common.{◌≡◌, ◌-◌, suc, ap, arith}
use Rattle.dlk_grammar.specs.Shown.{last_digits}
use Rattle.dlk_print.proofs.Left.{first_failed, then_last, same_text}
use Rattle.dlk_print.proofs.number.+append_last_digits.Goals as goal

pub returns-in_err-append_last_digits : goal.returns-in_err-append_last_digits
returns-in_err-append_last_digits t c =
    let more : suc (c.args.width - 1) ≡ c.args.width = omega arith in
    same_text (ap (λ w. last_digits w c.args.n) more)
    (first_failed _ _ c.from_residual.result c.from_residual.ensures.0 c.in_err-append_last_digits.ensures.begun)

pub returns : goal.returns
returns t c =
    let more : suc (c.args.width - 1) ≡ c.args.width = omega arith in
    same_text (ap (λ w. last_digits w c.args.n) more) (then_last _ c.in_ok-append_last_digits.ensures.ok c.append_digit.ensures)
