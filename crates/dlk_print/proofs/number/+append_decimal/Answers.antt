use Rattle.std.proofs.Common.{sym, arith}
use Rattle.dlk_print.proofs.Left.{first_failed, then_last, same_text}
use Rattle.dlk_print.proofs.Digits.{decimal-more}
use Rattle.dlk_print.proofs.number.+append_decimal.Goals as goal

pub returns-in_err-append_decimal : goal.returns-in_err-append_decimal
returns-in_err-append_decimal t c =
    same_text (sym (decimal-more c.args.n (omega arith) (omega arith)))
    (first_failed _ _ c.from_residual.result c.from_residual.ensures.0 c.in_err-append_decimal.ensures.begun)

pub returns : goal.returns
returns t c =
    same_text (sym (decimal-more c.args.n (omega arith) (omega arith))) (then_last _ c.in_ok-append_decimal.ensures.ok c.append_digit.ensures)
