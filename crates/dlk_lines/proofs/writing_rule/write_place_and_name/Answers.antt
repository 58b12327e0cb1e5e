use Rattle.std.proofs.Common.{sym, append_assoc}
use Rattle.std.specs.Prelude.{codes}
use Rattle.std.specs.Fmt.{decimal}
use Rattle.dlk_print.proofs.Left.{first_failed, then_last, same_text}
use Rattle.dlk_lines.proofs.writing_rule.write_place_and_name.Goals as goal

pub returns-in_err-append_decimal : goal.returns-in_err-append_decimal
returns-in_err-append_decimal c =
    same_text (sym (append_assoc (decimal c.args.i) (codes ",") c.args.y.now))
    (first_failed (decimal c.args.i) _ c.from_residual.result c.from_residual.ensures.0 (rw c.from.ensures at c.in_err-append_decimal.ensures.begun))

pub returns : goal.returns
returns c =
    same_text (sym (append_assoc (decimal c.args.i) (codes ",") c.args.y.now))
    (then_last (decimal c.args.i) (rw c.from.ensures at c.in_ok-append_decimal.ensures.ok) c.append_name.ensures)
