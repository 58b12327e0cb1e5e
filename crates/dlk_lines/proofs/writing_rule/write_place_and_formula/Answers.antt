use Rattle.std.proofs.Common.{sym, append_assoc}
use Rattle.std.specs.Prelude.{codes}
use Rattle.std.specs.Fmt.{decimal}
use Rattle.dlk_store.specs.Stores.{tree}
use Rattle.dlk_print.proofs.Left.{first_failed, then_last, same_text}
use Rattle.dlk_lines.specs.Written.{formula_text}
use Rattle.dlk_lines.proofs.writing_rule.write_place_and_formula.Goals as goal

pub returns-in_err-append_decimal-clause-text : goal.returns-in_err-append_decimal-clause-text
returns-in_err-append_decimal-clause-text g c =
    let h = formula_text (g.W.Spells.spelling c.args.writer.now) (tree (g.W.Spells.trees c.args.writer.now) c.args.h) in
    same_text (sym (append_assoc (decimal c.args.i) (codes ",") h))
    (first_failed (decimal c.args.i) _ c.from_residual.result c.from_residual.ensures.0 (rw c.from.ensures at c.in_err-append_decimal.ensures.begun))

pub returns-clause-text : goal.returns-clause-text
returns-clause-text g c =
    let h = formula_text (g.W.Spells.spelling c.args.writer.now) (tree (g.W.Spells.trees c.args.writer.now) c.args.h) in
    same_text (sym (append_assoc (decimal c.args.i) (codes ",") h))
    (then_last (decimal c.args.i) (rw c.from.ensures at c.in_ok-append_decimal.ensures.ok) c.append_formula.ensures.text)
