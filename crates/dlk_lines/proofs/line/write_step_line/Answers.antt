use Rattle.std.specs.Prelude.{codes}
use Rattle.std.specs.Fmt.{decimal}
use Rattle.dlk_rules.specs.Steps.{step_at}
use Rattle.dlk_print.proofs.Left.{failed, partly, appended, last}
use Rattle.dlk_lines.specs.Written.{step_text}
use Rattle.dlk_lines.proofs.Appended.{unbegun_line}
use Rattle.dlk_lines.proofs.line.write_step_line.Goals as goal

pub returns-in_err-append_decimal-clause-text : goal.returns-in_err-append_decimal-clause-text
returns-in_err-append_decimal-clause-text g c =
    let none =
    unbegun_line c.args.out.now.items (decimal c.args.number)
    (step_text (g.W.Spells.spelling c.args.writer.now) (step_at (g.W.Spells.trees c.args.writer.now) c.args.step.now)) in
    failed c.from_residual.result c.from_residual.ensures.0 (partly (decimal c.args.number) _ none (rw c.from.ensures at c.in_err-append_decimal.ensures.begun))

pub returns-in_err-append-clause-text : goal.returns-in_err-append-clause-text
returns-in_err-append-clause-text g c =
    let step = step_text (g.W.Spells.spelling c.args.writer.now) (step_at (g.W.Spells.trees c.args.writer.now) c.args.step.now) in
    let none = unbegun_line c.args.out.now.items (decimal c.args.number) step in
    let number = appended (decimal c.args.number) _ none (rw c.from.ensures at c.in_ok-append_decimal.ensures.ok) in
    failed c.from_residual-in_err-append.result c.from_residual-in_err-append.ensures.0 (partly (codes " ") step number c.in_err-append.ensures.begun)

pub returns-clause-text : goal.returns-clause-text
returns-clause-text g c =
    let step = step_text (g.W.Spells.spelling c.args.writer.now) (step_at (g.W.Spells.trees c.args.writer.now) c.args.step.now) in
    let none = unbegun_line c.args.out.now.items (decimal c.args.number) step in
    let number = appended (decimal c.args.number) _ none (rw c.from.ensures at c.in_ok-append_decimal.ensures.ok) in
    last (appended (codes " ") step number c.in_ok-append.ensures.ok) c.write_step.ensures.text
