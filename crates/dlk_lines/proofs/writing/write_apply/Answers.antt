use Rattle.std.specs.Prelude.{codes, ◌++◌}
use Rattle.std.specs.Fmt.{decimal}
use Rattle.dlk_rules.specs.Steps.{rule_at}
use Rattle.dlk_print.proofs.Left.{failed, partly, appended, last}
use Rattle.dlk_lines.specs.Written.{rule_text}
use Rattle.dlk_lines.proofs.Appended.{unbegun_facts}
use Rattle.dlk_lines.proofs.writing.write_apply.Goals as goal

pub returns-in_err-append_number-clause-text : goal.returns-in_err-append_number-clause-text
returns-in_err-append_number-clause-text g c =
    let rule = rule_text (g.W.Spells.spelling c.args.writer.now) (rule_at (g.W.Spells.trees c.args.writer.now) c.args.rule.now) in
    let none = unbegun_facts c.args.out.now.items (codes "apply ") (decimal c.args.fact) (decimal c.args.goal) rule in
    failed c.from_residual.result c.from_residual.ensures.0 (partly (codes "apply " ++ decimal c.args.fact) _ none c.in_err-append_number.ensures.begun)

pub returns-in_err-append_number-2-clause-text : goal.returns-in_err-append_number-2-clause-text
returns-in_err-append_number-2-clause-text g c =
    let rule = rule_text (g.W.Spells.spelling c.args.writer.now) (rule_at (g.W.Spells.trees c.args.writer.now) c.args.rule.now) in
    let none = unbegun_facts c.args.out.now.items (codes "apply ") (decimal c.args.fact) (decimal c.args.goal) rule in
    let fact = appended (codes "apply " ++ decimal c.args.fact) _ none c.in_ok-append_number.ensures.ok in
    failed c.from_residual-in_err-append_number-2.result c.from_residual-in_err-append_number-2.ensures.0
    (partly (codes " " ++ decimal c.args.goal) (codes " " ++ rule) fact c.in_err-append_number-2.ensures.begun)

pub returns-in_err-append-clause-text : goal.returns-in_err-append-clause-text
returns-in_err-append-clause-text g c =
    let rule = rule_text (g.W.Spells.spelling c.args.writer.now) (rule_at (g.W.Spells.trees c.args.writer.now) c.args.rule.now) in
    let none = unbegun_facts c.args.out.now.items (codes "apply ") (decimal c.args.fact) (decimal c.args.goal) rule in
    let fact = appended (codes "apply " ++ decimal c.args.fact) _ none c.in_ok-append_number.ensures.ok in
    let goal = appended (codes " " ++ decimal c.args.goal) (codes " " ++ rule) fact c.in_ok-append_number-2.ensures.ok in
    failed c.from_residual-in_err-append.result c.from_residual-in_err-append.ensures.0 (partly (codes " ") rule goal c.in_err-append.ensures.begun)

pub returns-clause-text : goal.returns-clause-text
returns-clause-text g c =
    let rule = rule_text (g.W.Spells.spelling c.args.writer.now) (rule_at (g.W.Spells.trees c.args.writer.now) c.args.rule.now) in
    let none = unbegun_facts c.args.out.now.items (codes "apply ") (decimal c.args.fact) (decimal c.args.goal) rule in
    let fact = appended (codes "apply " ++ decimal c.args.fact) _ none c.in_ok-append_number.ensures.ok in
    let goal = appended (codes " " ++ decimal c.args.goal) (codes " " ++ rule) fact c.in_ok-append_number-2.ensures.ok in
    last (appended (codes " ") rule goal c.in_ok-append.ensures.ok) c.write_rule.ensures.text
