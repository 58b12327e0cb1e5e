use Rattle.std.proofs.Common.{◌≡◌, ◌∙◌}
use Rattle.std.specs.Prelude.{codes}
use Rattle.dlk_calculus.specs.Rules.{word_of, arguments_of}
use Rattle.dlk_rules.specs.Steps.{rule_at}
use Rattle.dlk_print.proofs.Left.{failed, partly, appended, last}
use Rattle.dlk_lines.specs.Written.{arguments_text}
use Rattle.dlk_lines.proofs.Appended.{unbegun_call}
use Rattle.dlk_lines.proofs.writing_rule.write_rule.Goals as goal

pub returns-in_err-append-clause-text : goal.returns-in_err-append-clause-text
returns-in_err-append-clause-text g c =
    let trees = g.W.Spells.trees c.args.writer.now in
    let rule = rule_at trees c.args.rule.now in
    let word_is : c.as_bytes.result.now ≡ word_of rule = c.as_bytes.ensures.value ∙ c.text.ensures ∙ c.word.ensures trees in
    let none = unbegun_call c.args.out.now.items (word_of rule) (arguments_text (g.W.Spells.spelling c.args.writer.now) (arguments_of rule)) in
    failed c.from_residual.result c.from_residual.ensures.0 (partly (word_of rule) _ none (rw word_is at c.in_err-append.ensures.begun))

pub returns-in_err-append-2-clause-text : goal.returns-in_err-append-2-clause-text
returns-in_err-append-2-clause-text g c =
    let trees = g.W.Spells.trees c.args.writer.now in
    let rule = rule_at trees c.args.rule.now in
    let word_is : c.as_bytes.result.now ≡ word_of rule = c.as_bytes.ensures.value ∙ c.text.ensures ∙ c.word.ensures trees in
    let none = unbegun_call c.args.out.now.items (word_of rule) (arguments_text (g.W.Spells.spelling c.args.writer.now) (arguments_of rule)) in
    let word = appended (word_of rule) _ none (rw word_is at c.in_ok-append.ensures.ok) in
    failed c.from_residual-in_err-append-2.result c.from_residual-in_err-append-2.ensures.0 (partly (codes "(") _ word c.in_err-append-2.ensures.begun)

pub write_arguments-requires-clause-known : goal.write_arguments-requires-clause-known
write_arguments-requires-clause-known g c = c.arguments.ensures.known (g.W.Spells.trees c.args.writer.now) c.requires.known

pub write_arguments-requires-clause-there : goal.write_arguments-requires-clause-there
write_arguments-requires-clause-there g c = rw (c.arguments.ensures.arguments (g.W.Spells.trees c.args.writer.now)) c.requires.there

pub returns-in_err-write_arguments-clause-text : goal.returns-in_err-write_arguments-clause-text
returns-in_err-write_arguments-clause-text g c =
    let trees = g.W.Spells.trees c.args.writer.now in
    let rule = rule_at trees c.args.rule.now in
    let word_is : c.as_bytes.result.now ≡ word_of rule = c.as_bytes.ensures.value ∙ c.text.ensures ∙ c.word.ensures trees in
    let none = unbegun_call c.args.out.now.items (word_of rule) (arguments_text (g.W.Spells.spelling c.args.writer.now) (arguments_of rule)) in
    let word = appended (word_of rule) _ none (rw word_is at c.in_ok-append.ensures.ok) in
    let begun = appended (codes "(") _ word c.in_ok-append-2.ensures.ok in
    failed c.from_residual-in_err-write_arguments.result c.from_residual-in_err-write_arguments.ensures.0
    (partly (arguments_text (g.W.Spells.spelling c.args.writer.now) (arguments_of rule)) (codes ")") begun
    (rw (c.arguments.ensures.arguments trees) at c.in_err-write_arguments.ensures.text.begun))

pub returns-clause-text : goal.returns-clause-text
returns-clause-text g c =
    let trees = g.W.Spells.trees c.args.writer.now in
    let rule = rule_at trees c.args.rule.now in
    let word_is : c.as_bytes.result.now ≡ word_of rule = c.as_bytes.ensures.value ∙ c.text.ensures ∙ c.word.ensures trees in
    let none = unbegun_call c.args.out.now.items (word_of rule) (arguments_text (g.W.Spells.spelling c.args.writer.now) (arguments_of rule)) in
    let word = appended (word_of rule) _ none (rw word_is at c.in_ok-append.ensures.ok) in
    let begun = appended (codes "(") _ word c.in_ok-append-2.ensures.ok in
    last
    (appended (arguments_text (g.W.Spells.spelling c.args.writer.now) (arguments_of rule)) (codes ")") begun
    (rw (c.arguments.ensures.arguments trees) at c.in_ok-write_arguments.ensures.text.ok))
    c.append-3.ensures
