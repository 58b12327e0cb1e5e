use Rattle.dlk_link.proofs.RuleCopies.{fits, is_copy}
use Rattle.dlk_link.proofs.copies.copied_rule.Goals as goal

pub unreachable-requires : goal.unreachable-requires
unreachable-requires c = c.in-None.ensures
    (fits (λ y. y.now) c.args.rule.now c.word.result c.arguments.result c.in_ok-arguments.arguments c.word.ensures c.arguments.ensures.arguments
    c.arguments.ensures.known
    c.in_ok-arguments.ensures c.word_wants_one_shape.ensures)

pub returns : goal.returns
returns c =
    is_copy (λ y. y.now) c.args.rule.now c.word.result c.arguments.result c.in_ok-arguments.arguments c.word.ensures c.arguments.ensures.arguments
    c.arguments.ensures.known
    c.in_ok-arguments.ensures c.rule_is_its_word_and_arguments.ensures c.in-Some.copy c.in-Some.ensures
