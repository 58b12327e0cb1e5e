use Rattle.std.proofs.Common.{rules, append_assoc}
use Rattle.std.proofs.lemmas.Result.{on_ok_weaker}
use Rattle.dlk_link.proofs.KeyMade.{adds_rule}
use Rattle.dlk_link.proofs.key.push_apply.Goals as goal

pub returns : goal.returns
returns c =
    on_ok_weaker c.push_arguments.result
    (adds_rule (λ y. y.now) c.args.fact c.args.goal c.args.rule.now c.arguments.result c.text.result.now c.args.words.now.items c.push_bytes.new.words.items
    c.push_arguments.new.words.items (search (rules, append_assoc)) (λ trees. search rules) c.arguments.ensures.arguments c.arguments.ensures.known)
    c.push_arguments.ensures
