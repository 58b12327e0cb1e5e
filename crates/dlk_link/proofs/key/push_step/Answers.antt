use Rattle.std.proofs.lemmas.Result.{on_ok_weaker}
use Rattle.dlk_link.proofs.KeyMade.{rule_key}
use Rattle.dlk_link.proofs.key.push_step.Goals as goal

pub returns-in-Apply : goal.returns-in-Apply
returns-in-Apply c =
    on_ok_weaker c.push_apply.result (rule_key c.in-Apply.fact c.in-Apply.goal _ c.args.step.now c.args.words.now.items c.push_apply.new.words.items c.requires
    c.in-Apply.is)
    c.push_apply.ensures
