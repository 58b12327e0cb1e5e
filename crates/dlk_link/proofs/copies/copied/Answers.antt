use Rattle.dlk_link.proofs.RuleCopies.{apply_copy}
use Rattle.dlk_link.proofs.copies.copied.Goals as goal

pub returns-in_ok-copied_rule-in-Apply : goal.returns-in_ok-copied_rule-in-Apply
returns-in_ok-copied_rule-in-Apply c =
    apply_copy c.in-Apply.fact c.in-Apply.goal _ c.in_ok-copied_rule-in-Apply.field-0 c.args.step.now c.in-Apply.is c.in_ok-copied_rule-in-Apply.ensures
