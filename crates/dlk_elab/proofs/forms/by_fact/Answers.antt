use Rattle.std.proofs.Common.{[]}
use Rattle.dlk_rules.specs.declared.rule.Rule.TheVariants.{CoHideR}
use Rattle.dlk_elab.proofs.Turns.{if_ok, and_known, no_more}
use Rattle.dlk_elab.proofs.forms.by_fact.Goals as goal

pub returns : goal.returns
returns c = if_ok c.closed_by.result _ _ (rw c.in_ok-rules.ensures.items at c.closed_by.ensures)
    (λ steps planned trees s. planned trees (and_known trees (c.args.spot.goal, CoHideR c.args.j) [] tt (no_more trees)))
