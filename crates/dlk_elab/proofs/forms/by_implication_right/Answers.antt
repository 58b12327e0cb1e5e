use Rattle.std.proofs.Common.{◌+◌, [], ◌∷◌}
use Rattle.dlk_rules.specs.declared.rule.Rule.TheVariants.{CutR, CoHideR}
use Rattle.dlk_elab.proofs.Turns.{if_ok, and_known, no_more}
use Rattle.dlk_elab.proofs.forms.by_implication_right.Goals as goal

pub returns : goal.returns
returns c = if_ok c.closed_by.result _ _ (rw c.in_ok-rules.ensures.items at c.closed_by.ensures)
    (λ steps planned trees s h condition. planned trees (
    and_known trees (c.args.spot.goal, CutR c.args.j c.args.condition) ((c.args.spot.goal + 1, CoHideR c.args.j) ∷ []) condition
    (and_known trees (c.args.spot.goal + 1, CoHideR c.args.j) [] tt (no_more trees))))
