use Rattle.std.proofs.Common.{◌+◌, [], ◌∷◌, subst}
use Rattle.dlk_store.specs.Stores.{tree}
use Rattle.dlk_rules.specs.declared.rule.Rule.TheVariants.{CutL, CoHideR}
use Rattle.dlk_calculus.specs.Rules.{CutL as TreeCutL, CoHideR as TreeCoHideR}
use Rattle.dlk_uses.specs.Uses.{closed_by}
use Rattle.dlk_elab.specs.Plans.{ArePlanned}
use Rattle.dlk_elab.proofs.Turns.{if_ok, and_known, no_more}
use Rattle.dlk_elab.proofs.forms.by_implication_left.Goals as goal

pub returns : goal.returns
returns c = if_ok c.closed_by.result _ _ (rw c.in_ok-rules.ensures.items at c.closed_by.ensures)
    (λ steps planned trees s b conclusion right.
    subst
    (λ n. ArePlanned trees steps.items (closed_by c.args.now c.args.spot.fact c.args.now (
    (c.args.spot.goal, TreeCutL c.args.i (tree trees c.args.conclusion)) ∷ (c.args.spot.goal + 1, TreeCoHideR (n + 1)) ∷ []) (c.args.spot.goal + 1)))
    right
    (planned trees (
    and_known trees (c.args.spot.goal, CutL c.args.i c.args.conclusion) ((c.args.spot.goal + 1, CoHideR (c.args.spot.right + 1)) ∷ []) conclusion
    (and_known trees (c.args.spot.goal + 1, CoHideR (c.args.spot.right + 1)) [] tt (no_more trees)))))
