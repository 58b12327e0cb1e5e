use Rattle.std.proofs.Common.{◌+◌, ℕ, List, [], ◌∷◌, subst}
use Rattle.dlk_store.specs.Stores.{tree}
use Rattle.dlk_tree.specs.Trees.{Tree}
use Rattle.dlk_rules.specs.declared.rule.Rule.{Rule}
use Rattle.dlk_rules.specs.declared.rule.Rule.TheVariants.{CutR, CoHideR, ImplyR, EquivifyR, CommuteEquivR, Cut, ImplyL, Close}
use Rattle.dlk_calculus.specs.Rules.{CutR as TreeCutR, CoHideR as TreeCoHideR, ImplyR as TreeImplyR, EquivifyR as TreeEquivifyR}
use Rattle.dlk_calculus.specs.Rules.{CommuteEquivR as TreeCommuteEquivR, Cut as TreeCut, ImplyL as TreeImplyL, Close as TreeClose}
use Rattle.dlk_uses.specs.Uses.{closed_by}
use Rattle.dlk_elab.specs.Plans.{ArePlanned}
use Rattle.dlk_elab.proofs.Turns.{if_ok, all_known}
use Rattle.dlk_elab.proofs.forms.by_conditional_equivalence.Goals as goal

pub returns : goal.returns
returns c = if_ok c.closed_by.result _ _ (rw c.in_ok-rules.ensures.items at c.closed_by.ensures)
    (λ steps planned trees s l condition right instance.
    let goal = c.args.spot.goal in let third = goal + 2 in let j = c.args.j in
    let rules : List (ℕ × Rule) =
    (goal, CutR j c.args.right) ∷ (goal + 1, CutR j c.args.condition) ∷ (third, CoHideR j) ∷ (third, ImplyR 1) ∷ (third, EquivifyR 1) ∷
    (third, CommuteEquivR 1) ∷ (third, Cut c.args.instance) ∷ (third, ImplyL 2) ∷ (third, Close 1 2) ∷ (third, Close 2 1) ∷ (third, CoHideR 2) ∷ [] in
    subst
    (λ (h : Tree). ArePlanned trees steps.items (closed_by c.args.now c.args.spot.fact c.args.now (
    (goal, TreeCutR j (tree trees c.args.right)) ∷ (goal + 1, TreeCutR j (tree trees c.args.condition)) ∷
    (third, TreeCoHideR j) ∷ (third, TreeImplyR 1) ∷ (third, TreeEquivifyR 1) ∷ (third, TreeCommuteEquivR 1) ∷
    (third, TreeCut h) ∷ (third, TreeImplyL 2) ∷ (third, TreeClose 1 2) ∷ (third, TreeClose 2 1) ∷ (third, TreeCoHideR 2) ∷ []) third))
    instance.tree_is
    (planned trees (all_known trees rules (right, (condition, (tt, (tt, (tt, (tt, (instance.known, (tt, (tt, (tt, (tt, tt))))))))))))))
