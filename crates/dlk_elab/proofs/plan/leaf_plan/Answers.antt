use Rattle.std.proofs.Common.{◌∷◌, [], ◌++◌, ◌+◌, ap, ◌∙◌}
use Rattle.dlk_rules.specs.declared.step.Step.{Step}
use Rattle.dlk_rules.specs.declared.step.Step.TheVariants.{Leaf, Merge}
use Rattle.dlk_elab.proofs.Plans.{plan_leaf, same_plan, pushed}
use Rattle.dlk_elab.proofs.plan.leaf_plan.Goals as goal

pub returns-clause-plan : goal.returns-clause-plan
returns-clause-plan c = λ trees atom known name.
    let merge : Step = Merge c.args.target.fact c.args.target.goal (c.args.target.rows + 1) in
    let first = pushed c.new-plan.result.items c.push.new.self.items (Leaf c.in_ok-leaf.leaf) (Leaf c.args.s.now) c.in_ok-push.ensures.items
    c.new-plan.ensures.items
    (ap Leaf c.in_ok-leaf.ensures) in
    let are = c.in_ok-push-2.ensures.items ∙ ap (λ xs. xs ++ merge ∷ []) first in
    same_plan c.args.target.rows c.args.target.fact c.args.target.goal trees c.args.s.now atom (Leaf c.args.s.now ∷ merge ∷ []) c.push-2.new.self.items are
    (plan_leaf c.args.target.rows c.args.target.fact c.args.target.goal trees c.args.s.now atom known name)
