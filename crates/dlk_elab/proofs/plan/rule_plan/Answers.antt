use Rattle.std.proofs.Common.{◌≡◌, ◌∷◌, [], Err, ap, ◌∙◌}
use Rattle.std.proofs.lemmas.Result.{err_from_is_err_and}
use Rattle.dlk_rules.specs.declared.step.Step.{Step}
use Rattle.dlk_rules.specs.declared.step.Step.TheVariants.{Apply}
use Rattle.dlk_rules.specs.Words.{arguments_at}
use Rattle.dlk_elab.specs.declared.fault.TacFault.TheVariants.{Memory}
use Rattle.dlk_elab.proofs.RuleArguments.{same_shape}
use Rattle.dlk_elab.proofs.Plans.{plan_rule, same_plan, pushed}
use Rattle.dlk_elab.proofs.plan.rule_plan.Goals as goal

pub returns-in_err-arguments-clause-fault : goal.returns-in_err-arguments-clause-fault
returns-in_err-arguments-clause-fault c =
    let p = err_from_is_err_and c.from_residual.result c.from_residual.ensures.1 in rw (p.1, p.2, ← c.as_slice.ensures) c.in_err-arguments.ensures.fault

pub returns-clause-plan : goal.returns-clause-plan
returns-clause-plan c = λ trees s known name.
    let one : Step = Apply c.args.target.fact c.args.target.goal c.in-Some.rule in
    let are = pushed c.new-plan.result.items c.push.new.self.items c.apply.result one c.in_ok-push.ensures.items c.new-plan.ensures.items c.apply.ensures in
    let found = rw c.as_slice.ensures at c.in_ok-arguments.ensures.found trees in
    let ids = c.in_ok-arguments.ensures.known trees (rw c.as_slice.ensures known) in
    same_plan c.args.target.rows c.args.target.fact c.args.target.goal trees s c.args.atom.now (one ∷ []) c.push.new.self.items are
    (plan_rule c.args.target.rows c.args.target.fact c.args.target.goal trees s c.args.atom.now c.args.word c.in_ok-arguments.arguments c.in-Some.rule found ids
    (c.in-Some.ensures trees) name)

pub returns-in_err-arguments-clause-memory : goal.returns-in_err-arguments-clause-memory
returns-in_err-arguments-clause-memory c =
    let p = err_from_is_err_and c.from_residual.result c.from_residual.ensures.1 in
    rw (p.1, p.2, ← c.as_slice.ensures) (λ is. let why : c.in_err-arguments.field-0.0 ≡ Memory = cc is in
    c.in_err-arguments.ensures.memory (ap Err why))

pub returns-in_err-push-clause-memory : goal.returns-in_err-push-clause-memory
returns-in_err-push-clause-memory c = λ is trees. (
  arguments_at (λ y. y) trees c.in_ok-arguments.arguments,
  same_shape trees c.in_ok-arguments.arguments ∙ c.in_ok-arguments.ensures.shape,
  rw c.as_slice.ensures at c.in_ok-arguments.ensures.found trees,
)
