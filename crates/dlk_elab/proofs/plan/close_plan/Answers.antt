use Rattle.std.proofs.Common.{◌∷◌, []}
use Rattle.dlk_rules.specs.declared.rule.Rule.TheVariants.{Close}
use Rattle.dlk_rules.specs.declared.step.Step.{Step}
use Rattle.dlk_rules.specs.declared.step.Step.TheVariants.{Apply}
use Rattle.dlk_elab.specs.Atoms.{nothing_same}
use Rattle.dlk_elab.proofs.Plans.{plan_close, same_plan, pushed}
use Rattle.dlk_elab.proofs.plan.close_plan.Goals as goal

pub returns-in_default-clause-fault : goal.returns-in_default-clause-fault
returns-in_default-clause-fault g c = λ atom name. nothing_same name c.in_default.ensures.none

pub returns-clause-plan : goal.returns-clause-plan
returns-clause-plan g c = λ atom name.
    let one : Step = Apply c.args.target.fact c.args.target.goal (Close c.in-Some.i c.in-Some.j) in
    let are = pushed c.new-plan.result.items c.push.new.self.items c.apply.result one c.in_ok-push.ensures.items c.new-plan.ensures.items c.apply.ensures in
    same_plan c.args.target.rows c.args.target.fact c.args.target.goal (g.S.Store.trees c.args.store.now) c.args.s.now atom (one ∷ []) c.push.new.self.items are
    (plan_close c.args.target.rows c.args.target.fact c.args.target.goal (g.S.Store.trees c.args.store.now) c.args.s.now atom c.in-Some.i c.in-Some.j name
    c.in-Some.ensures.found)

pub returns-in_err-push-clause-memory : goal.returns-in_err-push-clause-memory
returns-in_err-push-clause-memory g c = λ is. (c.in-Some.i, c.in-Some.j, c.in-Some.ensures.found)
