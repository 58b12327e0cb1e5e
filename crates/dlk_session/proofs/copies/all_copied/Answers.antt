use Rattle.std.proofs.Common.{map, ap, ◌∙◌, arith}
use Rattle.std.proofs.lemmas.List.{take_all}
use Rattle.dlk_rules.specs.Steps.{step_at, HasKnownIds}
use Rattle.dlk_session.proofs.Copied.{copied_more, known_more}
use Rattle.dlk_session.proofs.copies.all_copied.Goals as goal

pub loop-step-preserved : goal.loop-step-preserved
loop-step-preserved c = record {
  same = λ trees. copied_more (step_at trees) c.args.steps.now c.loop-step.copies.items c.push.new.self.items c.loop-step.step-index c.step-item.result
      c.in_ok-copied.field-0 c.loop-step-test.true c.step-item.is c.in_ok-push.ensures.items (c.in_ok-copied.ensures.same trees)
      (c.loop-step.invariant.same trees);
  known = λ trees h. known_more (HasKnownIds trees) c.args.steps.now c.loop-step.copies.items c.push.new.self.items c.loop-step.step-index c.step-item.result
      c.in_ok-copied.field-0 c.loop-step-test.true c.step-item.is c.in_ok-push.ensures.items (c.in_ok-copied.ensures.known trees) h
      (c.loop-step.invariant.known trees h);
}

pub returns-clause-same : goal.returns-clause-same
returns-clause-same c = λ trees.
    c.loop-step.invariant.same trees ∙ ap (map (step_at trees)) (take_all c.loop-step.step-index c.args.steps.now (omega (arith, c.loop-step-test.false)))
