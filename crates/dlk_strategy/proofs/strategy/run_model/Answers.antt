use Rattle.std.proofs.Common.{[], ◌∷◌, ◌++◌, length, ap, ◌∙◌, arith}
use Rattle.std.proofs.lemmas.Result.{err_from_is_err_and}
use Rattle.dlk_store.specs.Stores.{tree}
use Rattle.dlk_rules.specs.declared.step.Step.TheVariants as step
use Rattle.dlk_kernel.specs.Kernel.{facts}
use Rattle.dlk_tacsyn.specs.Ties.{tactic_at}
use Rattle.dlk_strategy.specs.Runs.{main_goals}
use Rattle.dlk_strategy.specs.Ties.{now}
use Rattle.dlk_strategy.proofs.Walking.{runnable_kept, tactic_same}
use Rattle.dlk_strategy.proofs.Begun.{not_refused, begun_rows, begun_steps, begun_known, model_done, model_fault}
use Rattle.dlk_strategy.proofs.strategy.run_model.Goals as goal

pub unreachable-requires : goal.unreachable-requires
unreachable-requires g c =
    not_refused g.S.Store.trees c.args.kernel.now c.in_ok-alone_right.field-0 c.args.model c.in-Err-Refused.field-0-0 c.requires.none
    c.in_ok-alone_right.ensures
    (record { formed = c.requires.formula; small = c.requires.small; shallow = c.requires.shallow })
    (rw c.in-Err-Refused.field-0-is at c.in-Err-Refused.ensures.fault)

pub run_goals-requires-clause-ready : goal.run_goals-requires-clause-ready
run_goals-requires-clause-ready g c =
    let trees = g.S.Store.trees in
    let old = c.args.kernel.now in
    let new = c.step.new.self in
    let keeps = g.met.S.Store.grows_keeps old.store new.store c.step.ensures.grows in
    let rows = begun_rows trees old (facts trees new) c.in_ok-alone_right.field-0 c.args.model c.requires.none c.in_ok-alone_right.ensures c.in-Ok.ensures.ok in
    let made = c.in_ok-push.ensures.items ∙ ap (λ xs. xs ++ step.Start c.in_ok-alone_right.field-0 ∷ []) c.new.ensures.items in
    let one = ap (λ rs. length (main_goals rs)) rows in
    record {
      known = begun_known (trees old.store) (trees new.store) c.push.new.self.items c.in_ok-alone_right.field-0 c.args.model keeps c.requires.model
          c.in_ok-alone_right.ensures made;
      first = omega arith;
      room = omega (arith, one);
      few = omega (arith, one);
      used = omega arith;
    }

pub run_goals-requires-clause-runnable : goal.run_goals-requires-clause-runnable
run_goals-requires-clause-runnable g c =
    let trees = g.S.Store.trees in
    let keeps = g.met.S.Store.grows_keeps c.args.kernel.now.store c.step.new.self.store c.step.ensures.grows in
    runnable_kept (trees c.args.kernel.now.store) (trees c.step.new.self.store) keeps c.args.strategy.now c.requires.runnable

pub returns-in_err-run_goals-clause-fault : goal.returns-in_err-run_goals-clause-fault
returns-in_err-run_goals-clause-fault g c =
    let trees = g.S.Store.trees in
    let old = c.args.kernel.now in
    let new = c.step.new.self in
    let keeps = g.met.S.Store.grows_keeps old.store new.store c.step.ensures.grows in
    let rows = begun_rows trees old (facts trees new) c.in_ok-alone_right.field-0 c.args.model c.requires.none c.in_ok-alone_right.ensures c.in-Ok.ensures.ok in
    let made = c.in_ok-push.ensures.items ∙ ap (λ xs. xs ++ step.Start c.in_ok-alone_right.field-0 ∷ []) c.new.ensures.items in
    let steps = begun_steps (trees old.store) (trees new.store) c.push.new.self.items c.in_ok-alone_right.field-0 c.args.model keeps c.requires.model
    c.in_ok-alone_right.ensures made in
    let same = tactic_same (trees old.store) (trees new.store) keeps c.args.strategy.now c.requires.runnable.known in
    let p = err_from_is_err_and c.from_residual-in_err-run_goals.result c.from_residual-in_err-run_goals.ensures.1 in
    rw (p.1, p.2)
    (model_fault (tactic_at (trees old.store) c.args.strategy.now) (tactic_at (trees new.store) c.args.strategy.now) (tree (trees old.store) c.args.model)
    (now trees new (record { steps = c.push.new.self; used = 0 }))
    (record { formed = c.requires.formula; small = c.requires.small; shallow = c.requires.shallow }) same
    (λ i. record { steps = steps i; rows = rows i; used = 0 })
    (now trees c.run_goals.new.kernel c.run_goals.new.trace) c.in_err-run_goals.field-0.0 c.in_err-run_goals.ensures.fate)

pub returns-in_err-run_goals-clause-grows : goal.returns-in_err-run_goals-clause-grows
returns-in_err-run_goals-clause-grows g c =
    g.met.S.Store.grows_trans c.args.kernel.now.store c.step.new.self.store c.run_goals.new.kernel.store c.step.ensures.grows c.run_goals.ensures.grows

pub returns-clause-done : goal.returns-clause-done
returns-clause-done g c =
    let trees = g.S.Store.trees in
    let old = c.args.kernel.now in
    let new = c.step.new.self in
    let keeps = g.met.S.Store.grows_keeps old.store new.store c.step.ensures.grows in
    let rows = begun_rows trees old (facts trees new) c.in_ok-alone_right.field-0 c.args.model c.requires.none c.in_ok-alone_right.ensures c.in-Ok.ensures.ok in
    let made = c.in_ok-push.ensures.items ∙ ap (λ xs. xs ++ step.Start c.in_ok-alone_right.field-0 ∷ []) c.new.ensures.items in
    let steps = begun_steps (trees old.store) (trees new.store) c.push.new.self.items c.in_ok-alone_right.field-0 c.args.model keeps c.requires.model
    c.in_ok-alone_right.ensures made in
    let same = tactic_same (trees old.store) (trees new.store) keeps c.args.strategy.now c.requires.runnable.known in (
      c.in_ok-run_goals.field-0,
      model_done (tactic_at (trees old.store) c.args.strategy.now) (tactic_at (trees new.store) c.args.strategy.now) (tree (trees old.store) c.args.model)
          (now trees new (record { steps = c.push.new.self; used = 0 }))
          (record { formed = c.requires.formula; small = c.requires.small; shallow = c.requires.shallow }) same
          (λ i. record { steps = steps i; rows = rows i; used = 0 })
          (now trees c.run_goals.new.kernel c.run_goals.new.trace) c.in_ok-run_goals.field-0 c.in_ok-run_goals.ensures.fate,
    )

pub returns-clause-grows : goal.returns-clause-grows
returns-clause-grows g c =
    g.met.S.Store.grows_trans c.args.kernel.now.store c.step.new.self.store c.run_goals.new.kernel.store c.step.ensures.grows c.run_goals.ensures.grows
