use Rattle.std.proofs.Common.{All, map, sym, ap, subst, arith}
use Rattle.std.proofs.lemmas.List.Elements.{All-nil}
use Rattle.dlk_rules.specs.Steps.{step_at, HasKnownIds}
use Rattle.dlk_kernel.specs.Kernel.{facts}
use Rattle.dlk_tacsyn.specs.Ties.{tactic_at}
use Rattle.dlk_strategy.specs.Ties.{now}
use Rattle.dlk_strategy.proofs.OnGoal.{on_done, on_fault}
use Rattle.dlk_strategy.proofs.Reached.{facts_length, rows_back}
use Rattle.dlk_strategy.proofs.States.{main_some}
use Rattle.dlk_strategy.proofs.on_goal.run_on.Goals as goal

pub goals_left-requires : goal.goals_left-requires
goals_left-requires g c =
    let rows = facts g.S.Store.trees c.args.kernel.now in
    let some = main_some rows (omega (arith, c.requires.goal.0, c.requires.goal.1)) in
    omega (arith, some, facts_length g.S.Store.trees c.args.kernel.now)

pub run_goals-requires-clause-ready : goal.run_goals-requires-clause-ready
run_goals-requires-clause-ready g c =
    let trees = g.S.Store.trees c.args.kernel.now.store in
    record {
      known = subst (All (HasKnownIds trees)) (sym c.new.ensures.items) (All-nil (HasKnownIds trees));
      first = c.requires.goal.0;
      room = omega (arith, c.requires.goal.1);
      few = omega (arith, c.goals_left.ensures.goals, c.goals_left.ensures.few);
      used = c.requires.used;
    }

pub run_goals-requires-clause-runnable : goal.run_goals-requires-clause-runnable
run_goals-requires-clause-runnable g c =
    let trees = g.S.Store.trees c.args.kernel.now.store in
    record {
      known = c.in_ok-expansion.ensures.known;
      atoms = c.expansion_fits.ensures.fitting (tactic_at trees c.args.strategy.now) (tactic_at trees c.in_ok-expansion.expansion) c.requires.runnable.of_text
          c.in_ok-expansion.ensures.found;
    }

pub returns-in-Ok-clause-done : goal.returns-in-Ok-clause-done
returns-in-Ok-clause-done g c =
    let trees = g.S.Store.trees in
    let old = c.args.kernel.now in
    let none = ap (map (step_at (trees old.store))) c.new.ensures.items in
    on_done (tactic_at (trees old.store) c.args.strategy.now) (tactic_at (trees old.store) c.in_ok-expansion.expansion) (facts trees old) c.args.goal
    c.args.used c.in-Ok.count (now trees old (record { steps = c.new.result; used = c.args.used })) (now trees c.run_goals.new.kernel c.run_goals.new.trace)
    (λ i. record { steps = none i; rows = facts trees old; used = c.args.used }) c.in_ok-expansion.ensures.found c.in-Ok.ensures.fate

pub returns-clause-fault : goal.returns-clause-fault
returns-clause-fault g c =
    let trees = g.S.Store.trees in
    let old = c.args.kernel.now in
    let none = ap (map (step_at (trees old.store))) c.new.ensures.items in
    let is = on_fault (tactic_at (trees old.store) c.args.strategy.now) (tactic_at (trees old.store) c.in_ok-expansion.expansion) (facts trees old) c.args.goal
    c.args.used (now trees old (record { steps = c.new.result; used = c.args.used })) (now trees c.run_goals.new.kernel c.run_goals.new.trace) c.in-Err.fault
    (λ i. record { steps = none i; rows = facts trees old; used = c.args.used }) c.in_ok-expansion.ensures.found c.in-Err.ensures.fate in
    rw c.with_runs_counted.ensures is

pub returns-clause-err : goal.returns-clause-err
returns-clause-err g c =
    rows_back g.S.Store.trees c.args.kernel.now c.run_goals.new.kernel c.release.new.self c.mark-rows.result c.run_goals.ensures.rows c.mark-rows.ensures
    c.release.ensures.rows c.release.ensures.store
