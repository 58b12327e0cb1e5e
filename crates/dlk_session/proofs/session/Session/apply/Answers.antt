use Rattle.std.proofs.Common.{[], ◌∷◌, ◌++◌, sym, ap, subst, ◌∙◌}
use Rattle.dlk_store.specs.Stores.{Keeps}
use Rattle.dlk_tacsyn.specs.Ties.{tactic_at}
use Rattle.dlk_session.specs.Sessions.{no_goal}
use Rattle.dlk_session.proofs.Holding.{some_rows, rows_back, zero_no_goal, past_no_goal, is_goal, same_state, still_shared, ran_fails, ran_spent, ran_done}
use Rattle.dlk_session.proofs.session.Session.apply.Goals as goal
use Rattle.dlk_session.proofs.session.Session.apply.Goals.{then-goal-eq0-via-then-goal-eq0, then-goal-eq0-via-else-goal-eq0+then-goal-goals_left}

pub goals_left-requires : goal.goals_left-requires
goals_left-requires g c = some_rows g.S.Store.trees _ c.self.invariant.0

pub returns-then-goal-eq0-clause-applies : goal.returns-then-goal-eq0-clause-applies
returns-then-goal-eq0-clause-applies g c =
    rw (← c.self.view_is) (no_goal (elim c.then-goal-eq0.branch [
      | then-goal-eq0-via-then-goal-eq0 w ↦
          zero_no_goal g.S.Store.trees c.self.inside.kernel c.args.goal w.if-goal-eq0.true
      | then-goal-eq0-via-else-goal-eq0+then-goal-goals_left w ↦
          past_no_goal g.S.Store.trees c.self.inside.kernel c.args.goal w.goals_left.result
          w.goals_left.ensures.goals w.if-goal-goals_left.true
    ]))

pub invariant_of-self-in-Err-Fails : goal.invariant_of-self-in-Err-Fails
invariant_of-self-in-Err-Fails g c =
    let known = c.step_stays.ensures.known in
    let same = c.step_stays.ensures.same in
    let trees = g.S.Store.trees in
    let there = is_goal trees c.self.inside.kernel c.args.goal c.goals_left.result c.goals_left.ensures.goals c.if-goal-eq0.false c.if-goal-goals_left.false in
    let keeps = g.met.S.Store.grows_keeps c.self.inside.kernel.store c.run_on.new.kernel.store c.run_on.ensures.grows in
    let t = tactic_at (trees c.self.inside.kernel.store) c.args.strategy.now in
    rw c.reserve.ensures.items (ran_fails known same trees g.R.Runner.becomes c.laws.ensures.taken c.laws.ensures.counted c.laws.ensures.failed _
    c.self.inside.shared c.self.invariant c.args.goal t there c.run_on.new.kernel keeps
    c.in-Err-Fails.at c.in-Err-Fails.used c.in-Err-Fails.why c.in-Err-Fails.ensures.err (rw c.in-Err-Fails.field-0-is at c.in-Err-Fails.ensures.fault)).holds

pub returns-in-Err-Fails-clause-applies : goal.returns-in-Err-Fails-clause-applies
returns-in-Err-Fails-clause-applies g c =
    let known = c.step_stays.ensures.known in
    let same = c.step_stays.ensures.same in
    let trees = g.S.Store.trees in
    let there = is_goal trees c.self.inside.kernel c.args.goal c.goals_left.result c.goals_left.ensures.goals c.if-goal-eq0.false c.if-goal-goals_left.false in
    let keeps = g.met.S.Store.grows_keeps c.self.inside.kernel.store c.run_on.new.kernel.store c.run_on.ensures.grows in
    let t = tactic_at (trees c.self.inside.kernel.store) c.args.strategy.now in
    rw (c.reserve.ensures.items, ← c.self.view_is)
    (ran_fails known same trees g.R.Runner.becomes c.laws.ensures.taken c.laws.ensures.counted c.laws.ensures.failed _ c.self.inside.shared
    c.self.invariant c.args.goal t there c.run_on.new.kernel keeps
    c.in-Err-Fails.at c.in-Err-Fails.used c.in-Err-Fails.why c.in-Err-Fails.ensures.err (rw c.in-Err-Fails.field-0-is at c.in-Err-Fails.ensures.fault)).applies

pub invariant_of-self-in-Err-Budget : goal.invariant_of-self-in-Err-Budget
invariant_of-self-in-Err-Budget g c =
    let known = c.step_stays.ensures.known in
    let same = c.step_stays.ensures.same in
    let trees = g.S.Store.trees in
    let there = is_goal trees c.self.inside.kernel c.args.goal c.goals_left.result c.goals_left.ensures.goals c.if-goal-eq0.false c.if-goal-goals_left.false in
    let keeps = g.met.S.Store.grows_keeps c.self.inside.kernel.store c.run_on.new.kernel.store c.run_on.ensures.grows in
    let t = tactic_at (trees c.self.inside.kernel.store) c.args.strategy.now in
    rw c.reserve.ensures.items (ran_spent known same trees g.R.Runner.becomes c.laws.ensures.taken c.laws.ensures.counted c.laws.ensures.failed _
    c.self.inside.shared c.self.invariant c.args.goal t there c.run_on.new.kernel keeps
    c.in-Err-Budget.at c.in-Err-Budget.ensures.err (rw c.in-Err-Budget.field-0-is at c.in-Err-Budget.ensures.fault)).holds

pub returns-in-Err-Budget-clause-applies : goal.returns-in-Err-Budget-clause-applies
returns-in-Err-Budget-clause-applies g c =
    let known = c.step_stays.ensures.known in
    let same = c.step_stays.ensures.same in
    let trees = g.S.Store.trees in
    let there = is_goal trees c.self.inside.kernel c.args.goal c.goals_left.result c.goals_left.ensures.goals c.if-goal-eq0.false c.if-goal-goals_left.false in
    let keeps = g.met.S.Store.grows_keeps c.self.inside.kernel.store c.run_on.new.kernel.store c.run_on.ensures.grows in
    let t = tactic_at (trees c.self.inside.kernel.store) c.args.strategy.now in
    rw (c.reserve.ensures.items, ← c.self.view_is)
    (ran_spent known same trees g.R.Runner.becomes c.laws.ensures.taken c.laws.ensures.counted c.laws.ensures.failed _ c.self.inside.shared
    c.self.invariant c.args.goal t there c.run_on.new.kernel keeps
    c.in-Err-Budget.at c.in-Err-Budget.ensures.err (rw c.in-Err-Budget.field-0-is at c.in-Err-Budget.ensures.fault)).applies

pub invariant_of-self-in-Err-Memory : goal.invariant_of-self-in-Err-Memory
invariant_of-self-in-Err-Memory g c =
    let keeps = g.met.S.Store.grows_keeps c.self.inside.kernel.store c.run_on.new.kernel.store c.run_on.ensures.grows in
    rw c.reserve.ensures.items (still_shared c.step_stays.ensures.known c.step_stays.ensures.same g.S.Store.trees _ c.run_on.new.kernel c.self.inside.shared
    c.self.invariant keeps c.in-Err-Memory.ensures.err)

pub returns-in-Err-Memory-clause-err : goal.returns-in-Err-Memory-clause-err
returns-in-Err-Memory-clause-err g c =
    let keeps = g.met.S.Store.grows_keeps c.self.inside.kernel.store c.run_on.new.kernel.store c.run_on.ensures.grows in
    rw (c.reserve.ensures.items, ← c.self.view_is) (same_state c.step_stays.ensures.known c.step_stays.ensures.same g.S.Store.trees _ c.run_on.new.kernel
    c.self.invariant.0 keeps c.in-Err-Memory.ensures.err)

pub invariant_of-self-in-Ok : goal.invariant_of-self-in-Ok
invariant_of-self-in-Ok g c =
    let known = c.step_stays.ensures.known in
    let same = c.step_stays.ensures.same in
    let trees = g.S.Store.trees in
    let there = is_goal trees c.self.inside.kernel c.args.goal c.goals_left.result c.goals_left.ensures.goals c.if-goal-eq0.false c.if-goal-goals_left.false in
    let keeps = g.met.S.Store.grows_keeps c.self.inside.kernel.store c.run_on.new.kernel.store c.run_on.ensures.grows in
    let t = tactic_at (trees c.self.inside.kernel.store) c.args.strategy.now in
    (ran_done known same trees g.R.Runner.becomes c.laws.ensures.taken c.laws.ensures.counted c.laws.ensures.failed _ c.self.inside.shared c.self.invariant
    c.args.goal t there c.run_on.new.kernel keeps
    c.in-Ok.more.steps.items c.append.new.self.items c.push.new.self.items c.mark-mark.result c.in-Ok.more.used c.in-Ok.more.count c.goals_left-in-Ok.result
    c.in-Ok-append.ensures.items (c.in-Ok-push.ensures.items ∙ ap (λ xs. xs ++ c.mark-mark.result ∷ []) c.reserve.ensures.items) c.mark-mark.ensures
    c.in-Ok.ensures.known c.in-Ok.ensures.done c.goals_left-in-Ok.ensures.goals).holds

pub returns-in-Ok-push-clause-applies : goal.returns-in-Ok-push-clause-applies
returns-in-Ok-push-clause-applies g c =
    let known = c.step_stays.ensures.known in
    let same = c.step_stays.ensures.same in
    let trees = g.S.Store.trees in
    let there = is_goal trees c.self.inside.kernel c.args.goal c.goals_left.result c.goals_left.ensures.goals c.if-goal-eq0.false c.if-goal-goals_left.false in
    let keeps = g.met.S.Store.grows_keeps c.self.inside.kernel.store c.run_on.new.kernel.store c.run_on.ensures.grows in
    let t = tactic_at (trees c.self.inside.kernel.store) c.args.strategy.now in
    rw (← c.self.view_is) (ran_done known same trees g.R.Runner.becomes c.laws.ensures.taken c.laws.ensures.counted c.laws.ensures.failed _
    c.self.inside.shared c.self.invariant c.args.goal t there c.run_on.new.kernel keeps
    c.in-Ok.more.steps.items c.append.new.self.items c.push.new.self.items c.mark-mark.result c.in-Ok.more.used c.in-Ok.more.count c.goals_left-in-Ok.result
    c.in-Ok-append.ensures.items (c.in-Ok-push.ensures.items ∙ ap (λ xs. xs ++ c.mark-mark.result ∷ []) c.reserve.ensures.items) c.mark-mark.ensures
    c.in-Ok.ensures.known c.in-Ok.ensures.done c.goals_left-in-Ok.ensures.goals).applies

pub invariant_of-self-in_default : goal.invariant_of-self-in_default
invariant_of-self-in_default g c =
    let trees = g.S.Store.trees in
    let old = c.self.inside.kernel in
    let keeps = subst (λ s. Keeps (trees old.store) (trees s)) (sym c.release.ensures.store)
    (g.met.S.Store.grows_keeps old.store c.run_on.new.kernel.store c.run_on.ensures.grows) in
    let rows = rows_back trees old c.run_on.new.kernel c.release.new.self c.mark-mark.result c.in-Ok.ensures.kept c.mark-mark.ensures c.release.ensures.rows
    c.release.ensures.store in
    rw (c.in_default.ensures.items, c.reserve.ensures.items) (still_shared c.step_stays.ensures.known c.step_stays.ensures.same trees _ c.release.new.self
    c.self.inside.shared c.self.invariant keeps rows)

pub returns-in_default-clause-err : goal.returns-in_default-clause-err
returns-in_default-clause-err g c =
    let trees = g.S.Store.trees in
    let old = c.self.inside.kernel in
    let keeps = subst (λ s. Keeps (trees old.store) (trees s)) (sym c.release.ensures.store)
    (g.met.S.Store.grows_keeps old.store c.run_on.new.kernel.store c.run_on.ensures.grows) in
    let rows = rows_back trees old c.run_on.new.kernel c.release.new.self c.mark-mark.result c.in-Ok.ensures.kept c.mark-mark.ensures c.release.ensures.rows
    c.release.ensures.store in
    rw (c.in_default.ensures.items, c.reserve.ensures.items, ← c.self.view_is)
    (same_state c.step_stays.ensures.known c.step_stays.ensures.same trees _ c.release.new.self
    c.self.invariant.0 keeps rows)
