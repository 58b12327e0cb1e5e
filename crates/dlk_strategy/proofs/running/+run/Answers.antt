use Rattle.std.proofs.Common.{rules, ◌≡◌, ◌+◌, ◌++◌, ℕ, List, length, drop, All, Option, None, Ok, Err, IfSome, ◌-◌, [], ◌∷◌, refl, sym, ap, subst, ◌∙◌, arith}
use Rattle.std.proofs.lemmas.Result.{err_from_is_err_and}
use Rattle.std.proofs.lemmas.List.Elements.{All-take}
use denote.Param.Weighed.{at_most, most}
use Rattle.dlk_tacsyn.proofs.tactic.Tactic.TheLaws.{the_size}
use Rattle.dlk_tacsyn.specs.Tactics.{Tactic as TreeTactic}
use Rattle.dlk_tacsyn.specs.Ties.{tactic_at}
use Rattle.dlk_strategy.specs.Runs.{Done, Runs, Again, Alternatives, Fate, Then, Each, InTurn, OnOwn, Branched, as_many, another_count, main_goals}
use Rattle.dlk_strategy.specs.Ties.{goals_of, now, tactics_of, IsRunnable, IsBack, Becomes, BecomesTried, IsBackOnNone, HasLeft, on_one}
use Rattle.dlk_strategy.proofs.States.{item_here, same_extends}
use Rattle.dlk_strategy.proofs.Trying.{back_known, back_now, back_then_back, back_extends}
use Rattle.dlk_strategy.proofs.Walking.{tactic_same, runnable_kept, choice_at, sequence_at, branch_at, choice_parts, sequence_parts, branch_parts, count_of}
use Rattle.dlk_strategy.proofs.Parts.{part_at, turn_next, turn_none as part_none, own_next, own_none, branched_err, runs_each}
use Rattle.dlk_strategy.proofs.Reached.{leads_as, taken_back, reached_on, reached_err, reached_end, reached_ready, extends_err, each_next, each_none}
use Rattle.dlk_strategy.proofs.Choosing.{item_of_take, choices_next, choices_last, choice_err, choice_done, choice_fails, choice_last, back_ready}
use Rattle.dlk_strategy.proofs.Repeating.{waits_init, waits_ready, waits_end, extends_here, turn_over, turn_none, turn_still, turn_some, turn_err}
use Rattle.dlk_strategy.proofs.running.+run.Goals as goal
use Rattle.dlk_store.specs.Stores.{Keeps}
use Rattle.dlk_calculus.specs.Provables.{Provable}
use Rattle.dlk_tacsyn.specs.Tactics as the
use Rattle.dlk_library.proofs.Depths.{size_choice, size_sequence, size_branch}
use Rattle.dlk_kernel.proofs.RowsKept.{rows_longer}

pub choose-attempt-requires : goal.choose-attempt-requires
choose-attempt-requires g t c κs within =
    let trees = g.S.Store.trees in
    let old = c.args.kernel.now in
    let mid = c.loop-t.kernel in
    let keeps = g.met.S.Store.grows_keeps old.store mid.store c.loop-t.invariant.grows in
    let ready = back_ready trees old c.args.trace.now mid c.loop-t.trace c.args.goal 1 keeps c.requires.ready c.loop-t.invariant.back in
    let part = part_at (trees old.store) _ c.loop-t.t-index c.t-item.result (All-take (IsRunnable (trees old.store)) _ c.args.parts.now c.requires.runnable)
    c.loop-t-test.true c.t-item.is in
    let at = item_of_take _ c.args.parts.now c.loop-t.t-index c.t-item.result c.loop-t-test.true c.t-item.is in (
      omega (arith, at_most the_size c.args.parts.now c.loop-t.t-index c.t-item.result at.0, ap the_size at.1, c.decreases),
      (search rules, (search rules, (ready, runnable_kept (trees old.store) (trees mid.store) keeps c.t-item.result part))),
    )

pub choose-returns-in_err-left-clause-fate : goal.choose-returns-in_err-left-clause-fate
choose-returns-in_err-left-clause-fate g t c =
    let trees = g.S.Store.trees in
    let old = c.args.kernel.now in
    let mid = c.loop-t.kernel in
    let goal = c.args.goal in
    let keeps = g.met.S.Store.grows_keeps old.store mid.store c.loop-t.invariant.grows in
    let part = part_at (trees old.store) _ c.loop-t.t-index c.t-item.result (All-take (IsRunnable (trees old.store)) _ c.args.parts.now c.requires.runnable)
    c.loop-t-test.true c.t-item.is in
    let same = tactic_same (trees old.store) (trees mid.store) keeps c.t-item.result part.known in
    let is = choices_next (trees old.store) _ c.loop-t.t-index c.t-item.result c.last-item.result goal
    (item_here _ c.loop-t.t-index c.t-item.result c.loop-t-test.true c.t-item.is) in
    let first = now trees old c.args.trace.now in
    let here = now trees mid c.loop-t.trace in
    let after = now trees c.attempt.new.kernel c.attempt.new.trace in
    let e = err_from_is_err_and c.from_residual.result c.from_residual.ensures.1 in
    let becomes = subst (λ (a : TreeTactic). BecomesTried (Runs a 1 goal) here after (Err c.in_err-left.field-0.0)) same c.in_err-left.ensures.fate in
    rw (e.1, e.2) (choice_err first here after (Alternatives (tactics_of (g.S.Store.trees c.args.kernel.now.store) c.args.parts.now) c.args.goal) _ _ _
    c.in_err-left.field-0.0 c.loop-t.invariant.leads is becomes)

pub choose-returns-in_err-left-clause-grows : goal.choose-returns-in_err-left-clause-grows
choose-returns-in_err-left-clause-grows g t c =
    g.met.S.Store.grows_trans c.args.kernel.now.store c.loop-t.kernel.store c.attempt.new.kernel.store c.loop-t.invariant.grows c.attempt.ensures.grows

pub choose-returns-in-Some-clause-fate : goal.choose-returns-in-Some-clause-fate
choose-returns-in-Some-clause-fate g t c =
    let trees = g.S.Store.trees in
    let old = c.args.kernel.now in
    let mid = c.loop-t.kernel in
    let goal = c.args.goal in
    let keeps = g.met.S.Store.grows_keeps old.store mid.store c.loop-t.invariant.grows in
    let part = part_at (trees old.store) _ c.loop-t.t-index c.t-item.result (All-take (IsRunnable (trees old.store)) _ c.args.parts.now c.requires.runnable)
    c.loop-t-test.true c.t-item.is in
    let same = tactic_same (trees old.store) (trees mid.store) keeps c.t-item.result part.known in
    let is = choices_next (trees old.store) _ c.loop-t.t-index c.t-item.result c.last-item.result goal
    (item_here _ c.loop-t.t-index c.t-item.result c.loop-t-test.true c.t-item.is) in
    let first = now trees old c.args.trace.now in
    let here = now trees mid c.loop-t.trace in
    let after = now trees c.attempt.new.kernel c.attempt.new.trace in
    let becomes = subst (λ (a : TreeTactic). BecomesTried (Runs a 1 goal) here after (Ok c.in_ok-left.field-0)) same c.in_ok-left.ensures.fate in
    let made = subst (λ (o : Option ℕ). BecomesTried (Runs (tactic_at (trees old.store) c.t-item.result) 1 goal) here after (Ok o)) c.in-Some.is becomes in
    choice_done first here after (Alternatives (tactics_of (g.S.Store.trees c.args.kernel.now.store) c.args.parts.now) c.args.goal) _ _ _ c.in-Some.left
    c.loop-t.invariant.leads is made

pub choose-returns-in-Some-clause-grows : goal.choose-returns-in-Some-clause-grows
choose-returns-in-Some-clause-grows g t c =
    g.met.S.Store.grows_trans c.args.kernel.now.store c.loop-t.kernel.store c.attempt.new.kernel.store c.loop-t.invariant.grows c.attempt.ensures.grows

pub choose-loop-t-preserved : goal.choose-loop-t-preserved
choose-loop-t-preserved g t c =
    let trees = g.S.Store.trees in
    let old = c.args.kernel.now in
    let mid = c.loop-t.kernel in
    let goal = c.args.goal in
    let keeps = g.met.S.Store.grows_keeps old.store mid.store c.loop-t.invariant.grows in
    let further = g.met.S.Store.grows_keeps mid.store c.attempt.new.kernel.store c.attempt.ensures.grows in
    let part = part_at (trees old.store) _ c.loop-t.t-index c.t-item.result (All-take (IsRunnable (trees old.store)) _ c.args.parts.now c.requires.runnable)
    c.loop-t-test.true c.t-item.is in
    let same = tactic_same (trees old.store) (trees mid.store) keeps c.t-item.result part.known in
    let is = choices_next (trees old.store) _ c.loop-t.t-index c.t-item.result c.last-item.result goal
    (item_here _ c.loop-t.t-index c.t-item.result c.loop-t-test.true c.t-item.is) in
    let first = now trees old c.args.trace.now in
    let here = now trees mid c.loop-t.trace in
    let after = now trees c.attempt.new.kernel c.attempt.new.trace in
    let none : c.in_ok-left.field-0 ≡ None = search rules in
    let becomes = subst (λ (a : TreeTactic). BecomesTried (Runs a 1 goal) here after (Ok c.in_ok-left.field-0)) same c.in_ok-left.ensures.fate in
    let back = subst (λ (o : Option ℕ). IsBackOnNone (IsBack trees mid c.loop-t.trace c.attempt.new.kernel c.attempt.new.trace) (Ok o)) none
    c.in_ok-left.ensures.back in
    let known = back_known trees old c.args.trace.now mid c.loop-t.trace keeps c.requires.ready.known c.loop-t.invariant.back in
    record {
      grows = g.met.S.Store.grows_trans old.store mid.store c.attempt.new.kernel.store c.loop-t.invariant.grows c.attempt.ensures.grows;
      back = back_then_back trees old c.args.trace.now mid c.loop-t.trace c.attempt.new.kernel c.attempt.new.trace c.loop-t.invariant.back back;
      leads = choice_fails first here after (Alternatives (tactics_of (g.S.Store.trees c.args.kernel.now.store) c.args.parts.now) c.args.goal) _ _ _
          c.in_ok-left.field-0 c.loop-t.invariant.leads is none becomes
          (back_now trees mid c.loop-t.trace c.attempt.new.kernel c.attempt.new.trace further known back);
    }

pub choose-run_goals-requires : goal.choose-run_goals-requires
choose-run_goals-requires g t c κs within =
    let trees = g.S.Store.trees in
    let old = c.args.kernel.now in
    let mid = c.loop-t.kernel in
    let keeps = g.met.S.Store.grows_keeps old.store mid.store c.loop-t.invariant.grows in
    let ready = back_ready trees old c.args.trace.now mid c.loop-t.trace c.args.goal 1 keeps c.requires.ready c.loop-t.invariant.back in
    let part = part_at (trees old.store) c.args.parts.now _ c.last-item.result c.requires.runnable
    (omega (arith, c.in-len1-up.len_at_least)) c.last-item.is in (
      omega (
        arith,
        at_most the_size c.args.parts.now (length c.args.parts.now - 1) c.last-item.result (omega (arith, c.in-len1-up.len_at_least)),
        ap the_size c.last-item.is,
        c.decreases,
      ),
      (search rules, (search rules, (ready, runnable_kept (trees old.store) (trees mid.store) keeps c.last-item.result part))),
    )

pub choose-returns-clause-fate : goal.choose-returns-clause-fate
choose-returns-clause-fate g t c =
    let trees = g.S.Store.trees in
    let old = c.args.kernel.now in
    let mid = c.loop-t.kernel in
    let keeps = g.met.S.Store.grows_keeps old.store mid.store c.loop-t.invariant.grows in
    let part = part_at (trees old.store) c.args.parts.now _ c.last-item.result c.requires.runnable (omega (arith, c.in-len1-up.len_at_least)) c.last-item.is in
    let same = tactic_same (trees old.store) (trees mid.store) keeps c.last-item.result part.known in
    let fate = Runs (tactic_at (trees old.store) c.last-item.result) 1 c.args.goal in
    let first = now trees old c.args.trace.now in
    let here = now trees mid c.loop-t.trace in
    let after = now trees c.run_goals.new.kernel c.run_goals.new.trace in
    let becomes = subst (λ (a : TreeTactic). Becomes (Runs a 1 c.args.goal) here after c.run_goals.result) same c.run_goals.ensures.fate in
    choice_last first here after (Alternatives (tactics_of (g.S.Store.trees c.args.kernel.now.store) c.args.parts.now) c.args.goal) fate fate
    c.run_goals.result (leads_as (Alternatives (tactics_of (g.S.Store.trees c.args.kernel.now.store) c.args.parts.now) c.args.goal) _ fate first here
    (choices_last (trees old.store) _ c.loop-t.t-index c.last-item.result c.args.goal c.loop-t-test.false) c.loop-t.invariant.leads) becomes

pub repeat-loop-turns-init : goal.repeat-loop-turns-init
repeat-loop-turns-init g t c =
    let trees = g.S.Store.trees in
    let old = c.args.kernel.now in
    let items : c.push.new.self.items ≡ c.args.times ∷ [] = search rules in
    record {
      grows = g.met.S.Store.grows_refl old.store;
      reached = waits_init trees old c.args.trace.now c.args.goal c.args.times c.push.new.self.items (Runs (tactic_at (trees old.store) c.args.body.now) 1)
          c.requires.ready items;
    }

pub repeat-loop-turns-preserved-then-turns-eq0 : goal.repeat-loop-turns-preserved-then-turns-eq0
repeat-loop-turns-preserved-then-turns-eq0 g t c =
    let trees = g.S.Store.trees in
    let old = c.args.kernel.now in
    let mid = c.loop-turns.kernel in
    let run = Runs (tactic_at (trees old.store) c.args.body.now) 1 in
    let items : c.loop-turns.waiting.items ≡ c.pop.new.self.items ++ c.in-Some.turns ∷ [] = search rules in
    let here = now trees mid c.loop-turns.trace in
    let made = subst (λ n. Again run n (c.args.goal + c.loop-turns.left) here (Done here 1)) (sym c.if-turns-eq0.true) refl in
    let same = extends_here trees old c.args.trace.now mid c.loop-turns.trace c.loop-turns.invariant.reached.extends in
    record {
      grows = c.loop-turns.invariant.grows;
      reached = turn_over trees old c.args.trace.now mid c.loop-turns.trace mid c.loop-turns.trace c.loop-turns.waiting.items c.pop.new.self.items
          c.in-Some.turns c.args.goal c.loop-turns.left
          (Again run c.args.times c.args.goal) run c.loop-turns.invariant.reached items made same refl;
    }

pub repeat-attempt-requires : goal.repeat-attempt-requires
repeat-attempt-requires g t c κs within =
    let trees = g.S.Store.trees in
    let old = c.args.kernel.now in
    let mid = c.loop-turns.kernel in
    let keeps = g.met.S.Store.grows_keeps old.store mid.store c.loop-turns.invariant.grows in
    let items : c.loop-turns.waiting.items ≡ c.pop.new.self.items ++ c.in-Some.turns ∷ [] = search rules in
    let run = Runs (tactic_at (trees old.store) c.args.body.now) 1 in
    let ready = waits_ready trees old c.args.trace.now mid c.loop-turns.trace c.loop-turns.waiting.items c.pop.new.self.items c.in-Some.turns c.args.goal
    c.loop-turns.left
    (Again run c.args.times c.args.goal) run c.requires.ready c.loop-turns.invariant.reached items in
    (search rules, (search rules, (search rules, (ready, runnable_kept (trees old.store) (trees mid.store) keeps c.args.body.now c.requires.runnable))))

pub repeat-returns-in_err-attempt-clause-fate : goal.repeat-returns-in_err-attempt-clause-fate
repeat-returns-in_err-attempt-clause-fate g t c =
    let trees = g.S.Store.trees in
    let old = c.args.kernel.now in
    let mid = c.loop-turns.kernel in
    let keeps = g.met.S.Store.grows_keeps old.store mid.store c.loop-turns.invariant.grows in
    let same = tactic_same (trees old.store) (trees mid.store) keeps c.args.body.now c.requires.runnable.known in
    let items : c.loop-turns.waiting.items ≡ c.pop.new.self.items ++ c.in-Some.turns ∷ [] = search rules in
    let run = Runs (tactic_at (trees old.store) c.args.body.now) 1 in
    let here = now trees mid c.loop-turns.trace in
    let after = now trees c.attempt.new.kernel c.attempt.new.trace in
    let e = err_from_is_err_and c.from_residual-in_err-attempt.result c.from_residual-in_err-attempt.ensures.1 in
    let becomes = subst (λ (a : TreeTactic). BecomesTried (Runs a 1 (c.args.goal + c.loop-turns.left)) here after (Err c.in_err-attempt.field-0.0)) same
    c.in_err-attempt.ensures.fate in
    rw (e.1, e.2) (turn_err trees old c.args.trace.now mid c.loop-turns.trace c.attempt.new.kernel c.attempt.new.trace c.loop-turns.waiting.items
    c.pop.new.self.items c.in-Some.turns c.args.goal
    c.loop-turns.left (Again run c.args.times c.args.goal) run c.in_err-attempt.field-0.0 c.loop-turns.invariant.reached items c.if-turns-eq0.false becomes)

pub repeat-loop-turns-preserved-in-None : goal.repeat-loop-turns-preserved-in-None
repeat-loop-turns-preserved-in-None g t c =
    let trees = g.S.Store.trees in
    let old = c.args.kernel.now in
    let mid = c.loop-turns.kernel in
    let keeps = g.met.S.Store.grows_keeps old.store mid.store c.loop-turns.invariant.grows in
    let further = g.met.S.Store.grows_keeps mid.store c.attempt.new.kernel.store c.attempt.ensures.grows in
    let same = tactic_same (trees old.store) (trees mid.store) keeps c.args.body.now c.requires.runnable.known in
    let items : c.loop-turns.waiting.items ≡ c.pop.new.self.items ++ c.in-Some.turns ∷ [] = search rules in
    let run = Runs (tactic_at (trees old.store) c.args.body.now) 1 in
    let here = now trees mid c.loop-turns.trace in
    let after = now trees c.attempt.new.kernel c.attempt.new.trace in
    let becomes = subst (λ (a : TreeTactic). BecomesTried (Runs a 1 (c.args.goal + c.loop-turns.left)) here after (Ok c.in_ok-attempt.field-0)) same
    c.in_ok-attempt.ensures.fate in
    record {
      grows = g.met.S.Store.grows_trans old.store mid.store c.attempt.new.kernel.store c.loop-turns.invariant.grows c.attempt.ensures.grows;
      reached = turn_none trees old c.args.trace.now mid c.loop-turns.trace c.attempt.new.kernel c.attempt.new.trace c.loop-turns.waiting.items
          c.pop.new.self.items c.in-Some.turns c.args.goal
          c.loop-turns.left (Again run c.args.times c.args.goal) run c.in_ok-attempt.field-0 further c.loop-turns.invariant.reached items c.if-turns-eq0.false
          c.in-None.is becomes c.in_ok-attempt.ensures.back;
    }

pub repeat-loop-turns-preserved-then-trace-used : goal.repeat-loop-turns-preserved-then-trace-used
repeat-loop-turns-preserved-then-trace-used g t c =
    let trees = g.S.Store.trees in
    let old = c.args.kernel.now in
    let mid = c.loop-turns.kernel in
    let keeps = g.met.S.Store.grows_keeps old.store mid.store c.loop-turns.invariant.grows in
    let same = tactic_same (trees old.store) (trees mid.store) keeps c.args.body.now c.requires.runnable.known in
    let items : c.loop-turns.waiting.items ≡ c.pop.new.self.items ++ c.in-Some.turns ∷ [] = search rules in
    let tactic = tactic_at (trees old.store) c.args.body.now in
    let new = c.in-Some-2.new in
    let here = now trees mid c.loop-turns.trace in
    let after = now trees c.attempt.new.kernel c.attempt.new.trace in
    let becomes = subst (λ (a : TreeTactic). BecomesTried (Runs a 1 (c.args.goal + c.loop-turns.left)) here after (Ok c.in_ok-attempt.field-0)) same
    c.in_ok-attempt.ensures.fate in
    let made = subst (λ (o : Option ℕ). BecomesTried (Runs tactic 1 (c.args.goal + c.loop-turns.left)) here after (Ok o)) c.in-Some-2.is becomes in
    let has = subst (λ (o : Option ℕ). IfSome o (HasLeft (goals_of trees mid) 1 (goals_of trees c.attempt.new.kernel))) c.in-Some-2.is
    c.in_ok-attempt.ensures.left in
    record {
      grows = g.met.S.Store.grows_trans old.store mid.store c.attempt.new.kernel.store c.loop-turns.invariant.grows c.attempt.ensures.grows;
      reached = turn_still trees old c.args.trace.now mid c.loop-turns.trace c.attempt.new.kernel c.attempt.new.trace c.loop-turns.waiting.items
          c.pop.new.self.items c.in-Some.turns c.args.goal
          c.loop-turns.left new (Again (Runs tactic 1) c.args.times c.args.goal) tactic c.loop-turns.invariant.reached items made
          c.in_ok-attempt.ensures.extends has c.if-trace-used.true;
    }

pub repeat-loop-turns-preserved : goal.repeat-loop-turns-preserved
repeat-loop-turns-preserved g t c =
    let trees = g.S.Store.trees in
    let old = c.args.kernel.now in
    let mid = c.loop-turns.kernel in
    let keeps = g.met.S.Store.grows_keeps old.store mid.store c.loop-turns.invariant.grows in
    let same = tactic_same (trees old.store) (trees mid.store) keeps c.args.body.now c.requires.runnable.known in
    let items : c.loop-turns.waiting.items ≡ c.pop.new.self.items ++ c.in-Some.turns ∷ [] = search rules in
    let tactic = tactic_at (trees old.store) c.args.body.now in
    let new = c.in-Some-2.new in
    let here = now trees mid c.loop-turns.trace in
    let after = now trees c.attempt.new.kernel c.attempt.new.trace in
    let becomes = subst (λ (a : TreeTactic). BecomesTried (Runs a 1 (c.args.goal + c.loop-turns.left)) here after (Ok c.in_ok-attempt.field-0)) same
    c.in_ok-attempt.ensures.fate in
    let made = subst (λ (o : Option ℕ). BecomesTried (Runs tactic 1 (c.args.goal + c.loop-turns.left)) here after (Ok o)) c.in-Some-2.is becomes in
    let has = subst (λ (o : Option ℕ). IfSome o (HasLeft (goals_of trees mid) 1 (goals_of trees c.attempt.new.kernel))) c.in-Some-2.is
    c.in_ok-attempt.ensures.left in
    record {
      grows = g.met.S.Store.grows_trans old.store mid.store c.attempt.new.kernel.store c.loop-turns.invariant.grows c.attempt.ensures.grows;
      reached = turn_some trees old c.args.trace.now mid c.loop-turns.trace c.attempt.new.kernel c.attempt.new.trace c.loop-turns.waiting.items
          c.pop.new.self.items c.wait.new.waiting.items c.in-Some.turns
          c.args.goal c.loop-turns.left new (Again (Runs tactic 1) c.args.times c.args.goal) (Runs tactic 1) c.loop-turns.invariant.reached items
          c.if-turns-eq0.false made
          c.in_ok-attempt.ensures.extends has c.in_ok-attempt.ensures.few c.in_ok-wait-in-Some-2.ensures;
    }

pub repeat-returns-clause-fate : goal.repeat-returns-clause-fate
repeat-returns-clause-fate g t c =
    let trees = g.S.Store.trees in
    let old = c.args.kernel.now in
    let run = Runs (tactic_at (trees old.store) c.args.body.now) 1 in
    let none : c.loop-turns.waiting.items ≡ [] = search rules in
    waits_end trees old c.args.trace.now c.loop-turns.kernel c.loop-turns.trace c.loop-turns.waiting.items c.args.goal c.loop-turns.left
    (Again run c.args.times c.args.goal) run
    c.loop-turns.invariant.reached none

pub attempt-returns-in-Err-Fails-clause-back : goal.attempt-returns-in-Err-Fails-clause-back
attempt-returns-in-Err-Fails-clause-back g t c =
    let trees = g.S.Store.trees in
    taken_back trees c.args.kernel.now c.args.trace.now c.run_goals.new.kernel c.run_goals.new.trace c.take_back.new.kernel c.take_back.new.trace
    c.mark-rows.result c.len-recorded.result
    (rw c.in-Err-Fails.field-0-is at c.in-Err-Fails.ensures.extends) c.mark-rows.ensures (c.len-recorded.ensures ∙ c.args.trace.now.steps.ok.0)
    c.take_back.ensures.rows c.take_back.ensures.store c.take_back.ensures.steps c.take_back.ensures.used

pub attempt-returns-in-Err-Fails-clause-extends : goal.attempt-returns-in-Err-Fails-clause-extends
attempt-returns-in-Err-Fails-clause-extends g t c =
    let trees = g.S.Store.trees in
    let old = c.args.kernel.now in
    let mid = c.run_goals.new.kernel in
    let keeps = subst (λ s. Keeps (trees old.store) (trees s)) (sym c.take_back.ensures.store)
    (g.met.S.Store.grows_keeps old.store mid.store c.run_goals.ensures.grows) in
    back_extends trees old c.args.trace.now c.take_back.new.kernel c.take_back.new.trace keeps c.requires.ready.known
    (attempt-returns-in-Err-Fails-clause-back g t c)

pub attempt-returns-in-Err-Fails-clause-rows : goal.attempt-returns-in-Err-Fails-clause-rows
attempt-returns-in-Err-Fails-clause-rows g t c =
    same_extends g.S.Store.trees c.args.kernel.now c.take_back.new.kernel (attempt-returns-in-Err-Fails-clause-back g t c).rows

pub attempt-returns-in-Err-Fails-clause-few : goal.attempt-returns-in-Err-Fails-clause-few
attempt-returns-in-Err-Fails-clause-few g t c =
    let same = ap (λ (rows : List Provable). length (main_goals rows)) (attempt-returns-in-Err-Fails-clause-back g t c).rows.provables in
    omega (arith, c.requires.ready.few, same)

pub branch-returns-then-parts-goals-clause-fate : goal.branch-returns-then-parts-goals-clause-fate
branch-returns-then-parts-goals-clause-fate g t c = another_count (λ e. c.if-parts-goals.true (sym e))

pub branch-run_goals-requires : goal.branch-run_goals-requires
branch-run_goals-requires g t c κs within =
    let trees = g.S.Store.trees in
    let old = c.args.kernel.now in
    let items = c.args.parts.now in
    let i = c.loop-t.t-index in
    let mid = c.loop-t.kernel in
    let keeps = g.met.S.Store.grows_keeps old.store mid.store c.loop-t.invariant.grows in
    let part = part_at (trees old.store) items i c.t-item.result c.requires.runnable c.loop-t-test.true c.t-item.is in
    let ready = reached_ready trees old c.args.trace.now mid c.loop-t.trace i c.loop-t.left _ _ (c.args.goal + c.loop-t.left) 1 c.loop-t.invariant.reached
    (omega (arith, c.requires.ready.first)) (omega (arith, c.requires.ready.room, c.loop-t-test.true, c.if-parts-goals.false)) in (
      omega (arith, at_most the_size items i c.t-item.result c.loop-t-test.true, ap the_size c.t-item.is, c.decreases),
      (search rules, (search rules, (ready, runnable_kept (trees old.store) (trees mid.store) keeps c.t-item.result part))),
    )

pub branch-returns-in_err-left-clause-fate : goal.branch-returns-in_err-left-clause-fate
branch-returns-in_err-left-clause-fate g t c =
    let trees = g.S.Store.trees in
    let old = c.args.kernel.now in
    let items = c.args.parts.now in
    let i = c.loop-t.t-index in
    let mid = c.loop-t.kernel in
    let keeps = g.met.S.Store.grows_keeps old.store mid.store c.loop-t.invariant.grows in
    let here : drop i items ≡ c.t-item.result ∷ drop (i + 1) items = item_here items i c.t-item.result c.loop-t-test.true c.t-item.is in
    let part = part_at (trees old.store) items i c.t-item.result c.requires.runnable c.loop-t-test.true c.t-item.is in
    let same = tactic_same (trees old.store) (trees mid.store) keeps c.t-item.result part.known in
    let all = OnOwn (tactics_of (trees old.store) items) c.args.goal 0 in
    let is = own_next (trees old.store) items c.t-item.result i c.args.goal c.loop-t.left here in
    let e = err_from_is_err_and c.from_residual.result c.from_residual.ensures.1 in
    let becomes = subst (λ (a : TreeTactic).
    Becomes (Runs a 1 (c.args.goal + c.loop-t.left)) (now trees mid c.loop-t.trace) (now trees c.run_goals.new.kernel c.run_goals.new.trace)
    (Err c.in_err-left.field-0.0)) same c.in_err-left.ensures.fate in
    let over = reached_err trees old c.args.trace.now mid c.loop-t.trace c.run_goals.new.kernel c.run_goals.new.trace i c.loop-t.left _ _ _ _
    c.in_err-left.field-0.0 c.loop-t.invariant.reached is becomes in
    rw (e.1, e.2) (branched_err c.args.at (length items) c.args.goals all (now trees old c.args.trace.now)
    (now trees c.run_goals.new.kernel c.run_goals.new.trace) c.in_err-left.field-0.0 (sym c.if-parts-goals.false) over)

pub branch-loop-t-preserved : goal.branch-loop-t-preserved
branch-loop-t-preserved g t c =
    let trees = g.S.Store.trees in
    let old = c.args.kernel.now in
    let items = c.args.parts.now in
    let i = c.loop-t.t-index in
    let mid = c.loop-t.kernel in
    let keeps = g.met.S.Store.grows_keeps old.store mid.store c.loop-t.invariant.grows in
    let here : drop i items ≡ c.t-item.result ∷ drop (i + 1) items = item_here items i c.t-item.result c.loop-t-test.true c.t-item.is in
    let part = part_at (trees old.store) items i c.t-item.result c.requires.runnable c.loop-t-test.true c.t-item.is in
    let same = tactic_same (trees old.store) (trees mid.store) keeps c.t-item.result part.known in
    let next : ℕ → Fate = λ new. OnOwn (tactics_of (trees old.store) (drop (i + 1) items)) c.args.goal (c.loop-t.left + new) in
    let is = own_next (trees old.store) items c.t-item.result i c.args.goal c.loop-t.left here in
    let new = c.in_ok-left.field-0 in
    let made = subst (λ (a : TreeTactic). Runs a 1 (c.args.goal + c.loop-t.left) (now trees mid c.loop-t.trace)
    (Done (now trees c.run_goals.new.kernel c.run_goals.new.trace) new)) same c.in_ok-left.ensures.fate in
    record {
      grows = g.met.S.Store.grows_trans old.store mid.store c.run_goals.new.kernel.store c.loop-t.invariant.grows c.run_goals.ensures.grows;
      reached = reached_on trees old c.args.trace.now mid c.loop-t.trace c.run_goals.new.kernel c.run_goals.new.trace i c.loop-t.left (i + 1)
          (c.loop-t.left + new) 1 new _ _ _ next
          c.loop-t.invariant.reached is made c.in_ok-left.ensures.extends c.in_ok-left.ensures.left c.in_ok-left.ensures.few (omega arith);
    }

pub branch-returns-clause-fate : goal.branch-returns-clause-fate
branch-returns-clause-fate g t c =
    let trees = g.S.Store.trees in
    let old = c.args.kernel.now in
    let items = c.args.parts.now in
    let i = c.loop-t.t-index in
    let mid = c.loop-t.kernel in
    as_many (sym c.if-parts-goals.false) (reached_end trees old c.args.trace.now mid c.loop-t.trace i c.loop-t.left _ _ c.loop-t.invariant.reached
    (own_none (trees old.store) items i c.args.goal c.loop-t.left c.loop-t-test.false))

pub in_turn-run_goals-requires : goal.in_turn-run_goals-requires
in_turn-run_goals-requires g t c κs within =
    let trees = g.S.Store.trees in
    let old = c.args.kernel.now in
    let items = c.args.parts.now in
    let i = c.loop-t.t-index in
    let mid = c.loop-t.kernel in
    let keeps = g.met.S.Store.grows_keeps old.store mid.store c.loop-t.invariant.grows in
    let part = part_at (trees old.store) items i c.t-item.result c.requires.runnable c.loop-t-test.true c.t-item.is in
    let ready = reached_ready trees old c.args.trace.now mid c.loop-t.trace 1 c.loop-t.goals _ _ c.args.goal c.loop-t.goals c.loop-t.invariant.reached
    c.requires.ready.first (omega (arith, c.requires.ready.room)) in (
      omega (arith, at_most the_size items i c.t-item.result c.loop-t-test.true, ap the_size c.t-item.is, c.decreases),
      (search rules, (search rules, (ready, runnable_kept (trees old.store) (trees mid.store) keeps c.t-item.result part))),
    )

pub in_turn-returns-in_err-goals-clause-fate : goal.in_turn-returns-in_err-goals-clause-fate
in_turn-returns-in_err-goals-clause-fate g t c =
    let trees = g.S.Store.trees in
    let old = c.args.kernel.now in
    let items = c.args.parts.now in
    let i = c.loop-t.t-index in
    let mid = c.loop-t.kernel in
    let keeps = g.met.S.Store.grows_keeps old.store mid.store c.loop-t.invariant.grows in
    let here : drop i items ≡ c.t-item.result ∷ drop (i + 1) items = item_here items i c.t-item.result c.loop-t-test.true c.t-item.is in
    let part = part_at (trees old.store) items i c.t-item.result c.requires.runnable c.loop-t-test.true c.t-item.is in
    let same = tactic_same (trees old.store) (trees mid.store) keeps c.t-item.result part.known in
    let is = turn_next (trees old.store) items c.t-item.result i c.loop-t.goals c.args.goal here in
    let e = err_from_is_err_and c.from_residual.result c.from_residual.ensures.1 in
    let becomes = subst (λ (a : TreeTactic).
    Becomes (Runs a c.loop-t.goals c.args.goal) (now trees mid c.loop-t.trace) (now trees c.run_goals.new.kernel c.run_goals.new.trace)
    (Err c.in_err-goals.field-0.0)) same c.in_err-goals.ensures.fate in
    rw (e.1, e.2) (reached_err trees old c.args.trace.now mid c.loop-t.trace c.run_goals.new.kernel c.run_goals.new.trace 1 c.loop-t.goals _ _ _ _
    c.in_err-goals.field-0.0 c.loop-t.invariant.reached is becomes)

pub in_turn-loop-t-preserved : goal.in_turn-loop-t-preserved
in_turn-loop-t-preserved g t c =
    let trees = g.S.Store.trees in
    let old = c.args.kernel.now in
    let items = c.args.parts.now in
    let i = c.loop-t.t-index in
    let mid = c.loop-t.kernel in
    let keeps = g.met.S.Store.grows_keeps old.store mid.store c.loop-t.invariant.grows in
    let here : drop i items ≡ c.t-item.result ∷ drop (i + 1) items = item_here items i c.t-item.result c.loop-t-test.true c.t-item.is in
    let part = part_at (trees old.store) items i c.t-item.result c.requires.runnable c.loop-t-test.true c.t-item.is in
    let same = tactic_same (trees old.store) (trees mid.store) keeps c.t-item.result part.known in
    let next : ℕ → Fate = λ left. InTurn (tactics_of (trees old.store) (drop (i + 1) items)) left c.args.goal in
    let is = turn_next (trees old.store) items c.t-item.result i c.loop-t.goals c.args.goal here in
    let new = c.in_ok-goals.goals in
    let made = subst (λ (a : TreeTactic). Runs a c.loop-t.goals c.args.goal (now trees mid c.loop-t.trace)
    (Done (now trees c.run_goals.new.kernel c.run_goals.new.trace) new)) same c.in_ok-goals.ensures.fate in
    record {
      grows = g.met.S.Store.grows_trans old.store mid.store c.run_goals.new.kernel.store c.loop-t.invariant.grows c.run_goals.ensures.grows;
      reached = reached_on trees old c.args.trace.now mid c.loop-t.trace c.run_goals.new.kernel c.run_goals.new.trace 1 c.loop-t.goals 1 new c.loop-t.goals new
          _ _ _ next
          c.loop-t.invariant.reached is made c.in_ok-goals.ensures.extends c.in_ok-goals.ensures.left c.in_ok-goals.ensures.few (omega arith);
    }

pub in_turn-returns-clause-fate : goal.in_turn-returns-clause-fate
in_turn-returns-clause-fate g t c =
    let trees = g.S.Store.trees in
    let old = c.args.kernel.now in
    let items = c.args.parts.now in
    let i = c.loop-t.t-index in
    let mid = c.loop-t.kernel in
    reached_end trees old c.args.trace.now mid c.loop-t.trace 1 c.loop-t.goals _ _ c.loop-t.invariant.reached
    (part_none (trees old.store) items i c.loop-t.goals c.args.goal c.loop-t-test.false)

pub run_goals-branch-alloc-requires : goal.run_goals-branch-alloc-requires
run_goals-branch-alloc-requires g t c κs within =
    let trees = g.S.Store.trees c.args.kernel.now.store in
    let parts = subst (All (IsRunnable trees)) (sym c.as_slice.ensures.value)
    (branch_parts trees c.in-Branch.at c.in-Branch.parts (subst (IsRunnable trees) c.in-Branch.is c.requires.runnable)) in (
      omega (arith, size_branch c.in-Branch.at c.in-Branch.parts, ap the_size c.in-Branch.is, ap (most the_size) c.as_slice.ensures.value, c.decreases),
      (search rules, (search rules, (c.requires.ready, parts))),
    )

pub run_goals-returns-in-Branch-clause-fate : goal.run_goals-returns-in-Branch-clause-fate
run_goals-returns-in-Branch-clause-fate g t c =
    let trees = g.S.Store.trees c.args.kernel.now.store in
    let same = ap (tactic_at trees) c.in-Branch.is ∙ branch_at trees c.in-Branch.at c.in-Branch.parts
    ∙ ap (λ xs. the.Branch c.in-Branch.at (tactics_of trees xs)) (sym c.as_slice.ensures.value) in
    let counted = subst (λ (n : ℕ). Becomes (Branched c.in-Branch.at n c.args.goals (OnOwn (tactics_of trees c.as_slice.result.now) c.args.goal 0))
    (now g.S.Store.trees c.args.kernel.now c.args.trace.now)
    (now g.S.Store.trees c.branch-alloc.new.kernel c.branch-alloc.new.trace) c.branch-alloc.result) (sym (count_of trees c.as_slice.result.now))
    c.branch-alloc.ensures.fate in
    subst (λ (a : TreeTactic). Becomes (Runs a c.args.goals c.args.goal) (now g.S.Store.trees c.args.kernel.now c.args.trace.now)
    (now g.S.Store.trees c.branch-alloc.new.kernel c.branch-alloc.new.trace) c.branch-alloc.result) (sym same) counted

pub run_goals-run_one-requires : goal.run_goals-run_one-requires
run_goals-run_one-requires g t c κs within =
    let trees = g.S.Store.trees in
    let old = c.args.kernel.now in
    let i = c.loop.counter in
    let mid = c.loop.kernel in
    let keeps = g.met.S.Store.grows_keeps old.store mid.store c.loop.invariant.grows in
    let ready = reached_ready trees old c.args.trace.now mid c.loop.trace i c.loop.left _ _ (c.args.goal + c.loop.left) 1 c.loop.invariant.reached
    (omega (arith, c.requires.ready.first)) (omega (arith, c.requires.ready.room, c.loop-test.true)) in
    (search rules, (search rules, (search rules, (ready, runnable_kept (trees old.store) (trees mid.store) keeps c.args.t.now c.requires.runnable))))

pub run_goals-returns-in_err-left : goal.run_goals-returns-in_err-left
run_goals-returns-in_err-left g t c =
    let trees = g.S.Store.trees in
    let old = c.args.kernel.now in
    let i = c.loop.counter in
    let mid = c.loop.kernel in
    let run = on_one (tactic_at (trees old.store) c.args.t.now) in
    let keeps = g.met.S.Store.grows_keeps old.store mid.store c.loop.invariant.grows in
    let same = tactic_same (trees old.store) (trees mid.store) keeps c.args.t.now c.requires.runnable.known in
    let is = each_next run c.args.goals c.args.goal i c.loop.left c.loop-test.true in
    let one_each = runs_each (trees old.store) c.args.t.now c.args.goals c.args.goal c.in_default.not-Branch in
    let e = err_from_is_err_and c.from_residual.result c.from_residual.ensures.1 in
    let becomes = subst (λ (a : TreeTactic).
    Becomes (on_one a (c.args.goal + c.loop.left)) (now trees mid c.loop.trace) (now trees c.run_one.new.kernel c.run_one.new.trace)
    (Err c.in_err-left.field-0.0)) same c.in_err-left.ensures.fate in
    let over = reached_err trees old c.args.trace.now mid c.loop.trace c.run_one.new.kernel c.run_one.new.trace i c.loop.left _ _ _ _
    c.in_err-left.field-0.0 c.loop.invariant.reached is becomes in
    let extends = extends_err trees old c.args.trace.now mid c.loop.trace c.run_one.new.kernel c.run_one.new.trace c.in_err-left.field-0.0
    c.loop.invariant.reached.extends c.in_err-left.ensures.extends in
    record {
      fate = rw (e.1, e.2) (subst (λ (f : Fate).
          Becomes f (now trees old c.args.trace.now) (now trees c.run_one.new.kernel c.run_one.new.trace) (Err c.in_err-left.field-0.0)) (sym one_each) over);
      extends = rw (e.1, e.2) extends;
      rows = rows_longer trees old mid c.run_one.new.kernel c.loop.invariant.reached.extends.rows c.run_one.ensures.rows;
      left = rw e.1 tt;
      few = rw e.1 tt;
      grows = g.met.S.Store.grows_trans old.store mid.store c.run_one.new.kernel.store c.loop.invariant.grows c.run_one.ensures.grows;
    }

pub run_goals-loop-preserved : goal.run_goals-loop-preserved
run_goals-loop-preserved g t c =
    let trees = g.S.Store.trees in
    let old = c.args.kernel.now in
    let i = c.loop.counter in
    let mid = c.loop.kernel in
    let run = on_one (tactic_at (trees old.store) c.args.t.now) in
    let keeps = g.met.S.Store.grows_keeps old.store mid.store c.loop.invariant.grows in
    let same = tactic_same (trees old.store) (trees mid.store) keeps c.args.t.now c.requires.runnable.known in
    let next : ℕ → Fate = λ new. Each run (c.args.goals - (i + 1)) c.args.goal (c.loop.left + new) in
    let is = each_next run c.args.goals c.args.goal i c.loop.left c.loop-test.true in
    let new = c.in_ok-left.field-0 in
    let made = subst (λ (a : TreeTactic). on_one a (c.args.goal + c.loop.left) (now trees mid c.loop.trace)
    (Done (now trees c.run_one.new.kernel c.run_one.new.trace) new)) same c.in_ok-left.ensures.fate in
    record {
      grows = g.met.S.Store.grows_trans old.store mid.store c.run_one.new.kernel.store c.loop.invariant.grows c.run_one.ensures.grows;
      reached = reached_on trees old c.args.trace.now mid c.loop.trace c.run_one.new.kernel c.run_one.new.trace i c.loop.left (i + 1) (c.loop.left + new) 1 new
          _ _ _ next
          c.loop.invariant.reached is made c.in_ok-left.ensures.extends c.in_ok-left.ensures.left c.in_ok-left.ensures.few (omega arith);
    }

pub run_goals-returns : goal.run_goals-returns
run_goals-returns g t c =
    let trees = g.S.Store.trees in
    let old = c.args.kernel.now in
    let i = c.loop.counter in
    let mid = c.loop.kernel in
    let run = on_one (tactic_at (trees old.store) c.args.t.now) in
    let one_each = runs_each (trees old.store) c.args.t.now c.args.goals c.args.goal c.in_default.not-Branch in
    let made = reached_end trees old c.args.trace.now mid c.loop.trace i c.loop.left _ _ c.loop.invariant.reached
    (each_none run c.args.goals c.args.goal i c.loop.left c.loop-test.false) in
    record {
      fate = subst (λ (f : Fate). f (now trees old c.args.trace.now) (Done (now trees mid c.loop.trace) c.loop.left)) (sym one_each) made;
      extends = c.loop.invariant.reached.extends;
      rows = c.loop.invariant.reached.extends.rows;
      left = omega (arith, c.loop.invariant.reached.counted, c.loop-test.false, c.loop.auto.counter-end);
      few = c.loop.invariant.reached.few;
      grows = c.loop.invariant.grows;
    }

pub run_one-choose-requires : goal.run_one-choose-requires
run_one-choose-requires g t c κs within =
    let trees = g.S.Store.trees c.args.kernel.now.store in
    let parts = subst (All (IsRunnable trees)) (sym c.as_slice.ensures.value)
    (choice_parts trees c.in-Choice.parts (subst (IsRunnable trees) c.in-Choice.is c.requires.runnable)) in (
      omega (arith, size_choice c.in-Choice.parts, ap the_size c.in-Choice.is, ap (most the_size) c.as_slice.ensures.value, c.decreases),
      (search rules, (search rules, (c.requires.ready, parts))),
    )

pub run_one-in_turn-requires : goal.run_one-in_turn-requires
run_one-in_turn-requires g t c κs within =
    let trees = g.S.Store.trees c.args.kernel.now.store in
    let parts = subst (All (IsRunnable trees)) (sym c.as_slice-in-Seq.ensures.value)
    (sequence_parts trees c.in-Seq.parts (subst (IsRunnable trees) c.in-Seq.is c.requires.runnable)) in (
      omega (arith, size_sequence c.in-Seq.parts, ap the_size c.in-Seq.is, ap (most the_size) c.as_slice-in-Seq.ensures.value, c.decreases),
      (search rules, (search rules, (c.requires.ready, parts))),
    )

pub run_one-branch-alloc-requires : goal.run_one-branch-alloc-requires
run_one-branch-alloc-requires g t c κs within =
    let trees = g.S.Store.trees c.args.kernel.now.store in
    let parts = subst (All (IsRunnable trees)) (sym c.as_slice-in-Branch.ensures.value)
    (branch_parts trees c.in-Branch.at c.in-Branch.parts (subst (IsRunnable trees) c.in-Branch.is c.requires.runnable)) in (
      omega (
        arith,
        size_branch c.in-Branch.at c.in-Branch.parts,
        ap the_size c.in-Branch.is,
        ap (most the_size) c.as_slice-in-Branch.ensures.value,
        c.decreases,
      ),
      (search rules, (search rules, (c.requires.ready, parts))),
    )

pub run_one-returns-in-Choice-clause-fate : goal.run_one-returns-in-Choice-clause-fate
run_one-returns-in-Choice-clause-fate g t c =
    let trees = g.S.Store.trees c.args.kernel.now.store in
    let same = ap (tactic_at trees) c.in-Choice.is ∙ choice_at trees c.in-Choice.parts
    ∙ ap (λ xs. the.Choice (tactics_of trees xs)) (sym c.as_slice.ensures.value) in
    subst (λ (a : TreeTactic). Becomes (on_one a c.args.goal) (now g.S.Store.trees c.args.kernel.now c.args.trace.now)
    (now g.S.Store.trees c.choose.new.kernel c.choose.new.trace) c.choose.result) (sym same) c.choose.ensures.fate

pub run_one-returns-in-Seq-clause-fate : goal.run_one-returns-in-Seq-clause-fate
run_one-returns-in-Seq-clause-fate g t c =
    let trees = g.S.Store.trees c.args.kernel.now.store in
    let same = ap (tactic_at trees) c.in-Seq.is ∙ sequence_at trees c.in-Seq.parts
    ∙ ap (λ xs. the.Sequence (tactics_of trees xs)) (sym c.as_slice-in-Seq.ensures.value) in
    subst (λ (a : TreeTactic). Becomes (on_one a c.args.goal) (now g.S.Store.trees c.args.kernel.now c.args.trace.now)
    (now g.S.Store.trees c.in_turn.new.kernel c.in_turn.new.trace) c.in_turn.result) (sym same) c.in_turn.ensures.fate

pub run_one-returns-in-Branch-clause-fate : goal.run_one-returns-in-Branch-clause-fate
run_one-returns-in-Branch-clause-fate g t c =
    let trees = g.S.Store.trees c.args.kernel.now.store in
    let same = ap (tactic_at trees) c.in-Branch.is ∙ branch_at trees c.in-Branch.at c.in-Branch.parts
    ∙ ap (λ xs. the.Branch c.in-Branch.at (tactics_of trees xs)) (sym c.as_slice-in-Branch.ensures.value) in
    let counted = subst (λ (n : ℕ). Becomes (Branched c.in-Branch.at n 1 (OnOwn (tactics_of trees c.as_slice-in-Branch.result.now) c.args.goal 0))
    (now g.S.Store.trees c.args.kernel.now c.args.trace.now)
    (now g.S.Store.trees c.branch-alloc.new.kernel c.branch-alloc.new.trace) c.branch-alloc.result) (sym (count_of trees c.as_slice-in-Branch.result.now))
    c.branch-alloc.ensures.fate in
    subst (λ (a : TreeTactic). Becomes (on_one a c.args.goal) (now g.S.Store.trees c.args.kernel.now c.args.trace.now)
    (now g.S.Store.trees c.branch-alloc.new.kernel c.branch-alloc.new.trace) c.branch-alloc.result) (sym same) counted
