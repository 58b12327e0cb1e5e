use Rattle.std.proofs.Common.{◌≡◌, ℕ, ◌+◌, ◌-◌, map, take, length, refl, sym, ap, subst, ◌∙◌, arith}
use Rattle.std.specs.Prelude.{Err}
use Rattle.std.proofs.lemmas.List.{length-map}
use Rattle.std.proofs.Math.Seq.{take-append_seam, take-length}
use Rattle.dlk_rules.specs.Steps.{step_at}
use Rattle.dlk_kernel.specs.Kernel.{facts, provable_at}
use Rattle.dlk_tacsyn.specs.Ties.{atom_at}
use Rattle.dlk_elab.specs.Ties.{AsksOrUses}
use Rattle.dlk_strategy.specs.declared.fault.RunFault.{RunFault}
use Rattle.dlk_strategy.specs.declared.fault.RunFault.TheVariants.{Memory}
use Rattle.dlk_strategy.specs.Runs.{spent, Once}
use Rattle.dlk_strategy.specs.Ties.{now, Becomes, Extends, IsBack}
use Rattle.dlk_strategy.proofs.States.{steps_known, steps_more, known_more, goal_there, counted_as, of_last, once_done, same_extends}
use Rattle.dlk_strategy.proofs.Faults.{unless_over, back_on_failure, atom_fails, memory_of_atom, steps_are_asked}
use Rattle.dlk_strategy.proofs.atoms.run_once.Goals as goal

pub returns-then-trace-ge-MOST_RUNS-clause-fate : goal.returns-then-trace-ge-MOST_RUNS-clause-fate
returns-then-trace-ge-MOST_RUNS-clause-fate g c = spent c.if-trace-ge-MOST_RUNS.true

pub elaborate-requires-clause-goal : goal.elaborate-requires-clause-goal
elaborate-requires-clause-goal g c =
    let trees = g.S.Store.trees in
    goal_there (facts trees c.args.kernel.now) c.rows-fact.result c.args.goal
    (c.rows-fact.ensures.count ∙ sym (length-map c.args.kernel.now.rows (provable_at (trees c.args.kernel.now.store)))) c.requires.ready.first
    c.requires.ready.room

pub overflow_sub-result : goal.overflow_sub-result
overflow_sub-result g c =
    let trees = g.S.Store.trees in
    let old = facts trees c.args.kernel.now in
    let is = c.rows-fact.ensures.count ∙ sym (length-map c.args.kernel.now.rows (provable_at (trees c.args.kernel.now.store))) in
    let made = of_last old (facts trees c.elaborate.new.kernel) c.rows-fact.result c.args.goal (atom_at (trees c.args.kernel.now.store) c.args.atom.now)
    (map (step_at (trees c.elaborate.new.kernel.store)) c.in-Ok.made.steps.items) is c.in-Ok.ensures.made in
    (counted_as old (facts trees c.elaborate.new.kernel) c.args.goal (atom_at (trees c.args.kernel.now.store) c.args.atom.now)
    (map (step_at (trees c.elaborate.new.kernel.store)) c.in-Ok.made.steps.items) c.goals_left-before.result c.goals_left-after.result c.requires.ready.first
    c.requires.ready.room made
    c.goals_left-before.ensures.goals c.goals_left-after.ensures.goals).0

pub returns-in_ok-append-in-Ok-clause-fate : goal.returns-in_ok-append-in-Ok-clause-fate
returns-in_ok-append-in-Ok-clause-fate g c =
    let trees = g.S.Store.trees in
    let old = facts trees c.args.kernel.now in
    let keeps = g.met.S.Store.grows_keeps c.args.kernel.now.store c.elaborate.new.kernel.store c.elaborate.ensures.grows in
    let is = c.rows-fact.ensures.count ∙ sym (length-map c.args.kernel.now.rows (provable_at (trees c.args.kernel.now.store))) in
    let atom = atom_at (trees c.args.kernel.now.store) c.args.atom.now in
    let steps = map (step_at (trees c.elaborate.new.kernel.store)) c.in-Ok.made.steps.items in
    let made = of_last old (facts trees c.elaborate.new.kernel) c.rows-fact.result c.args.goal atom steps is c.in-Ok.ensures.made in
    let n = counted_as old (facts trees c.elaborate.new.kernel) c.args.goal atom steps c.goals_left-before.result c.goals_left-after.result
    c.requires.ready.first c.requires.ready.room made
    c.goals_left-before.ensures.goals c.goals_left-after.ensures.goals in
    once_done atom c.args.goal c.args.trace.now.used (c.goals_left-after.result + 1 - c.goals_left-before.result) old (facts trees c.elaborate.new.kernel)
    (map (step_at (trees c.args.kernel.now.store)) c.args.trace.now.steps.items) steps
    (map (step_at (trees c.elaborate.new.kernel.store)) c.append.new.into.items)
    c.if-trace-ge-MOST_RUNS.false made n.1
    (steps_more (trees c.args.kernel.now.store) (trees c.elaborate.new.kernel.store) keeps c.args.trace.now.steps.items c.in-Ok.made.steps.items
    c.append.new.into.items c.requires.ready.known c.in_ok-append-in-Ok.ensures)

pub returns-in_ok-append-in-Ok-clause-extends : goal.returns-in_ok-append-in-Ok-clause-extends
returns-in_ok-append-in-Ok-clause-extends g c =
    let trees = g.S.Store.trees in
    let keeps = g.met.S.Store.grows_keeps c.args.kernel.now.store c.elaborate.new.kernel.store c.elaborate.ensures.grows in
    record {
      rows = c.in-Ok.ensures.kept;
      steps = ap (take (length c.args.trace.now.steps.items)) c.in_ok-append-in-Ok.ensures
          ∙ take-append_seam c.args.trace.now.steps.items c.in-Ok.made.steps.items;
      known = known_more (trees c.args.kernel.now.store) (trees c.elaborate.new.kernel.store) keeps c.args.trace.now.steps.items c.in-Ok.made.steps.items
          c.append.new.into.items c.requires.ready.known c.in-Ok.ensures.known c.in_ok-append-in-Ok.ensures;
      counted = omega arith;
      within = omega (arith, c.if-trace-ge-MOST_RUNS.false);
    }

pub returns-in_ok-append-in-Ok-clause-left : goal.returns-in_ok-append-in-Ok-clause-left
returns-in_ok-append-in-Ok-clause-left g c =
    let trees = g.S.Store.trees in
    let old = facts trees c.args.kernel.now in
    let is = c.rows-fact.ensures.count ∙ sym (length-map c.args.kernel.now.rows (provable_at (trees c.args.kernel.now.store))) in
    let atom = atom_at (trees c.args.kernel.now.store) c.args.atom.now in
    let steps = map (step_at (trees c.elaborate.new.kernel.store)) c.in-Ok.made.steps.items in
    let made = of_last old (facts trees c.elaborate.new.kernel) c.rows-fact.result c.args.goal atom steps is c.in-Ok.ensures.made in
    (counted_as old (facts trees c.elaborate.new.kernel) c.args.goal atom steps c.goals_left-before.result c.goals_left-after.result c.requires.ready.first
    c.requires.ready.room made
    c.goals_left-before.ensures.goals c.goals_left-after.ensures.goals).1

pub returns-in-Err-clause-fate : goal.returns-in-Err-clause-fate
returns-in-Err-clause-fate g c =
    let trees = g.S.Store.trees in
    let is = c.rows-fact.ensures.count ∙ sym (length-map c.args.kernel.now.rows (provable_at (trees c.args.kernel.now.store))) in
    let atom = atom_at (trees c.args.kernel.now.store) c.args.atom.now in
    let before = now trees c.args.kernel.now c.args.trace.now in
    let after = now trees c.elaborate.new.kernel (record c.args.trace.now { used = c.args.trace.now.used + 1 }) in
    subst (λ (e : RunFault). Becomes (Once atom c.args.goal) before after (Err e)) (sym c.of_atom.ensures)
    (atom_fails atom c.args.goal c.rows-fact.result before after c.if-trace-ge-MOST_RUNS.false is refl c.in-Err.why c.in-Err.ensures.fault)

pub returns-in-Err-clause-extends : goal.returns-in-Err-clause-extends
returns-in-Err-clause-extends g c =
    let trees = g.S.Store.trees in
    let keeps = g.met.S.Store.grows_keeps c.args.kernel.now.store c.elaborate.new.kernel.store c.elaborate.ensures.grows in
    let after = record c.args.trace.now { used = c.args.trace.now.used + 1 } in
    unless_over {T = ℕ} {holds = Extends trees c.args.kernel.now c.args.trace.now c.elaborate.new.kernel after} (Err c.of_atom.result) (record {
      rows = same_extends trees c.args.kernel.now c.elaborate.new.kernel c.in-Err.ensures.err;
      steps = take-length c.args.trace.now.steps.items;
      known = steps_known (trees c.args.kernel.now.store) (trees c.elaborate.new.kernel.store) keeps c.args.trace.now.steps.items c.requires.ready.known;
      counted = omega arith;
      within = omega (arith, c.if-trace-ge-MOST_RUNS.false);
    })

pub returns-in-Err-clause-back : goal.returns-in-Err-clause-back
returns-in-Err-clause-back g c =
    let after = record c.args.trace.now { used = c.args.trace.now.used + 1 } in
    back_on_failure {back = IsBack g.S.Store.trees c.args.kernel.now c.args.trace.now c.elaborate.new.kernel after} (Err c.of_atom.result) (record {
      rows = c.in-Err.ensures.err;
      steps = refl;
      counted = omega arith;
      within = omega (arith, c.if-trace-ge-MOST_RUNS.false);
    })

pub returns-in_err-append-in-Ok-clause-memory : goal.returns-in_err-append-in-Ok-clause-memory
returns-in_err-append-in-Ok-clause-memory g c = λ is.
    let trees = g.S.Store.trees in
    let rows = facts trees c.args.kernel.now in
    let atom = atom_at (trees c.args.kernel.now.store) c.args.atom.now in
    subst (λ n. AsksOrUses rows n c.args.goal atom) c.rows-fact.ensures.count
    (steps_are_asked rows c.rows-fact.result c.args.goal atom (map (step_at (trees c.elaborate.new.kernel.store)) c.in-Ok.made.steps.items)
    (facts trees c.elaborate.new.kernel) c.in-Ok.ensures.made)

pub returns-in-Err-clause-memory : goal.returns-in-Err-clause-memory
returns-in-Err-clause-memory g c = λ is.
    let trees = g.S.Store.trees in
    let rows = facts trees c.args.kernel.now in
    let atom = atom_at (trees c.args.kernel.now.store) c.args.atom.now in
    let fault : c.of_atom.result ≡ Memory = cc is in
    let why = memory_of_atom c.args.atom.now.at c.in-Err.why (sym c.of_atom.ensures ∙ fault) in
    subst (λ n. AsksOrUses rows n c.args.goal atom) c.rows-fact.ensures.count (c.in-Err.ensures.memory (ap Err why))
