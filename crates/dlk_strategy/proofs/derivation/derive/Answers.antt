use Rattle.std.proofs.Common.{◌≡◌, ℕ, ◌+◌, map, refl, sym, ap, subst, ◌∙◌, arith}
use Rattle.std.specs.Prelude.{Err}
use Rattle.std.proofs.Math.Seq.{take-length}
use Rattle.dlk_sequent.specs.Sequents.{sequent_at}
use Rattle.dlk_tacsyn.specs.Ties.{argument_at, atom_at}
use Rattle.dlk_strategy.specs.declared.fault.RunFault.{RunFault}
use Rattle.dlk_strategy.specs.declared.fault.RunFault.TheVariants.{Memory}
use Rattle.dlk_strategy.specs.Runs.{OneByOne, RunDerive, spent}
use Rattle.dlk_strategy.specs.Ties.{now, at_byte, Becomes, Extends}
use Rattle.dlk_strategy.proofs.Derivations.{given_place}
use Rattle.dlk_strategy.proofs.Faults.{unless_over, plan_fails, memory_of_plan}
use Rattle.dlk_strategy.proofs.States.{same_extends}
use Rattle.dlk_strategy.proofs.Uses.{planned_fit, derived, becomes_on}
use Rattle.dlk_strategy.proofs.derivation.derive.Goals as goal

pub returns-then-trace-ge-MOST_RUNS-clause-fate : goal.returns-then-trace-ge-MOST_RUNS-clause-fate
returns-then-trace-ge-MOST_RUNS-clause-fate g c = spent c.if-trace-ge-MOST_RUNS.true

pub unreachable-requires : goal.unreachable-requires
unreachable-requires g c =
    let only = given_place (g.S.Store.trees c.args.kernel.now.store) c.args.atom.now c.requires.derivation in
    c.in_default.ensures.none only.0 only.1 (c.as_slice.ensures ∙ only.2)

pub one_by_one-requires-clause-known : goal.one_by_one-requires-clause-known
one_by_one-requires-clause-known g c = c.in-Ok.ensures.known (g.S.Store.trees c.args.kernel.now.store)

pub one_by_one-requires-clause-fitting : goal.one_by_one-requires-clause-fitting
one_by_one-requires-clause-fitting g c =
    let trees = g.S.Store.trees c.args.kernel.now.store in
    planned_fit c.plan_is_fitting.ensures.fitting (map (atom_at trees) c.in-Ok.uses.items) c.in-Some.place c.in-Ok.ensures.plan.0 (c.in-Ok.ensures.plan.2 trees)

pub returns-in-Ok-clause-fate : goal.returns-in-Ok-clause-fate
returns-in-Ok-clause-fate g c =
    let trees = g.S.Store.trees in
    let old = c.args.kernel.now in
    let atom = atom_at (trees old.store) c.args.atom.now in
    let first = now trees old c.args.trace.now in
    let next = now trees old (record c.args.trace.now { used = c.args.trace.now.used + 1 }) in
    let after = now trees c.one_by_one.new.kernel c.one_by_one.new.trace in
    let atoms = map (atom_at (trees old.store)) c.in-Ok.uses.items in
    let s = sequent_at (trees old.store) c.goal_at.result.now in
    let are = ap (map (argument_at (trees old.store))) (sym c.as_slice.ensures ∙ c.in-Some.ensures.found) in
    let plan = c.in-Ok.ensures.plan in
    let law = derived atom c.args.goal first s c.in-Some.place c.in-Some.path.now plan.0 atoms c.if-trace-ge-MOST_RUNS.false c.goal_at.ensures.goal are
    plan.1 (plan.2 (trees old.store)) in
    becomes_on (OneByOne (map (at_byte atom.at) atoms) 1 c.args.goal) (RunDerive atom c.args.goal) next first after law c.one_by_one.result
    c.one_by_one.ensures.fate

pub returns-in-Err-clause-fate : goal.returns-in-Err-clause-fate
returns-in-Err-clause-fate g c =
    let trees = g.S.Store.trees in
    let old = c.args.kernel.now in
    let atom = atom_at (trees old.store) c.args.atom.now in
    let before = now trees old c.args.trace.now in
    let after = now trees old (record c.args.trace.now { used = c.args.trace.now.used + 1 }) in
    let are = ap (map (argument_at (trees old.store))) (sym c.as_slice.ensures ∙ c.in-Some.ensures.found) in
    subst (λ (e : RunFault). Becomes (RunDerive atom c.args.goal) before after (Err e)) (sym c.of_plan.ensures)
    (plan_fails atom c.args.goal before after (sequent_at (trees old.store) c.goal_at.result.now) c.in-Some.place c.in-Some.path.now
    c.if-trace-ge-MOST_RUNS.false c.goal_at.ensures.goal are refl c.in-Err.why c.in-Err.ensures.fault)

pub returns-in-Err-clause-extends : goal.returns-in-Err-clause-extends
returns-in-Err-clause-extends g c =
    let trees = g.S.Store.trees in
    let old = c.args.kernel.now in
    let after = record c.args.trace.now { used = c.args.trace.now.used + 1 } in
    unless_over {T = ℕ} {holds = Extends trees old c.args.trace.now old after} (Err c.of_plan.result) (record {
      rows = same_extends trees old old (record { ids = refl; provables = refl });
      steps = take-length c.args.trace.now.steps.items;
      known = c.requires.ready.known;
      counted = omega arith;
      within = omega (arith, c.if-trace-ge-MOST_RUNS.false);
    })

pub returns-in-Ok-clause-memory : goal.returns-in-Ok-clause-memory
returns-in-Ok-clause-memory g c = λ is.
    let trees = g.S.Store.trees c.args.kernel.now.store in
    let plan = c.in-Ok.ensures.plan in
    record {
      s = sequent_at trees c.goal_at.result.now;
      place = c.in-Some.place;
      path = c.in-Some.path.now;
      calls = plan.0;
      stands = c.goal_at.ensures.goal;
      given = ap (map (argument_at trees)) (sym c.as_slice.ensures ∙ c.in-Some.ensures.found);
      planned = plan.1;
    }

pub returns-in-Err-clause-memory : goal.returns-in-Err-clause-memory
returns-in-Err-clause-memory g c = λ is.
    let trees = g.S.Store.trees c.args.kernel.now.store in
    let fault : c.of_plan.result ≡ Memory = cc is in
    let why = memory_of_plan c.args.atom.now.at c.in-Err.why (sym c.of_plan.ensures ∙ fault) in
    let plan = c.in-Err.ensures.memory (ap Err why) in
    record {
      s = sequent_at trees c.goal_at.result.now;
      place = c.in-Some.place;
      path = c.in-Some.path.now;
      calls = plan.0;
      stands = c.goal_at.ensures.goal;
      given = ap (map (argument_at trees)) (sym c.as_slice.ensures ∙ c.in-Some.ensures.found);
      planned = plan.1;
    }
