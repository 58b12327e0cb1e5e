use Rattle.std.proofs.Common.{◌≡◌, ◌+◌, ◌-◌, ℕ, Err, sym, subst, arith}
use Rattle.std.proofs.lemmas.Result.{err_from_is_err_and}
use Rattle.dlk_tacsyn.specs.Tactics.{Atom}
use Rattle.dlk_tacsyn.specs.Rows.{IsFitting}
use Rattle.dlk_tacsyn.specs.Ties.{atom_at}
use Rattle.dlk_strategy.specs.Runs.{Done, Fate, Then, Each, RunAtom}
use Rattle.dlk_strategy.specs.Ties.{now, Becomes}
use Rattle.dlk_strategy.proofs.Trying.{atom_same, atom_known}
use Rattle.dlk_strategy.proofs.Reached.{reached_on, reached_err, reached_end, reached_ready, extends_err, each_next, each_none}
use Rattle.dlk_strategy.proofs.derivation.on_each.Goals as goal
use Rattle.dlk_kernel.proofs.RowsKept.{rows_longer}

pub run_atom-requires-clause-ready : goal.run_atom-requires-clause-ready
run_atom-requires-clause-ready g c =
    let trees = g.S.Store.trees in
    let old = c.args.kernel.now in
    let run = RunAtom (atom_at (trees old.store) c.args.atom.now) in
    reached_ready trees old c.args.trace.now c.loop.kernel c.loop.trace c.loop.counter c.loop.left (Each run c.args.goals c.args.goal 0)
    (Each run (c.args.goals - c.loop.counter) c.args.goal c.loop.left) (c.args.goal + c.loop.left) 1 c.loop.invariant.reached
    (omega (arith, c.requires.ready.first)) (omega (arith, c.requires.ready.room, c.loop-test.true))

pub run_atom-requires-clause-known : goal.run_atom-requires-clause-known
run_atom-requires-clause-known g c =
    let trees = g.S.Store.trees in
    let keeps = g.met.S.Store.grows_keeps c.args.kernel.now.store c.loop.kernel.store c.loop.invariant.grows in
    atom_known (trees c.args.kernel.now.store) (trees c.loop.kernel.store) keeps c.args.atom.now c.requires.known

pub run_atom-requires-clause-fitting : goal.run_atom-requires-clause-fitting
run_atom-requires-clause-fitting g c =
    let trees = g.S.Store.trees in
    let keeps = g.met.S.Store.grows_keeps c.args.kernel.now.store c.loop.kernel.store c.loop.invariant.grows in
    subst IsFitting (sym (atom_same (trees c.args.kernel.now.store) (trees c.loop.kernel.store) keeps c.args.atom.now c.requires.known)) c.requires.fitting

pub returns-in_err-left : goal.returns-in_err-left
returns-in_err-left g c =
    let trees = g.S.Store.trees in
    let old = c.args.kernel.now in
    let i = c.loop.counter in
    let mid = c.loop.kernel in
    let atom = atom_at (trees old.store) c.args.atom.now in
    let run = RunAtom atom in
    let all = Each run c.args.goals c.args.goal 0 in
    let rest = Each run (c.args.goals - i) c.args.goal c.loop.left in
    let keeps = g.met.S.Store.grows_keeps old.store mid.store c.loop.invariant.grows in
    let same = atom_same (trees old.store) (trees mid.store) keeps c.args.atom.now c.requires.known in
    let fate = run (c.args.goal + c.loop.left) in
    let next : ℕ → Fate = λ new. Each run (c.args.goals - (i + 1)) c.args.goal (c.loop.left + new) in
    let is : rest ≡ Then fate next = each_next run c.args.goals c.args.goal i c.loop.left c.loop-test.true in
    let e = err_from_is_err_and c.from_residual.result c.from_residual.ensures.1 in
    let here = now trees mid c.loop.trace in
    let after = now trees c.run_atom.new.kernel c.run_atom.new.trace in
    let becomes = subst (λ (a : Atom). Becomes (RunAtom a (c.args.goal + c.loop.left)) here after (Err c.in_err-left.field-0.0)) same
    c.in_err-left.ensures.fate in
    let over = reached_err trees old c.args.trace.now mid c.loop.trace c.run_atom.new.kernel c.run_atom.new.trace i c.loop.left all rest fate next
    c.in_err-left.field-0.0 c.loop.invariant.reached is becomes in
    let extends = extends_err trees old c.args.trace.now mid c.loop.trace c.run_atom.new.kernel c.run_atom.new.trace c.in_err-left.field-0.0
    c.loop.invariant.reached.extends c.in_err-left.ensures.extends in
    record {
      fate = rw (e.1, e.2) over;
      extends = rw (e.1, e.2) extends;
      rows = rows_longer trees old mid c.run_atom.new.kernel c.loop.invariant.reached.extends.rows c.run_atom.ensures.rows;
      left = rw e.1 tt;
      few = rw e.1 tt;
      grows = g.met.S.Store.grows_trans old.store mid.store c.run_atom.new.kernel.store c.loop.invariant.grows c.run_atom.ensures.grows;
    }

pub loop-preserved : goal.loop-preserved
loop-preserved g c =
    let trees = g.S.Store.trees in
    let old = c.args.kernel.now in
    let i = c.loop.counter in
    let mid = c.loop.kernel in
    let run = RunAtom (atom_at (trees old.store) c.args.atom.now) in
    let all = Each run c.args.goals c.args.goal 0 in
    let rest = Each run (c.args.goals - i) c.args.goal c.loop.left in
    let keeps = g.met.S.Store.grows_keeps old.store mid.store c.loop.invariant.grows in
    let same = atom_same (trees old.store) (trees mid.store) keeps c.args.atom.now c.requires.known in
    let fate = run (c.args.goal + c.loop.left) in
    let next : ℕ → Fate = λ new. Each run (c.args.goals - (i + 1)) c.args.goal (c.loop.left + new) in
    let is : rest ≡ Then fate next = each_next run c.args.goals c.args.goal i c.loop.left c.loop-test.true in
    let new = c.in_ok-left.field-0 in
    let here = now trees mid c.loop.trace in
    let after = now trees c.run_atom.new.kernel c.run_atom.new.trace in
    let made = subst (λ (a : Atom). RunAtom a (c.args.goal + c.loop.left) here (Done after new)) same c.in_ok-left.ensures.fate in
    record {
      grows = g.met.S.Store.grows_trans old.store mid.store c.run_atom.new.kernel.store c.loop.invariant.grows c.run_atom.ensures.grows;
      reached = reached_on trees old c.args.trace.now mid c.loop.trace c.run_atom.new.kernel c.run_atom.new.trace i c.loop.left (i + 1) (c.loop.left + new)
          1 new all rest fate next c.loop.invariant.reached is made c.in_ok-left.ensures.extends c.in_ok-left.ensures.left c.in_ok-left.ensures.few
          (omega arith);
    }

pub returns : goal.returns
returns g c =
    let trees = g.S.Store.trees in
    let old = c.args.kernel.now in
    let i = c.loop.counter in
    let mid = c.loop.kernel in
    let run = RunAtom (atom_at (trees old.store) c.args.atom.now) in
    let all = Each run c.args.goals c.args.goal 0 in
    let rest = Each run (c.args.goals - i) c.args.goal c.loop.left in
    record {
      fate = reached_end trees old c.args.trace.now mid c.loop.trace i c.loop.left all rest c.loop.invariant.reached
          (each_none run c.args.goals c.args.goal i c.loop.left c.loop-test.false);
      extends = c.loop.invariant.reached.extends;
      rows = c.loop.invariant.reached.extends.rows;
      left = omega (arith, c.loop.invariant.reached.counted, c.loop-test.false, c.loop.auto.counter-end);
      few = c.loop.invariant.reached.few;
      grows = c.loop.invariant.grows;
    }
