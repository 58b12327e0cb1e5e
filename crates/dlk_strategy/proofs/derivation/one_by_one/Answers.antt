use Rattle.std.proofs.Common.{◌≡◌, [], ℕ, List, map, length, Err, sym, ap, subst, ◌∙◌, arith}
use Rattle.std.specs.List.{All}
use Rattle.std.specs.Vec.Iter.{into_iter_items}
use Rattle.std.proofs.lemmas.List.Elements.{All-head, All-tail}
use Rattle.std.proofs.lemmas.Result.{err_from_is_err_and}
use Rattle.dlk_tacsyn.specs.Rows.{IsFitting}
use Rattle.dlk_tacsyn.specs.Tactics.{Atom}
use Rattle.dlk_tacsyn.specs.Ties.{atom_at, AtomIsKnown}
use Rattle.dlk_tacsyn.specs.declared.tactic.Atom.{Atom as GivenAtom}
use Rattle.dlk_tacsyn.proofs.Behind.{nil_of}
use Rattle.dlk_strategy.specs.Runs.{Done, Fate, Then, OnEach, OneByOne, RunAtom}
use Rattle.dlk_strategy.specs.Ties.{now, at_byte, Becomes}
use Rattle.dlk_strategy.proofs.Trying.{atom_same, atom_known}
use Rattle.dlk_strategy.proofs.Reached.{reached_first, reached_on, reached_err, reached_end, reached_ready, extends_err}
use Rattle.dlk_strategy.proofs.Uses.{moved_fits}
use Rattle.dlk_strategy.proofs.derivation.one_by_one.Goals as goal
use Rattle.dlk_kernel.proofs.RowsKept.{rows_longer}

pub loop-a-init : goal.loop-a-init
loop-a-init g c =
    let trees = g.S.Store.trees in
    let old = c.args.kernel.now in
    let items = sym c.into_iter-a-iterator.ensures.into_iter_gives.0 in
    let rest : List GivenAtom → Fate = λ xs. OneByOne (map (at_byte c.args.at) (map (atom_at (trees old.store)) xs)) 1 c.args.goal in
    let first = reached_first trees old c.args.trace.now c.args.goal 1 1 (rest c.args.atoms.items) c.requires.ready in
    record {
      grows = g.met.S.Store.grows_refl old.store;
      known = subst (All (AtomIsKnown (trees old.store))) items c.requires.known;
      fitting = subst (λ (xs : List GivenAtom). All IsFitting (map (atom_at (trees old.store)) xs)) items c.requires.fitting;
      reached = record {
        extends = first.extends;
        counted = first.counted;
        few = first.few;
        leads = λ o r. subst (λ (xs : List GivenAtom). rest xs (now trees old c.args.trace.now) o) (sym items) r;
      };
    }

pub on_each-requires-clause-ready : goal.on_each-requires-clause-ready
on_each-requires-clause-ready g c =
    let trees = g.S.Store.trees in
    let old = c.args.kernel.now in
    let uses : List GivenAtom → ℕ → Fate = λ xs goals. OneByOne (map (at_byte c.args.at) (map (atom_at (trees old.store)) xs)) goals c.args.goal in
    reached_ready trees old c.args.trace.now c.loop-a.kernel c.loop-a.trace 1 c.loop-a.goals (uses c.args.atoms.items 1)
    (uses (into_iter_items c.loop-a.a-iterator) c.loop-a.goals) c.args.goal c.loop-a.goals c.loop-a.invariant.reached c.requires.ready.first
    (omega (arith, c.requires.ready.room))

pub on_each-requires-clause-known : goal.on_each-requires-clause-known
on_each-requires-clause-known g c =
    let old = g.S.Store.trees c.args.kernel.now.store in
    let mid = g.S.Store.trees c.loop-a.kernel.store in
    let keeps = g.met.S.Store.grows_keeps c.args.kernel.now.store c.loop-a.kernel.store c.loop-a.invariant.grows in
    let left = subst (All (AtomIsKnown old)) c.in-Some.ensures.steps.0 c.loop-a.invariant.known in
    atom_known old mid keeps c.in-Some.a (All-head (AtomIsKnown old) c.in-Some.a (into_iter_items c.next.new.self) left)

pub on_each-requires-clause-fitting : goal.on_each-requires-clause-fitting
on_each-requires-clause-fitting g c =
    let old = g.S.Store.trees c.args.kernel.now.store in
    let mid = g.S.Store.trees c.loop-a.kernel.store in
    let keeps = g.met.S.Store.grows_keeps c.args.kernel.now.store c.loop-a.kernel.store c.loop-a.invariant.grows in
    let left = subst (All (AtomIsKnown old)) c.in-Some.ensures.steps.0 c.loop-a.invariant.known in
    let same = atom_same old mid keeps c.in-Some.a (All-head (AtomIsKnown old) c.in-Some.a (into_iter_items c.next.new.self) left) in
    let fit = subst (λ (xs : List GivenAtom). All IsFitting (map (atom_at old) xs)) c.in-Some.ensures.steps.0 c.loop-a.invariant.fitting in
    let one = All-head IsFitting (atom_at old c.in-Some.a) (map (atom_at old) (into_iter_items c.next.new.self)) fit in
    moved_fits c.args.at (atom_at mid c.in-Some.a) (subst IsFitting (sym same) one)

pub returns-in_err-goals : goal.returns-in_err-goals
returns-in_err-goals g c =
    let trees = g.S.Store.trees in
    let old = c.args.kernel.now in
    let mid = c.loop-a.kernel in
    let a = c.in-Some.a in
    let others = into_iter_items c.next.new.self in
    let at = c.args.at in
    let keeps = g.met.S.Store.grows_keeps old.store mid.store c.loop-a.invariant.grows in
    let left = subst (All (AtomIsKnown (trees old.store))) c.in-Some.ensures.steps.0 c.loop-a.invariant.known in
    let same = ap (at_byte at) (atom_same (trees old.store) (trees mid.store) keeps a (All-head (AtomIsKnown (trees old.store)) a others left)) in
    let uses : List GivenAtom → ℕ → Fate = λ xs goals. OneByOne (map (at_byte at) (map (atom_at (trees old.store)) xs)) goals c.args.goal in
    let all = uses c.args.atoms.items 1 in
    let rest = uses (into_iter_items c.loop-a.a-iterator) c.loop-a.goals in
    let fate = OnEach (RunAtom (at_byte at (atom_at (trees old.store) a))) c.loop-a.goals c.args.goal in
    let next : ℕ → Fate = λ new. uses others new in
    let is : rest ≡ Then fate next = ap (λ xs. uses xs c.loop-a.goals) c.in-Some.ensures.steps.0 in
    let e = err_from_is_err_and c.from_residual.result c.from_residual.ensures.1 in
    let here = now trees mid c.loop-a.trace in
    let after = now trees c.on_each.new.kernel c.on_each.new.trace in
    let becomes = subst (λ (x : Atom). Becomes (OnEach (RunAtom x) c.loop-a.goals c.args.goal) here after (Err c.in_err-goals.field-0.0)) same
    c.in_err-goals.ensures.fate in
    let over = reached_err trees old c.args.trace.now mid c.loop-a.trace c.on_each.new.kernel c.on_each.new.trace 1 c.loop-a.goals all rest fate next
    c.in_err-goals.field-0.0 c.loop-a.invariant.reached is becomes in
    let extends = extends_err trees old c.args.trace.now mid c.loop-a.trace c.on_each.new.kernel c.on_each.new.trace c.in_err-goals.field-0.0
    c.loop-a.invariant.reached.extends c.in_err-goals.ensures.extends in
    record {
      fate = rw (e.1, e.2) over;
      extends = rw (e.1, e.2) extends;
      rows = rows_longer trees old mid c.on_each.new.kernel c.loop-a.invariant.reached.extends.rows c.on_each.ensures.rows;
      left = rw e.1 tt;
      few = rw e.1 tt;
      grows = g.met.S.Store.grows_trans old.store mid.store c.on_each.new.kernel.store c.loop-a.invariant.grows c.on_each.ensures.grows;
    }

pub loop-a-preserved : goal.loop-a-preserved
loop-a-preserved g c =
    let trees = g.S.Store.trees in
    let old = c.args.kernel.now in
    let mid = c.loop-a.kernel in
    let a = c.in-Some.a in
    let others = into_iter_items c.next.new.self in
    let at = c.args.at in
    let keeps = g.met.S.Store.grows_keeps old.store mid.store c.loop-a.invariant.grows in
    let left = subst (All (AtomIsKnown (trees old.store))) c.in-Some.ensures.steps.0 c.loop-a.invariant.known in
    let fit = subst (λ (xs : List GivenAtom). All IsFitting (map (atom_at (trees old.store)) xs)) c.in-Some.ensures.steps.0 c.loop-a.invariant.fitting in
    let same = ap (at_byte at) (atom_same (trees old.store) (trees mid.store) keeps a (All-head (AtomIsKnown (trees old.store)) a others left)) in
    let uses : List GivenAtom → ℕ → Fate = λ xs goals. OneByOne (map (at_byte at) (map (atom_at (trees old.store)) xs)) goals c.args.goal in
    let all = uses c.args.atoms.items 1 in
    let rest = uses (into_iter_items c.loop-a.a-iterator) c.loop-a.goals in
    let fate = OnEach (RunAtom (at_byte at (atom_at (trees old.store) a))) c.loop-a.goals c.args.goal in
    let next : ℕ → Fate = λ new. uses others new in
    let is : rest ≡ Then fate next = ap (λ xs. uses xs c.loop-a.goals) c.in-Some.ensures.steps.0 in
    let new = c.in_ok-goals.goals in
    let here = now trees mid c.loop-a.trace in
    let after = now trees c.on_each.new.kernel c.on_each.new.trace in
    let made = subst (λ (x : Atom). OnEach (RunAtom x) c.loop-a.goals c.args.goal here (Done after new)) same c.in_ok-goals.ensures.fate in
    record {
      grows = g.met.S.Store.grows_trans old.store mid.store c.on_each.new.kernel.store c.loop-a.invariant.grows c.on_each.ensures.grows;
      known = All-tail (AtomIsKnown (trees old.store)) a others left;
      fitting = All-tail IsFitting (atom_at (trees old.store) a) (map (atom_at (trees old.store)) others) fit;
      reached = reached_on trees old c.args.trace.now mid c.loop-a.trace c.on_each.new.kernel c.on_each.new.trace 1 c.loop-a.goals 1 new c.loop-a.goals new
          all rest fate next c.loop-a.invariant.reached is made c.in_ok-goals.ensures.extends c.in_ok-goals.ensures.left c.in_ok-goals.ensures.few
          (omega arith);
    }

pub returns-clause-fate : goal.returns-clause-fate
returns-clause-fate g c =
    let trees = g.S.Store.trees in
    let old = c.args.kernel.now in
    let uses : List GivenAtom → ℕ → Fate = λ xs goals. OneByOne (map (at_byte c.args.at) (map (atom_at (trees old.store)) xs)) goals c.args.goal in
    let none : length (into_iter_items c.loop-a.a-iterator) ≡ 0 = sym c.loop-a.a-iterator.rest.ok.0 ∙ c.in-None.ensures.steps.0 in
    let ended : into_iter_items c.loop-a.a-iterator ≡ [] = nil_of (into_iter_items c.loop-a.a-iterator) none in
    reached_end trees old c.args.trace.now c.loop-a.kernel c.loop-a.trace 1 c.loop-a.goals (uses c.args.atoms.items 1)
    (uses (into_iter_items c.loop-a.a-iterator) c.loop-a.goals) c.loop-a.invariant.reached (ap (λ xs. uses xs c.loop-a.goals) ended)
