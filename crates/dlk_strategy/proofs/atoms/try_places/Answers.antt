use Rattle.std.proofs.Common.{◌+◌, List, length, refl, sym, ap, subst, ◌∙◌, arith}
use Rattle.dlk_calculus.specs.Provables.{Provable}
use Rattle.dlk_kernel.specs.Kernel.{facts}
use Rattle.dlk_tacsyn.specs.Tactics.{Atom}
use Rattle.dlk_tacsyn.specs.Rows.{IsFitting}
use Rattle.dlk_tacsyn.specs.Ties.{atom_at}
use Rattle.dlk_elab.specs.Atoms.{HasNoLocator}
use Rattle.dlk_strategy.specs.Runs.{Once, Done, Fails, Budget, main_goals, placed}
use Rattle.dlk_strategy.specs.Ties.{now}
use Rattle.dlk_strategy.proofs.States.{at_place}
use Rattle.dlk_strategy.proofs.FixedAtoms.{placed_fixed, placed_fitting}
use Rattle.dlk_strategy.proofs.Trying.{atom_same, atom_known, back_now, back_known, back_extends, back_then_back, leads_first, leads_on, leads_done}
use Rattle.dlk_strategy.proofs.Trying.{leads_over, leads_fail}
use Rattle.dlk_strategy.proofs.atoms.try_places.Goals as goal

pub loop-place-init : goal.loop-place-init
loop-place-init g c = record {
  grows = g.met.S.Store.grows_refl c.args.kernel.now.store;
  back = record { rows = record { ids = refl; provables = refl }; steps = refl; counted = omega arith; within = c.requires.ready.used };
  leads = leads_first (atom_at (g.S.Store.trees c.args.kernel.now.store) c.args.atom.now) c.args.side c.args.goal
      (now g.S.Store.trees c.args.kernel.now c.args.trace.now);
}

pub run_once-requires-clause-ready : goal.run_once-requires-clause-ready
run_once-requires-clause-ready g c =
    let trees = g.S.Store.trees in
    let old = c.args.kernel.now in
    let mid = c.loop-place.kernel in
    let keeps = g.met.S.Store.grows_keeps old.store mid.store c.loop-place.invariant.grows in
    let same = ap (λ (rows : List Provable). length (main_goals rows)) c.loop-place.invariant.back.rows.provables in
    record {
      known = back_known trees old c.args.trace.now mid c.loop-place.trace keeps c.requires.ready.known c.loop-place.invariant.back;
      first = c.requires.ready.first;
      room = omega (arith, c.requires.ready.room, same);
      few = omega (arith, c.requires.ready.few, same);
      used = c.loop-place.invariant.back.within;
    }

pub run_once-requires-clause-known : goal.run_once-requires-clause-known
run_once-requires-clause-known g c =
    let trees = g.S.Store.trees in
    let old = c.args.kernel.now in
    let mid = c.loop-place.kernel in
    let keeps = g.met.S.Store.grows_keeps old.store mid.store c.loop-place.invariant.grows in
    c.in_ok-placed.ensures.known (trees mid.store) (atom_known (trees old.store) (trees mid.store) keeps c.args.atom.now c.requires.known)

pub run_once-requires-clause-fitting : goal.run_once-requires-clause-fitting
run_once-requires-clause-fitting g c =
    let trees = g.S.Store.trees in
    let old = c.args.kernel.now in
    let mid = c.loop-place.kernel in
    let keeps = g.met.S.Store.grows_keeps old.store mid.store c.loop-place.invariant.grows in
    let atom = atom_at (trees old.store) c.args.atom.now in
    let e = c.in_ok-placed.ensures.made (trees mid.store)
    ∙ ap (placed (c.loop-place.place + 1)) (atom_same (trees old.store) (trees mid.store) keeps c.args.atom.now c.requires.known) in
    subst IsFitting (sym e) (placed_fitting (c.loop-place.place + 1) atom c.requires.fitting)

pub run_once-requires-clause-fixed : goal.run_once-requires-clause-fixed
run_once-requires-clause-fixed g c =
    let trees = g.S.Store.trees in
    let old = c.args.kernel.now in
    let mid = c.loop-place.kernel in
    let keeps = g.met.S.Store.grows_keeps old.store mid.store c.loop-place.invariant.grows in
    let atom = atom_at (trees old.store) c.args.atom.now in
    let e = c.in_ok-placed.ensures.made (trees mid.store)
    ∙ ap (placed (c.loop-place.place + 1)) (atom_same (trees old.store) (trees mid.store) keeps c.args.atom.now c.requires.known) in
    subst HasNoLocator (sym e) (placed_fixed (c.loop-place.place + 1) atom)

pub returns-in-Err-Budget-clause-fate : goal.returns-in-Err-Budget-clause-fate
returns-in-Err-Budget-clause-fate g c =
    let trees = g.S.Store.trees in
    let old = c.args.kernel.now in
    let mid = c.loop-place.kernel in
    let keeps = g.met.S.Store.grows_keeps old.store mid.store c.loop-place.invariant.grows in
    let atom = atom_at (trees old.store) c.args.atom.now in
    let e = c.in_ok-placed.ensures.made (trees mid.store)
    ∙ ap (placed (c.loop-place.place + 1)) (atom_same (trees old.store) (trees mid.store) keeps c.args.atom.now c.requires.known) in
    let found = at_place (main_goals (facts trees old)) c.args.goal c.requires.ready.first (omega (arith, c.requires.ready.room)) in
    let here = now trees mid c.loop-place.trace in
    let fate = rw c.in-Err-Budget.field-0-is at c.in-Err-Budget.ensures.fate in
    let once = subst (λ (a : Atom). Once a c.args.goal here (Budget c.in-Err-Budget.at)) e fate in
    leads_over atom c.args.side c.args.goal c.loop-place.place c.places_on-places.result c.in-Err-Budget.at c.loop-place.why (now trees old c.args.trace.now)
    here found.0
    c.loop-place-test.true c.places_on-places.ensures found.1 once c.loop-place.invariant.leads

pub returns-in-Ok-clause-fate : goal.returns-in-Ok-clause-fate
returns-in-Ok-clause-fate g c =
    let trees = g.S.Store.trees in
    let old = c.args.kernel.now in
    let mid = c.loop-place.kernel in
    let keeps = g.met.S.Store.grows_keeps old.store mid.store c.loop-place.invariant.grows in
    let atom = atom_at (trees old.store) c.args.atom.now in
    let e = c.in_ok-placed.ensures.made (trees mid.store)
    ∙ ap (placed (c.loop-place.place + 1)) (atom_same (trees old.store) (trees mid.store) keeps c.args.atom.now c.requires.known) in
    let found = at_place (main_goals (facts trees old)) c.args.goal c.requires.ready.first (omega (arith, c.requires.ready.room)) in
    let here = now trees mid c.loop-place.trace in
    let made = now trees c.run_once.new.kernel c.run_once.new.trace in
    let once = subst (λ (a : Atom). Once a c.args.goal here (Done made c.in-Ok.left)) e c.in-Ok.ensures.fate in
    leads_done atom c.args.side c.args.goal c.loop-place.place c.places_on-places.result c.in-Ok.left c.loop-place.why (now trees old c.args.trace.now) here
    made found.0
    c.loop-place-test.true c.places_on-places.ensures found.1 once c.loop-place.invariant.leads

pub loop-place-preserved : goal.loop-place-preserved
loop-place-preserved g c =
    let trees = g.S.Store.trees in
    let old = c.args.kernel.now in
    let mid = c.loop-place.kernel in
    let keeps = g.met.S.Store.grows_keeps old.store mid.store c.loop-place.invariant.grows in
    let atom = atom_at (trees old.store) c.args.atom.now in
    let e = c.in_ok-placed.ensures.made (trees mid.store)
    ∙ ap (placed (c.loop-place.place + 1)) (atom_same (trees old.store) (trees mid.store) keeps c.args.atom.now c.requires.known) in
    let here = now trees mid c.loop-place.trace in
    let used = c.run_once.new.trace.used in
    let fate = rw c.in-Err-Fails.field-0-is at c.in-Err-Fails.ensures.fate in
    let back = rw c.in-Err-Fails.field-0-is at c.in-Err-Fails.ensures.back in
    let once = subst (λ (a : Atom). Once a c.args.goal here (Fails c.in-Err-Fails.field-0-0 c.in-Err-Fails.last used)) e fate in
    let known = back_known trees old c.args.trace.now mid c.loop-place.trace keeps c.requires.ready.known c.loop-place.invariant.back in
    let further = g.met.S.Store.grows_keeps mid.store c.run_once.new.kernel.store c.run_once.ensures.grows in
    record {
      grows = g.met.S.Store.grows_trans old.store mid.store c.run_once.new.kernel.store c.loop-place.invariant.grows c.run_once.ensures.grows;
      back = back_then_back trees old c.args.trace.now mid c.loop-place.trace c.run_once.new.kernel c.run_once.new.trace c.loop-place.invariant.back back;
      leads = leads_on atom c.args.side c.args.goal c.loop-place.place c.places_on-places.result c.in-Err-Fails.field-0-0 used c.loop-place.why
          c.in-Err-Fails.last
          (now trees old c.args.trace.now) here (now trees c.run_once.new.kernel c.run_once.new.trace) c.loop-place-test.true c.places_on-places.ensures once
          (back_now trees mid c.loop-place.trace c.run_once.new.kernel c.run_once.new.trace further known back) c.loop-place.invariant.leads;
    }

pub returns-clause-fate : goal.returns-clause-fate
returns-clause-fate g c =
    let trees = g.S.Store.trees in
    let old = c.args.kernel.now in
    let found = at_place (main_goals (facts trees old)) c.args.goal c.requires.ready.first (omega (arith, c.requires.ready.room)) in
    leads_fail (atom_at (trees old.store) c.args.atom.now) c.args.side c.args.goal c.loop-place.place c.places_on-places.result c.loop-place.why
    (now trees old c.args.trace.now)
    (now trees c.loop-place.kernel c.loop-place.trace) found.0 c.loop-place-test.false c.places_on-places.ensures found.1 c.loop-place.invariant.leads

pub returns-clause-extends : goal.returns-clause-extends
returns-clause-extends g c =
    let trees = g.S.Store.trees in
    let old = c.args.kernel.now in
    let mid = c.loop-place.kernel in
    let keeps = g.met.S.Store.grows_keeps old.store mid.store c.loop-place.invariant.grows in
    back_extends trees old c.args.trace.now mid c.loop-place.trace keeps c.requires.ready.known c.loop-place.invariant.back
