use Rattle.std.proofs.Common.{◌≡◌, map, ap, sym, subst, ◌∙◌, Option, Some, None}
use Rattle.dlk_rules.specs.declared.arguments.Side.{Side}
use Rattle.dlk_tacsyn.specs.Ties.{argument_at, atom_at}
use Rattle.dlk_strategy.specs.Runs.{side, RunAtomOn}
use Rattle.dlk_strategy.specs.Ties.{now, Becomes}
use Rattle.dlk_strategy.proofs.FixedAtoms.{none_fixed}
use Rattle.dlk_strategy.proofs.atoms.run_atom.Goals as goal

pub run_once-requires-clause-fixed : goal.run_once-requires-clause-fixed
run_once-requires-clause-fixed g c =
    let trees = g.S.Store.trees c.args.kernel.now.store in
    none_fixed (map (argument_at trees) c.args.atom.now.args)
    (ap (λ xs. side (map (argument_at trees) xs)) (sym c.as_slice.ensures) ∙ sym (c.first_side.ensures trees) ∙ c.in-None.is)

pub returns-in-None-clause-fate : goal.returns-in-None-clause-fate
returns-in-None-clause-fate g c =
    let trees = g.S.Store.trees in
    let atom = atom_at (trees c.args.kernel.now.store) c.args.atom.now in
    let none : None ≡ side atom.arguments = sym c.in-None.is ∙ c.first_side.ensures (trees c.args.kernel.now.store)
    ∙ ap (λ xs. side (map (argument_at (trees c.args.kernel.now.store)) xs)) c.as_slice.ensures in
    subst (λ (o : Option Side). Becomes (RunAtomOn atom o c.args.goal) (now trees c.args.kernel.now c.args.trace.now)
    (now trees c.run_once.new.kernel c.run_once.new.trace) c.run_once.result)
    none c.run_once.ensures.fate

pub returns-in-Some-clause-fate : goal.returns-in-Some-clause-fate
returns-in-Some-clause-fate g c =
    let trees = g.S.Store.trees in
    let atom = atom_at (trees c.args.kernel.now.store) c.args.atom.now in
    let some : Some c.in-Some.side ≡ side atom.arguments = sym c.in-Some.is ∙ c.first_side.ensures (trees c.args.kernel.now.store)
    ∙ ap (λ xs. side (map (argument_at (trees c.args.kernel.now.store)) xs)) c.as_slice.ensures in
    subst (λ (o : Option Side). Becomes (RunAtomOn atom o c.args.goal) (now trees c.args.kernel.now c.args.trace.now)
    (now trees c.try_places.new.kernel c.try_places.new.trace) c.try_places.result)
    some c.try_places.ensures.fate
