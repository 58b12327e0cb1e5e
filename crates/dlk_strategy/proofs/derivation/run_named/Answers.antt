use Rattle.std.proofs.Common.{◌≡◌, Bool, true, false, rules, sym, subst}
use Rattle.dlk_tacsyn.specs.Ties.{atom_at}
use Rattle.dlk_strategy.specs.Runs.{is_derive, RunNamedBy}
use Rattle.dlk_strategy.specs.Ties.{now, Becomes}
use Rattle.dlk_strategy.proofs.Derivations.{by_name, by_other}
use Rattle.dlk_strategy.proofs.derivation.run_named.Goals as goal

pub derive-requires-clause-derivation : goal.derive-requires-clause-derivation
derive-requires-clause-derivation g c =
    let atom = atom_at (g.S.Store.trees c.args.kernel.now.store) c.args.atom.now in
    let name : is_derive atom ≡ true = search rules in
    by_name atom c.requires.run name

pub run_atom-requires-clause-fitting : goal.run_atom-requires-clause-fitting
run_atom-requires-clause-fitting g c =
    let atom = atom_at (g.S.Store.trees c.args.kernel.now.store) c.args.atom.now in
    let name : is_derive atom ≡ false = search rules in
    by_other atom c.requires.run name

pub returns-then-eq-clause-fate : goal.returns-then-eq-clause-fate
returns-then-eq-clause-fate g c =
    let trees = g.S.Store.trees in
    let atom = atom_at (trees c.args.kernel.now.store) c.args.atom.now in
    let name : is_derive atom ≡ true = search rules in
    subst (λ (derives : Bool). Becomes (RunNamedBy derives atom c.args.goal) (now trees c.args.kernel.now c.args.trace.now)
    (now trees c.derive.new.kernel c.derive.new.trace) c.derive.result) (sym name) c.derive.ensures.fate

pub returns-clause-fate : goal.returns-clause-fate
returns-clause-fate g c =
    let trees = g.S.Store.trees in
    let atom = atom_at (trees c.args.kernel.now.store) c.args.atom.now in
    let name : is_derive atom ≡ false = search rules in
    subst (λ (derives : Bool). Becomes (RunNamedBy derives atom c.args.goal) (now trees c.args.kernel.now c.args.trace.now)
    (now trees c.run_atom.new.kernel c.run_atom.new.trace) c.run_atom.result) (sym name) c.run_atom.ensures.fate
