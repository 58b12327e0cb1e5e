use Rattle.std.proofs.Common.{◌≡◌, Option, None, IfSome, IfNone, sym, subst}
use Rattle.dlk_tacsyn.specs.declared.tactic.Atom.{Atom}
use Rattle.dlk_tacsyn.specs.declared.tactic.Tactic.{Tactic}
use Rattle.dlk_tacsyn.specs.Tactics.{One}
use Rattle.dlk_tacsyn.specs.Rows.{library_row_of}
use Rattle.dlk_tacsyn.specs.Ties.{atom_at, tactic_at}
use Rattle.dlk_library.specs.Library.{Expands}
use Rattle.dlk_library.specs.Expanded.{Expansion, stands_for, itself}
use Rattle.dlk_library.proofs.expanding.expansion.Goals as goal

pub returns-in-Some-clause-found : goal.returns-in-Some-clause-found
returns-in-Some-clause-found g c =
    let trees = g.S.Store.trees c.args.store.now in
    let found = λ (o : Option Tactic). IfSome o (λ t. Expands (atom_at trees c.args.atom.now) (tactic_at trees t)) in
    stands_for (subst found c.in-Some.is c.in_ok-t.ensures.found)

pub returns-in_ok-copy-in-None-clause-found : goal.returns-in_ok-copy-in-None-clause-found
returns-in_ok-copy-in-None-clause-found g c =
    let trees = g.S.Store.trees c.args.store.now in
    let none = λ (o : Option Tactic). IfNone o (library_row_of c.args.atom.now.name ≡ None) in
    subst (λ (a : Atom). Expansion (atom_at trees c.args.atom.now) (One (atom_at trees a))) (sym c.in_ok-copy-in-None.ensures)
    (itself (subst none c.in-None.is c.in_ok-t.ensures.none))
