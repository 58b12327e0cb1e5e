use Rattle.std.proofs.Common.{◌≡◌, [], ◌∷◌, rules, refl, sym, subst}
use Rattle.std.specs.Prelude.{codes}
use Rattle.dlk_store.specs.Stores.{tree}
use Rattle.dlk_tacsyn.specs.Tactics.{Atom, GivenFormula}
use Rattle.dlk_tacsyn.specs.Ties.{argument_at}
use Rattle.dlk_library.specs.Library.{Expands, by_loop, by_cut}
use Rattle.dlk_library.proofs.calls.with_formula.Goals as goal

pub returns-then-eq-clause-found : goal.returns-then-eq-clause-found
returns-then-eq-clause-found c = λ trees.
    let h = tree trees c.args.h in
    let p = argument_at trees c.args.place.now in
    let atom : Atom = record { name = c.args.name.now; arguments = GivenFormula h ∷ p ∷ []; at = c.args.at } in
    let name : c.args.name.now ≡ codes "loop" = search rules in
    subst (Expands atom) (sym (c.in_ok-loop_of.ensures.made trees)) (by_loop h p name refl)

pub returns-then-eq-2-clause-found : goal.returns-then-eq-2-clause-found
returns-then-eq-2-clause-found c = λ trees.
    let h = tree trees c.args.h in
    let p = argument_at trees c.args.place.now in
    let atom : Atom = record { name = c.args.name.now; arguments = GivenFormula h ∷ p ∷ []; at = c.args.at } in
    let name : c.args.name.now ≡ codes "dC" = search rules in
    subst (Expands atom) (sym (c.in_ok-cut_of.ensures.made trees)) (by_cut h p name refl)
