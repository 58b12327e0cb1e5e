use Rattle.std.proofs.Common.{◌≡◌, [], ◌∷◌, rules, refl, sym, subst}
use Rattle.std.specs.Prelude.{codes}
use Rattle.dlk_tacsyn.specs.Tactics.{Atom}
use Rattle.dlk_tacsyn.specs.Ties.{argument_at}
use Rattle.dlk_library.specs.Library.{Expands, by_weakening, by_invariant, by_step}
use Rattle.dlk_library.proofs.calls.at_place.Goals as goal

pub returns-then-eq-clause-found : goal.returns-then-eq-clause-found
returns-then-eq-clause-found c = λ trees.
    let p = argument_at trees c.args.place.now in
    let atom : Atom = record { name = c.args.name.now; arguments = p ∷ []; at = c.args.at } in
    let name : c.args.name.now ≡ codes "dW" = search rules in
    subst (Expands atom) (sym (c.in_ok-weakening_of.ensures.made trees)) (by_weakening p name refl)

pub returns-then-eq-2-clause-found : goal.returns-then-eq-2-clause-found
returns-then-eq-2-clause-found c = λ trees.
    let p = argument_at trees c.args.place.now in
    let atom : Atom = record { name = c.args.name.now; arguments = p ∷ []; at = c.args.at } in
    let name : c.args.name.now ≡ codes "dI" = search rules in
    subst (Expands atom) (sym (c.in_ok-invariant_of.ensures.made trees)) (by_invariant p name refl)

pub returns-then-eq-3-clause-found : goal.returns-then-eq-3-clause-found
returns-then-eq-3-clause-found c = λ trees.
    let p = argument_at trees c.args.place.now in
    let atom : Atom = record { name = c.args.name.now; arguments = p ∷ []; at = c.args.at } in
    let name : c.args.name.now ≡ codes "step" = search rules in
    subst (Expands atom) (sym (c.in_ok-step_of.ensures.made trees)) (by_step p name refl)
