use Rattle.std.proofs.Common.{◌≡◌, [], ◌∷◌, map, false, None, bytes_eq, rules, sym, ap, subst, ◌∙◌}
use Rattle.std.specs.Prelude.{codes}
use Rattle.std.specs.List.{All}
use Rattle.std.proofs.lemmas.List.Elements.{recursion_from_All}
use Rattle.dlk_store.specs.Stores.{tree}
use Rattle.dlk_tacsyn.specs.declared.tactic.Arg.TheVariants as arg
use Rattle.dlk_tacsyn.specs.Rows.{is_at_place, is_with_formula, library_row_of}
use Rattle.dlk_tacsyn.specs.Ties.{argument_at, ArgumentIsKnown, atom_at}
use Rattle.dlk_library.specs.Library.{Expands, by_ghost, by_connectives}
use Rattle.dlk_library.proofs.Known.{if_none}
use Rattle.dlk_library.proofs.Shapes.{prop_there, ghost_there, none_at_place, none_with_formula, none_other}
use Rattle.dlk_library.proofs.expanding.expand.Goals as goal

pub returns-then-eq-clause-found : goal.returns-then-eq-clause-found
returns-then-eq-clause-found g c =
    let trees = g.S.Store.trees c.args.store.now in
    let atom = c.args.atom.now in
    let name : atom.name ≡ codes "prop" = search rules in
    subst (Expands (atom_at trees atom)) (sym (c.in_ok-propositional_of.ensures.made trees))
    (by_connectives name (prop_there trees atom c.requires.of_text name))

pub returns-in_default-clause-none : goal.returns-in_default-clause-none
returns-in_default-clause-none g c =
    let trees = g.S.Store.trees c.args.store.now in
    let atom = c.args.atom.now in
    let name : atom.name ≡ codes "dG" = search rules in
    absurd (ghost_there trees atom c.requires.of_text name (λ y d e p is. c.in_default.ensures.none y d e p (c.as_slice-args.ensures ∙ is)))

pub returns-then-eq-2-clause-found : goal.returns-then-eq-2-clause-found
returns-then-eq-2-clause-found g c =
    let trees = g.S.Store.trees c.args.store.now in
    let atom = c.args.atom.now in
    let name : atom.name ≡ codes "dG" = search rules in
    let are : atom.args ≡ arg.Word c.in-Some.y.now ∷ arg.Term c.in-Some.a ∷ arg.Term c.in-Some.b ∷ c.in-Some.place.now ∷ [] = search rules in
    subst (Expands (atom_at trees atom)) (sym (c.in_ok-ghost_of.ensures.made trees))
    (by_ghost c.in-Some.y.now (tree trees c.in-Some.a) (tree trees c.in-Some.b) (argument_at trees c.in-Some.place.now) name (ap (map (argument_at trees)) are))

pub returns-then-eq-2-clause-known : goal.returns-then-eq-2-clause-known
returns-then-eq-2-clause-known g c =
    let trees = g.S.Store.trees c.args.store.now in
    let items = arg.Word c.in-Some.y.now ∷ arg.Term c.in-Some.a ∷ arg.Term c.in-Some.b ∷ c.in-Some.place.now ∷ [] in
    let are : c.args.atom.now.args ≡ items = search rules in
    let all = recursion_from_All (ArgumentIsKnown trees) items (subst (All (ArgumentIsKnown trees)) are c.requires.known) in
    c.in_ok-ghost_of.ensures.known trees all.1.0 all.1.1.0 all.1.1.1.0

pub returns-in-Some-place_alone-clause-none : goal.returns-in-Some-place_alone-clause-none
returns-in-Some-place_alone-clause-none g c =
    let trees = g.S.Store.trees c.args.store.now in
    let atom = c.args.atom.now in
    let no_prop : bytes_eq atom.name (codes "prop") ≡ false = search rules in
    let not_ghost : bytes_eq atom.name (codes "dG") ≡ false = search rules in
    let are : atom.args ≡ c.in-Some-place_alone.place.now ∷ [] = search rules in
    if_none (is_at_place c.bytes-name.result.now ≡ false) (library_row_of atom.name ≡ None)
    (λ never. none_at_place trees atom c.requires.of_text no_prop not_ghost _ are (ap is_at_place (sym c.bytes-name.ensures.bytes) ∙ never))
    c.in_ok-at_place.field-0 c.in_ok-at_place.ensures.none

pub returns-in_default-formula_and_place-clause-none : goal.returns-in_default-formula_and_place-clause-none
returns-in_default-formula_and_place-clause-none g c =
    let trees = g.S.Store.trees c.args.store.now in
    let atom = c.args.atom.now in
    let no_prop : bytes_eq atom.name (codes "prop") ≡ false = search rules in
    let not_ghost : bytes_eq atom.name (codes "dG") ≡ false = search rules in
    none_other trees atom c.requires.of_text no_prop not_ghost (λ p is. c.in_default-place_alone.ensures.none p (c.as_slice-args.ensures ∙ is))
    (λ h p is. c.in_default-formula_and_place.ensures.none h p (c.as_slice-args.ensures ∙ is))

pub returns-clause-none : goal.returns-clause-none
returns-clause-none g c =
    let trees = g.S.Store.trees c.args.store.now in
    let atom = c.args.atom.now in
    let no_prop : bytes_eq atom.name (codes "prop") ≡ false = search rules in
    let not_ghost : bytes_eq atom.name (codes "dG") ≡ false = search rules in
    if_none (is_with_formula c.bytes-name.result.now ≡ false) (library_row_of atom.name ≡ None)
    (λ never. none_with_formula trees atom c.requires.of_text no_prop not_ghost
    (λ p is. c.in_default-place_alone.ensures.none p (c.as_slice-args.ensures ∙ is)) (ap is_with_formula (sym c.bytes-name.ensures.bytes) ∙ never))
    c.in_ok-with_formula.field-0 c.in_ok-with_formula.ensures.none
