use Rattle.std.proofs.Common.{◌≡◌, ◌∷◌, [], refl, sym, ap, subst, ◌∙◌}
use Rattle.std.proofs.lemmas.Result.{err_from_is_err_and}
use Rattle.dlk_calculus.specs.Rules.{PlaceAndName}
use Rattle.dlk_rules.specs.Steps.{side_of}
use Rattle.dlk_rules.specs.Words.{wanted}
use Rattle.dlk_tacsyn.specs.declared.tactic.Arg.TheVariants.{Word}
use Rattle.dlk_tacsyn.specs.Ties.{argument_at}
use Rattle.dlk_elab.specs.Atoms.{IsThere}
use Rattle.dlk_elab.proofs.RuleArguments.{one_item, two_items, for_place, for_places, for_formula, for_formula_alone, for_name, no_place, no_first}
use Rattle.dlk_elab.proofs.RuleArguments.{no_formula, no_place_behind_formula, no_word, no_formula_alone, place_fault}
use Rattle.dlk_elab.proofs.arguments.rule_arguments.Goals as goal

pub returns-in_err-i-in-OnePlace-clause-fault : goal.returns-in_err-i-in-OnePlace-clause-fault
returns-in_err-i-in-OnePlace-clause-fault c =
    let p = err_from_is_err_and c.from_residual.result c.from_residual.ensures.1 in
    let are : c.args.args.now ≡ c.at-item.result ∷ [] = one_item c.args.args.now c.at-item.result c.in-len1.len_at_least c.in-len1.len_below c.at-item.is in
    let wants = sym c.shape.ensures ∙ c.in-OnePlace.is in
    rw (p.1, p.2) (place_fault _ _ c.in_err-i-in-OnePlace.field-0.0 c.in_err-i-in-OnePlace.ensures.fault
    (λ h trees. no_place trees (side_of c.args.rule) c.args.args.now (wanted c.args.rule) c.at-item.result wants are
    (λ i. subst (λ side. ¬ IsThere side i (argument_at trees c.at-item.result)) c.side-side.ensures (h trees i))))

pub returns-in_err-i-in-TwoPlaces-clause-fault : goal.returns-in_err-i-in-TwoPlaces-clause-fault
returns-in_err-i-in-TwoPlaces-clause-fault c =
    let p = err_from_is_err_and c.from_residual-in_err-i-in-TwoPlaces.result c.from_residual-in_err-i-in-TwoPlaces.ensures.1 in
    let are : c.args.args.now ≡ c.first-item.result ∷ c.second-item.result ∷ [] =
    two_items c.args.args.now c.first-item.result c.second-item.result c.in-len2.len_at_least c.in-len2.len_below c.first-item.is c.second-item.is in
    let wants = sym c.shape.ensures ∙ c.in-TwoPlaces.is in
    rw (p.1, p.2) (place_fault _ _ c.in_err-i-in-TwoPlaces.field-0.0 c.in_err-i-in-TwoPlaces.ensures.fault
    (λ h trees. no_first trees (side_of c.args.rule) c.args.args.now (wanted c.args.rule) c.first-item.result c.second-item.result are wants
    (λ i. subst (λ side. ¬ IsThere side i (argument_at trees c.first-item.result)) c.side-side.ensures (h trees i))))

pub returns-in_default-formula-clause-fault : goal.returns-in_default-formula-clause-fault
returns-in_default-formula-clause-fault c =
    let are : c.args.args.now ≡ c.quoted-item.result ∷ c.at-item-then-args-lt3-2.result ∷ [] =
    two_items c.args.args.now c.quoted-item.result c.at-item-then-args-lt3-2.result c.in-len2-args.len_at_least c.in-len2-args.len_below c.quoted-item.is
    c.at-item-then-args-lt3-2.is in
    let wants = sym c.shape.ensures ∙ c.in-PlaceAndFormula.is in
    let none = c.in_default-formula.ensures.none in (
      refl,
      λ trees. no_formula trees (side_of c.args.rule) c.args.args.now (wanted c.args.rule) c.quoted-item.result c.at-item-then-args-lt3-2.result are
          wants none,
    )

pub returns-in_err-i-in-PlaceAndFormula-clause-fault : goal.returns-in_err-i-in-PlaceAndFormula-clause-fault
returns-in_err-i-in-PlaceAndFormula-clause-fault c =
    let p = err_from_is_err_and c.from_residual-in_err-i-in-PlaceAndFormula.result c.from_residual-in_err-i-in-PlaceAndFormula.ensures.1 in
    let are : c.args.args.now ≡ c.quoted-item.result ∷ c.at-item-then-args-lt3-2.result ∷ [] =
    two_items c.args.args.now c.quoted-item.result c.at-item-then-args-lt3-2.result c.in-len2-args.len_at_least c.in-len2-args.len_below c.quoted-item.is
    c.at-item-then-args-lt3-2.is in
    let wants = sym c.shape.ensures ∙ c.in-PlaceAndFormula.is in
    rw (p.1, p.2) (place_fault _ _ c.in_err-i-in-PlaceAndFormula.field-0.0 c.in_err-i-in-PlaceAndFormula.ensures.fault
    (λ h trees. no_place_behind_formula trees (side_of c.args.rule) c.args.args.now (wanted c.args.rule) c.quoted-item.result
    c.at-item-then-args-lt3-2.result are wants
    (λ i. subst (λ side. ¬ IsThere side i (argument_at trees c.at-item-then-args-lt3-2.result)) c.side-side.ensures (h trees i))))

pub returns-in_default-formula-2-clause-fault : goal.returns-in_default-formula-2-clause-fault
returns-in_default-formula-2-clause-fault c =
    let x = c.quoted-item-then-args-lt2-4.result in
    let are : c.args.args.now ≡ x ∷ [] = one_item c.args.args.now x c.in-len1-args.len_at_least c.in-len1-args.len_below c.quoted-item-then-args-lt2-4.is in
    let wants = sym c.shape.ensures ∙ c.in-OneFormula.is in
    (refl, λ trees. no_formula_alone trees (side_of c.args.rule) c.args.args.now (wanted c.args.rule) x wants are c.in_default-formula-2.ensures.none)

pub returns-in_default-word-clause-fault : goal.returns-in_default-word-clause-fault
returns-in_default-word-clause-fault c =
    let are : c.args.args.now ≡ c.named-item.result ∷ c.at-item-then-args-lt3-3.result ∷ [] =
    two_items c.args.args.now c.named-item.result c.at-item-then-args-lt3-3.result c.in-len2-args-2.len_at_least c.in-len2-args-2.len_below c.named-item.is
    c.at-item-then-args-lt3-3.is in
    let wants = sym c.shape.ensures ∙ c.in-PlaceAndName.is in (
      refl,
      λ trees. no_word trees (side_of c.args.rule) c.args.args.now (wanted c.args.rule) c.named-item.result c.at-item-then-args-lt3-3.result are wants
          c.in_default-word.ensures.none,
    )

pub returns-in_ok-i-in-OnePlace-clause-found : goal.returns-in_ok-i-in-OnePlace-clause-found
returns-in_ok-i-in-OnePlace-clause-found c = λ trees.
    let x = c.at-item.result in
    let are : c.args.args.now ≡ x ∷ [] = one_item c.args.args.now x c.in-len1.len_at_least c.in-len1.len_below c.at-item.is in
    let there = subst (λ side. IsThere side c.in_ok-i-in-OnePlace.i (argument_at trees x)) c.side-side.ensures (c.in_ok-i-in-OnePlace.ensures.ok trees) in
    for_place trees (side_of c.args.rule) c.args.args.now x c.in_ok-i-in-OnePlace.i are there

pub returns-in_ok-k-in-TwoPlaces-clause-found : goal.returns-in_ok-k-in-TwoPlaces-clause-found
returns-in_ok-k-in-TwoPlaces-clause-found c = λ trees.
    let x = c.first-item.result in
    let y = c.second-item.result in
    let are : c.args.args.now ≡ x ∷ y ∷ [] = two_items c.args.args.now x y c.in-len2.len_at_least c.in-len2.len_below c.first-item.is c.second-item.is in
    let there = subst (λ side. IsThere side c.in_ok-i-in-TwoPlaces.i (argument_at trees x)) c.side-side.ensures (c.in_ok-i-in-TwoPlaces.ensures.ok trees) in
    let also = subst (λ side. IsThere side c.in_ok-k-in-TwoPlaces.k (argument_at trees y)) c.side-side.ensures (c.in_ok-k-in-TwoPlaces.ensures.ok trees) in
    for_places trees (side_of c.args.rule) c.args.args.now x y c.in_ok-i-in-TwoPlaces.i c.in_ok-k-in-TwoPlaces.k are there also

pub returns-in_ok-i-in-PlaceAndFormula-clause-found : goal.returns-in_ok-i-in-PlaceAndFormula-clause-found
returns-in_ok-i-in-PlaceAndFormula-clause-found c = λ trees.
    let x = c.quoted-item.result in
    let y = c.at-item-then-args-lt3-2.result in
    let are : c.args.args.now ≡ x ∷ y ∷ [] =
    two_items c.args.args.now x y c.in-len2-args.len_at_least c.in-len2-args.len_below c.quoted-item.is c.at-item-then-args-lt3-2.is in
    let there = subst (λ side. IsThere side c.in_ok-i-in-PlaceAndFormula.i (argument_at trees y)) c.side-side.ensures
    (c.in_ok-i-in-PlaceAndFormula.ensures.ok trees) in
    for_formula trees (side_of c.args.rule) c.args.args.now x y c.in-Some.h c.in_ok-i-in-PlaceAndFormula.i are c.in-Some.ensures.found there

pub returns-in-Some-formula-clause-found : goal.returns-in-Some-formula-clause-found
returns-in-Some-formula-clause-found c = λ trees.
    let x = c.quoted-item-then-args-lt2-4.result in
    let are : c.args.args.now ≡ x ∷ [] = one_item c.args.args.now x c.in-len1-args.len_at_least c.in-len1-args.len_below c.quoted-item-then-args-lt2-4.is in
    for_formula_alone trees (side_of c.args.rule) c.args.args.now x c.in-Some-formula.h are c.in-Some-formula.ensures.found

pub returns-in_ok-y-in-PlaceAndName-clause-found : goal.returns-in_ok-y-in-PlaceAndName-clause-found
returns-in_ok-y-in-PlaceAndName-clause-found c = λ trees.
    let x = c.named-item.result in
    let y = c.at-item-then-args-lt3-3.result in
    let are : c.args.args.now ≡ x ∷ y ∷ [] =
    two_items c.args.args.now x y c.in-len2-args-2.len_at_least c.in-len2-args-2.len_below c.named-item.is c.at-item-then-args-lt3-3.is in
    let there = subst (λ side. IsThere side c.in_ok-i-in-PlaceAndName.i (argument_at trees y)) c.side-side.ensures (c.in_ok-i-in-PlaceAndName.ensures.ok
    trees) in
    let named = c.in-Some-word.ensures.found ∙ ap Word c.in_ok-y-in-PlaceAndName.ensures.cases in
    for_name trees (side_of c.args.rule) c.args.args.now x y c.in_ok-y-in-PlaceAndName.y c.in_ok-i-in-PlaceAndName.i are named there

pub returns-in_err-y-in-PlaceAndName-clause-memory : goal.returns-in_err-y-in-PlaceAndName-clause-memory
returns-in_err-y-in-PlaceAndName-clause-memory c = λ is trees.
    let x = c.named-item.result in
    let y = c.at-item-then-args-lt3-3.result in
    let are : c.args.args.now ≡ x ∷ y ∷ [] =
    two_items c.args.args.now x y c.in-len2-args-2.len_at_least c.in-len2-args-2.len_below c.named-item.is c.at-item-then-args-lt3-3.is in
    let there = subst (λ side. IsThere side c.in_ok-i-in-PlaceAndName.i (argument_at trees y)) c.side-side.ensures (c.in_ok-i-in-PlaceAndName.ensures.ok
    trees) in
    let wants = sym c.shape.ensures ∙ c.in-PlaceAndName.is in (
      PlaceAndName c.in_ok-i-in-PlaceAndName.i c.in-Some-word.y.now,
      sym wants,
      for_name trees (side_of c.args.rule) c.args.args.now x y c.in-Some-word.y.now c.in_ok-i-in-PlaceAndName.i are c.in-Some-word.ensures.found there,
    )
