use Rattle.dlk_calculus.specs.Rules.{TwoPlaces}
use Rattle.dlk_lines.proofs.Forms.{if_none, argument_parts, two_places_are, no_place_behind}
use Rattle.dlk_lines.proofs.arguments.two_places.Goals as goal

pub returns-in_err-first-clause-none : goal.returns-in_err-first-clause-none
returns-in_err-first-clause-none c = if_none c.from_residual.result (λ w i k is.
    let p = argument_parts w c.args.text.now (TwoPlaces i k) is in
    c.in_err-first.ensures.none i p.0 p.1)

pub returns-in_err-second-clause-none : goal.returns-in_err-second-clause-none
returns-in_err-second-clause-none c =
    if_none c.from_residual-in_err-second.result (λ w. no_place_behind w c.args.text.now _ _ c.in_ok-first.ensures.found c.in_err-second.ensures)

pub returns-clause-found : goal.returns-clause-found
returns-clause-found c = λ w. two_places_are w c.args.text.now _ _ _ c.in_ok-first.ensures.found c.in_ok-second.ensures
