use Rattle.std.proofs.Common.{◌∙◌, sym, ap, subst, ◌++◌, map, arith}
use Rattle.std.specs.Prelude.{All}
use Rattle.std.proofs.lemmas.Bool.{false≢true}
use Rattle.dlk_store.specs.Stores.{tree}
use Rattle.dlk_tacsyn.specs.Ties.{atom_at, AtomIsKnown}
use Rattle.dlk_derive.specs.Plans.{plan_at}
use Rattle.dlk_derive.specs.Ties.{atom_of}
use Rattle.dlk_derive.proofs.Collecting.{all_uses, all_known}
use Rattle.dlk_derive.proofs.Looked.{one_node, found_is, under_smaller}
use Rattle.dlk_derive.proofs.Places.{no_shape, no_derivative, a_plan}
use Rattle.dlk_derive.proofs.Planned.{derivable_kid}
use Rattle.dlk_derive.proofs.planning.plan.Goals as goal

pub returns-in_default-under_differential-clause-fault : goal.returns-in_default-under_differential-clause-fault
returns-in_default-under_differential-clause-fault g c =
    no_shape (g.S.Store.trees c.args.store.now) c.args.s.now c.args.place c.args.path.now c.in-Some.found c.in-Some.ensures.found
    c.in_default-under_differential.ensures.kid

pub returns-then-not-has_derivative-clause-fault : goal.returns-then-not-has_derivative-clause-fault
returns-then-not-has_derivative-clause-fault g c =
    no_derivative (g.S.Store.trees c.args.store.now) c.args.s.now c.args.place c.args.path.now c.in-Some.found c.in-Some-under_differential.kid
    c.in-Some.ensures.found c.in-Some-under_differential.ensures.kid (λ w. false≢true (sym c.if-not-has_derivative.true ∙ c.has_derivative.ensures.value.1 w))

pub add_uses-requires-clause-derivable : goal.add_uses-requires-clause-derivable
add_uses-requires-clause-derivable g c =
    let trees = g.S.Store.trees c.args.store.now in
    let w = c.has_derivative.ensures.value.0 c.if-not-has_derivative.false in
    derivable_kid (tree trees c.in-Some.found) (tree trees c.in-Some-under_differential.kid) w.0 c.in-Some-under_differential.ensures.kid.stands w.1

pub returns-clause-plan : goal.returns-clause-plan
returns-clause-plan g c =
    let trees = g.S.Store.trees c.args.store.now in
    let calls = plan_at (tree trees c.in-Some-under_differential.kid) c.args.path.now in
    let is = c.in_ok-add_uses.ensures.uses ∙ ap (λ us. us ++ map (atom_of c.args.place) calls) c.new-uses.ensures.items in (
      calls,
      a_plan trees c.args.s.now c.args.place c.args.path.now c.in-Some.found c.in-Some-under_differential.kid c.in-Some.ensures.found
          c.in-Some-under_differential.ensures.kid (c.has_derivative.ensures.value.0 c.if-not-has_derivative.false),
      λ others. ap (map (atom_at others)) is ∙ all_uses others c.args.place calls,
    )

pub returns-clause-known : goal.returns-clause-known
returns-clause-known g c =
    let trees = g.S.Store.trees c.args.store.now in
    let calls = plan_at (tree trees c.in-Some-under_differential.kid) c.args.path.now in
    let is = c.in_ok-add_uses.ensures.uses ∙ ap (λ us. us ++ map (atom_of c.args.place) calls) c.new-uses.ensures.items in
    λ others. subst (All (AtomIsKnown others)) (sym is) (all_known others c.args.place calls)

pub returns-in_err-add_uses-clause-memory : goal.returns-in_err-add_uses-clause-memory
returns-in_err-add_uses-clause-memory g c = λ is.
    let trees = g.S.Store.trees c.args.store.now in (
      plan_at (tree trees c.in-Some-under_differential.kid) c.args.path.now,
      a_plan trees c.args.s.now c.args.place c.args.path.now c.in-Some.found c.in-Some-under_differential.kid c.in-Some.ensures.found
          c.in-Some-under_differential.ensures.kid (c.has_derivative.ensures.value.0 c.if-not-has_derivative.false),
    )

pub returns-in_default-under_differential-clause-cost : goal.returns-in_default-under_differential-clause-cost
returns-in_default-under_differential-clause-cost g c =
    let trees = g.S.Store.trees c.args.store.now in
    let most = found_is trees c.args.s.now c.args.place c.args.path.now c.in-Some.found c.in-Some.ensures.found in
    omega (arith, most, one_node (tree trees c.in-Some.found), c.in-Some.ensures.cost, c.in_default-under_differential.ensures.cost)

pub returns-then-not-has_derivative-clause-cost : goal.returns-then-not-has_derivative-clause-cost
returns-then-not-has_derivative-clause-cost g c =
    let trees = g.S.Store.trees c.args.store.now in
    let most = found_is trees c.args.s.now c.args.place c.args.path.now c.in-Some.found c.in-Some.ensures.found in
    omega (
      arith,
      most,
      one_node (tree trees c.in-Some.found),
      c.in-Some.ensures.cost,
      c.in-Some-under_differential.ensures.cost,
      c.has_derivative.ensures.cost,
    )

pub returns-in_err-add_uses-clause-cost : goal.returns-in_err-add_uses-clause-cost
returns-in_err-add_uses-clause-cost g c =
    let trees = g.S.Store.trees c.args.store.now in
    let most = found_is trees c.args.s.now c.args.place c.args.path.now c.in-Some.found c.in-Some.ensures.found in
    let less = under_smaller trees c.in-Some.found c.in-Some-under_differential.kid c.in-Some-under_differential.ensures.kid in
    omega (
      arith,
      most,
      less,
      c.in-Some.ensures.cost,
      c.in-Some-under_differential.ensures.cost,
      c.has_derivative.ensures.cost,
      c.in_err-add_uses.ensures.cost,
    )

pub returns-clause-cost : goal.returns-clause-cost
returns-clause-cost g c =
    let trees = g.S.Store.trees c.args.store.now in
    let most = found_is trees c.args.s.now c.args.place c.args.path.now c.in-Some.found c.in-Some.ensures.found in
    let less = under_smaller trees c.in-Some.found c.in-Some-under_differential.kid c.in-Some-under_differential.ensures.kid in
    omega (
      arith,
      most,
      less,
      c.in-Some.ensures.cost,
      c.in-Some-under_differential.ensures.cost,
      c.has_derivative.ensures.cost,
      c.in_ok-add_uses.ensures.cost,
    )
