use Rattle.std.proofs.Common.{arith}
use Rattle.dlk_guard.proofs.Below.{terms_counted}
use Rattle.dlk_guard.proofs.conditions.dg_conditions.Goals as goal

pub returns-in_default-subtree-clause-cost : goal.returns-in_default-subtree-clause-cost
returns-in_default-subtree-clause-cost g c = omega (arith, c.in_default-subtree.ensures.cost)

pub returns-in_default-subtree-2-clause-cost : goal.returns-in_default-subtree-2-clause-cost
returns-in_default-subtree-2-clause-cost g c = omega (arith, c.in-Some-subtree.ensures.cost, c.in_default-subtree-2.ensures.cost)

pub returns-in_err-domain-clause-cost : goal.returns-in_err-domain-clause-cost
returns-in_err-domain-clause-cost g c =
    omega (arith, c.in-Some-subtree.ensures.cost, c.in-Some-subtree-2.ensures.cost, c.in_err-domain.ensures.cost)

pub returns-then-are_both_smooth-clause-cost : goal.returns-then-are_both_smooth-clause-cost
returns-then-are_both_smooth-clause-cost g c =
    let trees = g.S.Store.trees c.args.store.now in
    let counted = terms_counted trees c.args.kids.now c.as_slice.result.now c.in_ok-domain.domain.items c.in-Some.side c.in-Some-subtree.a
    c.in-Some-subtree-2.b _ _ c.as_slice.ensures.value c.in_ok-domain.ensures.parts (c.in-Some.ensures.value trees) c.in-Some-subtree.ensures.found
    c.in-Some-subtree-2.ensures.found c.are_both_smooth.ensures.cost in
    omega (arith, counted, c.in-Some-subtree.ensures.cost, c.in-Some-subtree-2.ensures.cost, c.in_ok-domain.ensures.cost)

pub returns-clause-cost : goal.returns-clause-cost
returns-clause-cost g c =
    let trees = g.S.Store.trees c.args.store.now in
    let counted = terms_counted trees c.args.kids.now c.as_slice.result.now c.in_ok-domain.domain.items c.in-Some.side c.in-Some-subtree.a
    c.in-Some-subtree-2.b _ _ c.as_slice.ensures.value c.in_ok-domain.ensures.parts (c.in-Some.ensures.value trees) c.in-Some-subtree.ensures.found
    c.in-Some-subtree-2.ensures.found c.are_both_smooth.ensures.cost in
    omega (arith, counted, c.in-Some-subtree.ensures.cost, c.in-Some-subtree-2.ensures.cost, c.in_ok-domain.ensures.cost)
