use Rattle.std.proofs.Common.{arith}
use Rattle.dlk_store.specs.Stores.{kid_trees}
use Rattle.dlk_guard.specs.Smooth.{domain_parts}
use Rattle.dlk_guard.proofs.Below.{as_many}
use Rattle.dlk_guard.proofs.conditions.di_conditions.Goals as goal

pub returns-in_err-domain-clause-cost : goal.returns-in_err-domain-clause-cost
returns-in_err-domain-clause-cost g c = omega (arith, c.in_err-domain.ensures.cost)

pub returns-then-not-is_smooth_formula-clause-cost : goal.returns-then-not-is_smooth_formula-clause-cost
returns-then-not-is_smooth_formula-clause-cost g c =
    let trees = g.S.Store.trees c.args.store.now in
    let many = as_many trees (domain_parts (kid_trees trees c.args.kids.now)) c.as_slice.result.now c.in_ok-domain.domain.items c.as_slice.ensures.value
    c.in_ok-domain.ensures.parts in
    let smooth = rw many at c.is_smooth_formula.ensures.cost in
    omega (arith, smooth, c.in_ok-domain.ensures.cost)

pub returns-in_err-x-clause-cost : goal.returns-in_err-x-clause-cost
returns-in_err-x-clause-cost g c =
    let trees = g.S.Store.trees c.args.store.now in
    let parts = domain_parts (kid_trees trees c.args.kids.now) in
    let many = as_many trees parts c.as_slice.result.now c.in_ok-domain.domain.items c.as_slice.ensures.value c.in_ok-domain.ensures.parts in
    let again = as_many trees parts c.as_slice-2.result.now c.in_ok-domain.domain.items c.as_slice-2.ensures.value c.in_ok-domain.ensures.parts in
    let smooth = rw many at c.is_smooth_formula.ensures.cost in
    let loose = rw again at c.in_err-x.ensures.cost in
    omega (arith, smooth, loose, c.in_ok-domain.ensures.cost)
