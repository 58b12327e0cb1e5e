use Rattle.std.proofs.Common.{◌∙◌, ◌++◌, sym, ap, map, arith}
use Rattle.dlk_store.specs.Stores.{tree}
use Rattle.dlk_guard.specs.Smooth.{parts}
use Rattle.dlk_guard.proofs.LastKids.{domain_of, last_size}
use Rattle.dlk_guard.proofs.parts.domain_parts.Goals as goal

pub returns-clause-parts : goal.returns-clause-parts
returns-clause-parts g c =
    let trees = g.S.Store.trees c.args.store.now in
    let k = c.in-Some.domain.now in
    c.in_ok-add_parts.ensures.parts ∙ ap (λ ids. map (tree trees) ids ++ parts (tree trees k)) c.new-ids.ensures.items
    ∙ sym (domain_of trees c.args.kids.now k (sym c.in-Some.ensures.value))

pub returns-clause-cost : goal.returns-clause-cost
returns-clause-cost g c =
    let within = last_size (g.S.Store.trees c.args.store.now) c.args.kids.now c.in-Some.domain.now (sym c.in-Some.ensures.value) in
    omega (arith, within, c.in_ok-add_parts.ensures.cost)

pub returns-in_err-add_parts-clause-cost : goal.returns-in_err-add_parts-clause-cost
returns-in_err-add_parts-clause-cost g c =
    let within = last_size (g.S.Store.trees c.args.store.now) c.args.kids.now c.in-Some.domain.now (sym c.in-Some.ensures.value) in
    omega (arith, within, c.in_err-add_parts.ensures.cost)
