use Rattle.std.proofs.Common.{◌∙◌, ◌||◌, sym, ap, map, arith}
use Rattle.dlk_store.specs.Stores.{tree, kid_trees}
use Rattle.dlk_guard.specs.Smooth.{is_kept_off_zero, ends_in_divisor}
use Rattle.dlk_guard.proofs.LastKids.{none_last, last_size, divisor_is}
use Rattle.dlk_guard.proofs.smooth.ends_in_divisor.Goals as goal

pub returns-in_default-clause-value : goal.returns-in_default-clause-value
returns-in_default-clause-value g c =
    let trees = g.S.Store.trees c.args.store.now in
    let domain = map (tree trees) c.args.domain.now in
    sym (ap (λ ks. ends_in_divisor domain (kid_trees trees ks)) (none_last c.args.ids.now (sym c.in_default.ensures.value)))

pub returns-then-is_constant-clause-value : goal.returns-then-is_constant-clause-value
returns-then-is_constant-clause-value g c =
    let trees = g.S.Store.trees c.args.store.now in
    let domain = map (tree trees) c.args.domain.now in
    let one = sym c.is_constant.ensures.value ∙ c.if-is_constant.true in
    c.if-is_constant.true ∙ sym (divisor_is trees domain c.args.ids.now c.in-Some.id.now (sym c.in-Some.ensures.value)
    ∙ ap (λ b. b || is_kept_off_zero domain (tree trees c.in-Some.id.now)) one)

pub returns-else-is_constant-clause-value : goal.returns-else-is_constant-clause-value
returns-else-is_constant-clause-value g c =
    let trees = g.S.Store.trees c.args.store.now in
    let domain = map (tree trees) c.args.domain.now in
    let none = sym c.is_constant.ensures.value ∙ c.if-is_constant.false in
    c.is_kept_off_zero.ensures.value ∙ sym (divisor_is trees domain c.args.ids.now c.in-Some.id.now (sym c.in-Some.ensures.value)
    ∙ ap (λ b. b || is_kept_off_zero domain (tree trees c.in-Some.id.now)) none)

pub returns-then-is_constant-clause-cost : goal.returns-then-is_constant-clause-cost
returns-then-is_constant-clause-cost g c =
    let within = last_size (g.S.Store.trees c.args.store.now) c.args.ids.now c.in-Some.id.now (sym c.in-Some.ensures.value) in
    omega (arith, within, c.is_constant.ensures.cost)

pub returns-else-is_constant-clause-cost : goal.returns-else-is_constant-clause-cost
returns-else-is_constant-clause-cost g c =
    let within = last_size (g.S.Store.trees c.args.store.now) c.args.ids.now c.in-Some.id.now (sym c.in-Some.ensures.value) in
    omega (arith, within, c.is_constant.ensures.cost, c.is_kept_off_zero.ensures.cost)
