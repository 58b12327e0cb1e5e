use Rattle.std.proofs.Common.{refl}
use Rattle.std.proofs.lemmas.Result.{err_from_is_err_and}
use Rattle.dlk_sequent.specs.Sequents.{IsKnown}
use Rattle.dlk_rules.specs.Steps.{rule_at}
use Rattle.dlk_rules.proofs.OverIds.{of_formulas}
use Rattle.dlk_kernel.specs.Kernel.{IsKnownRow}
use Rattle.dlk_calculus.proofs.PlaceLaws.{At_All, At_place}
use Rattle.dlk_calculus.proofs.StepLaws.{first_no_fact_to_apply}
use Rattle.dlk_kernel.proofs.RowLaws.{no_such_fact, goal_not_there, goal_formulas, rule_refused, stands, applied_given, applied_known}
use Rattle.dlk_kernel.proofs.LimitRows.{apply_past, apply_full, apply_within}
use Rattle.dlk_kernel.proofs.steps.apply.apply.Goals as goal

pub returns-in_default-clause-fault : goal.returns-in_default-clause-fault
returns-in_default-clause-fault g c =
    first_no_fact_to_apply _ c.args.fact c.args.goal _ (no_such_fact (g.S.Store.trees c.args.store.now) c.args.rows.now c.args.fact c.in_default.ensures)

pub returns-in_default-item_at-clause-fault : goal.returns-in_default-item_at-clause-fault
returns-in_default-item_at-clause-fault g c =
    goal_not_there _ _ c.args.fact c.args.goal _ c.in-Some.row.now c.in-Some.ensures (rw c.as_slice.ensures at c.in_default-item_at.ensures)

pub premises-requires-clause-sequent : goal.premises-requires-clause-sequent
premises-requires-clause-sequent g c =
    let trees = g.S.Store.trees c.args.store.now in
    let row = At_All (IsKnownRow trees) c.args.rows.now c.args.fact c.in-Some.row.now c.requires.rows c.in-Some.ensures in
    rw c.value.ensures (of_formulas trees c.in-Some-item_at.s.now
    (At_All (IsKnown trees) c.in-Some.row.now.goals c.args.goal c.in-Some-item_at.s.now row.goals (rw c.as_slice.ensures at c.in-Some-item_at.ensures))
    (goal_formulas _ c.args.rows.now c.args.fact c.args.goal c.in-Some.row.now _ c.requires.formulas c.in-Some.ensures
    (rw c.as_slice.ensures at c.in-Some-item_at.ensures)))

pub returns-in_err-new-clause-fault : goal.returns-in_err-new-clause-fault
returns-in_err-new-clause-fault g c =
    let p = err_from_is_err_and c.from_residual.result c.from_residual.ensures.1 in
    rw (p.1, p.2) (rule_refused _ _ c.args.fact c.args.goal _ c.in-Some.row.now c.in-Some-item_at.s.now c.in-Some.ensures
    (rw c.as_slice.ensures at c.in-Some-item_at.ensures) _ (rw c.value.ensures at c.in_err-new.ensures.fault))

pub with_all_at-requires : goal.with_all_at-requires
with_all_at-requires g c = At_place c.in-Some.row.now.goals c.args.goal c.in-Some-item_at.s.now (rw c.as_slice.ensures at c.in-Some-item_at.ensures)

pub returns-clause-given : goal.returns-clause-given
returns-clause-given g c =
    let trees = g.S.Store.trees c.args.store.now in
    applied_given _ _ c.args.fact c.args.goal _ c.in-Some.row.now c.in-Some-item_at.s.now c.in-Some.ensures
    (rw c.as_slice.ensures at c.in-Some-item_at.ensures) _
    (g.met.S.Store.grows_keeps c.args.store.now c.premises.new.store c.premises.ensures.grows)
    (At_All (IsKnownRow trees) c.args.rows.now c.args.fact c.in-Some.row.now c.requires.rows c.in-Some.ensures)
    c.in_ok-new.new.items _ (rw (c.in_ok-conclusion.ensures, c.in_ok-goals.ensures, c.as_slice-3.ensures, c.in_ok-new-2.ensures, c.in_ok-leaves.ensures))
    (c.is_proper.ensures.proper trees) (rw c.value.ensures at c.in_ok-new.ensures.made.premises)

pub returns-clause-known : goal.returns-clause-known
returns-clause-known g c =
    let trees = g.S.Store.trees c.args.store.now in
    applied_known _ _ (g.met.S.Store.grows_keeps c.args.store.now c.premises.new.store c.premises.ensures.grows) c.in-Some.row.now
    (At_All (IsKnownRow trees) c.args.rows.now c.args.fact c.in-Some.row.now c.requires.rows c.in-Some.ensures)
    c.args.goal c.in_ok-new.new.items _ c.in_ok-new.ensures.made.known
    (rw (c.in_ok-conclusion.ensures, c.in_ok-goals.ensures, c.as_slice-3.ensures, c.in_ok-new-2.ensures, c.in_ok-leaves.ensures))

pub returns-in_err-limit_sequents-clause-fault : goal.returns-in_err-limit_sequents-clause-fault
returns-in_err-limit_sequents-clause-fault g c =
    let p = err_from_is_err_and c.from_residual-in_err-limit_sequents.result c.from_residual-in_err-limit_sequents.ensures.1 in
    rw (p.1, p.2) (apply_past _ _ c.args.fact c.args.goal _ c.in-Some.row.now c.in-Some-item_at.s.now c.in-Some.ensures
    (rw c.as_slice.ensures at c.in-Some-item_at.ensures) c.requires.limited _
    c.in_ok-new.new.items (c.is_proper.ensures.proper (g.S.Store.trees c.args.store.now)) (rw c.value.ensures at c.in_ok-new.ensures.made.premises) _
    (rw (c.as_slice-2.ensures, c.in_ok-new-2.ensures) at c.in_err-limit_sequents.ensures.past))

pub returns-then-as_slice-gt-MOST_GOALS-clause-fault : goal.returns-then-as_slice-gt-MOST_GOALS-clause-fault
returns-then-as_slice-gt-MOST_GOALS-clause-fault g c =
    apply_full _ _ c.args.fact c.args.goal _ c.in-Some.row.now c.in-Some-item_at.s.now c.in-Some.ensures
    (rw c.as_slice.ensures at c.in-Some-item_at.ensures) c.requires.limited _
    c.in_ok-new.new.items (c.is_proper.ensures.proper (g.S.Store.trees c.args.store.now)) (rw c.value.ensures at c.in_ok-new.ensures.made.premises)
    (rw (c.as_slice-2.ensures, c.in_ok-new-2.ensures) at c.in_ok-limit_sequents.ensures.within) c.in_ok-goals.goals
    (rw (c.in_ok-goals.ensures, c.as_slice-3.ensures, c.in_ok-new-2.ensures) refl)
    (rw c.as_slice-4.ensures at c.if-as_slice-gt-MOST_GOALS.true)

pub returns-clause-within : goal.returns-clause-within
returns-clause-within g c =
    let trees = g.S.Store.trees c.args.store.now in
    apply_within _ _ c.args.fact c.args.goal _ c.in-Some.row.now c.in-Some-item_at.s.now c.in-Some.ensures
    (rw c.as_slice.ensures at c.in-Some-item_at.ensures) c.requires.limited _
    c.in_ok-new.new.items (c.is_proper.ensures.proper (g.S.Store.trees c.args.store.now)) (rw c.value.ensures at c.in_ok-new.ensures.made.premises)
    (rw (c.as_slice-2.ensures, c.in_ok-new-2.ensures) at c.in_ok-limit_sequents.ensures.within) _
    (stands _ _ c.args.fact c.args.goal (rule_at trees c.args.rule.now) c.in-Some.row.now c.in-Some-item_at.s.now c.in-Some.ensures
    (rw c.as_slice.ensures at c.in-Some-item_at.ensures) _
    (g.met.S.Store.grows_keeps c.args.store.now c.premises.new.store c.premises.ensures.grows)
    (At_All (IsKnownRow trees) c.args.rows.now c.args.fact c.in-Some.row.now c.requires.rows c.in-Some.ensures)
    c.in_ok-new.new.items _ (rw (c.in_ok-conclusion.ensures, c.in_ok-goals.ensures, c.as_slice-3.ensures, c.in_ok-new-2.ensures, c.in_ok-leaves.ensures) refl))
    c.in_ok-goals.goals (rw (c.in_ok-goals.ensures, c.as_slice-3.ensures, c.in_ok-new-2.ensures) refl)
    (rw c.as_slice-4.ensures at c.if-as_slice-gt-MOST_GOALS.false)
