use Rattle.std.proofs.Common.{refl}
use Rattle.std.proofs.lemmas.Bool.{both_ways}
use Rattle.dlk_sequent.specs.Sequents.{IsKnown}
use Rattle.dlk_calculus.proofs.PlaceLaws.{At_All, At_place}
use Rattle.dlk_kernel.specs.Kernel.{IsKnownRow}
use Rattle.dlk_calculus.proofs.StepLaws.{first_no_fact_to_merge}
use Rattle.dlk_kernel.proofs.RowLaws.{no_such_fact}
use Rattle.dlk_kernel.proofs.MergeLaws.{merge_without_goal, merge_at_other, merged_given, merged_known}
use Rattle.dlk_kernel.proofs.LimitRows.{merge_full, merge_leaves_full, merge_row_within}
use Rattle.dlk_kernel.proofs.steps.merge.merge.Goals as goal

pub returns-in_default-clause-fault : goal.returns-in_default-clause-fault
returns-in_default-clause-fault g c =
    first_no_fact_to_merge _ c.args.fact c.args.goal c.args.by
    (λ h. no_such_fact (g.S.Store.trees c.args.store.now) c.args.rows.now c.args.fact c.in_default.ensures h.0)

pub returns-in_default-item_at-clause-fault : goal.returns-in_default-item_at-clause-fault
returns-in_default-item_at-clause-fault g c =
    first_no_fact_to_merge _ c.args.fact c.args.goal c.args.by
    (λ h. no_such_fact (g.S.Store.trees c.args.store.now) c.args.rows.now c.args.by c.in_default-item_at.ensures h.1)

pub returns-in_default-item_at-2-clause-fault : goal.returns-in_default-item_at-2-clause-fault
returns-in_default-item_at-2-clause-fault g c =
    merge_without_goal _ c.args.rows.now c.args.fact c.args.goal c.args.by c.in-Some.row.now c.in-Some-item_at.proof.now c.in-Some.ensures
    c.in-Some-item_at.ensures (rw c.as_slice.ensures at c.in_default-item_at-2.ensures)

pub same_sequent-requires-clause-first : goal.same_sequent-requires-clause-first
same_sequent-requires-clause-first g c =
    let trees = g.S.Store.trees c.args.store.now in
    let row = At_All (IsKnownRow trees) c.args.rows.now c.args.fact c.in-Some.row.now c.requires c.in-Some.ensures in
    rw c.value.ensures
    (At_All (IsKnown trees) c.in-Some.row.now.goals c.args.goal c.in-Some-item_at-2.s.now row.goals (rw c.as_slice.ensures at c.in-Some-item_at-2.ensures))

pub same_sequent-requires-clause-second : goal.same_sequent-requires-clause-second
same_sequent-requires-clause-second g c =
    rw c.value-2.ensures ((At_All (IsKnownRow (g.S.Store.trees c.args.store.now)) c.args.rows.now c.args.by c.in-Some-item_at.proof.now c.requires
    c.in-Some-item_at.ensures).conclusion)

pub returns-then-not-same_sequent-clause-fault : goal.returns-then-not-same_sequent-clause-fault
returns-then-not-same_sequent-clause-fault g c =
    merge_at_other _ c.args.rows.now c.args.fact c.args.goal c.args.by c.in-Some.row.now c.in-Some-item_at.proof.now c.in-Some.ensures c.in-Some-item_at.ensures
    c.in-Some-item_at-2.s.now (rw c.as_slice.ensures at c.in-Some-item_at-2.ensures)
    (λ e. absurd (both_ways c.same_sequent.result c.if-not-same_sequent.true ((rw (c.value.ensures, c.value-2.ensures) at c.same_sequent.ensures.1) e)))

pub with_all_at-requires : goal.with_all_at-requires
with_all_at-requires g c = At_place c.in-Some.row.now.goals c.args.goal c.in-Some-item_at-2.s.now (rw c.as_slice.ensures at c.in-Some-item_at-2.ensures)

pub join-requires-clause-old : goal.join-requires-clause-old
join-requires-clause-old g c =
    (At_All (IsKnownRow (g.S.Store.trees c.args.store.now)) c.args.rows.now c.args.fact c.in-Some.row.now c.requires c.in-Some.ensures).leaves

pub join-requires-clause-more : goal.join-requires-clause-more
join-requires-clause-more g c =
    (At_All (IsKnownRow (g.S.Store.trees c.args.store.now)) c.args.rows.now c.args.by c.in-Some-item_at.proof.now c.requires c.in-Some-item_at.ensures).leaves

pub returns-clause-given : goal.returns-clause-given
returns-clause-given g c =
    let joined = c.in_ok-leaves.ensures.joined in
    merged_given _ c.args.rows.now c.args.fact c.args.goal c.args.by c.in-Some.row.now c.in-Some-item_at.proof.now c.in-Some.ensures c.in-Some-item_at.ensures
    c.in-Some-item_at-2.s.now (rw c.as_slice.ensures at c.in-Some-item_at-2.ensures)
    (rw (c.value.ensures, c.value-2.ensures) at (c.same_sequent.ensures.0 c.if-not-same_sequent.false)) joined.0 joined.1 c.in_ok-leaves.leaves joined.2 _
    (rw (c.in_ok-conclusion.ensures, c.in_ok-goals.ensures, c.as_slice-2.ensures))

pub returns-clause-known : goal.returns-clause-known
returns-clause-known g c =
    let trees = g.S.Store.trees c.args.store.now in
    merged_known trees c.args.goal c.in-Some.row.now c.in-Some-item_at.proof.now
    (At_All (IsKnownRow trees) c.args.rows.now c.args.fact c.in-Some.row.now c.requires c.in-Some.ensures)
    (At_All (IsKnownRow trees) c.args.rows.now c.args.by c.in-Some-item_at.proof.now c.requires c.in-Some-item_at.ensures)
    c.in_ok-leaves.leaves c.in_ok-leaves.ensures.known _ (rw (c.in_ok-conclusion.ensures, c.in_ok-goals.ensures, c.as_slice-2.ensures))

pub returns-then-as_slice-gt-MOST_GOALS-clause-fault : goal.returns-then-as_slice-gt-MOST_GOALS-clause-fault
returns-then-as_slice-gt-MOST_GOALS-clause-fault g c =
    merge_full _ c.args.rows.now c.args.fact c.args.goal c.args.by c.in-Some.row.now c.in-Some-item_at.proof.now c.in-Some.ensures c.in-Some-item_at.ensures
    c.in-Some-item_at-2.s.now (rw c.as_slice.ensures at c.in-Some-item_at-2.ensures)
    (rw (c.value.ensures, c.value-2.ensures) at (c.same_sequent.ensures.0 c.if-not-same_sequent.false))
    c.in_ok-goals.goals (rw (c.in_ok-goals.ensures, c.as_slice-2.ensures) refl)
    (rw c.as_slice-3.ensures at c.if-as_slice-gt-MOST_GOALS.true)

pub returns-then-as_slice-gt-MOST_LEAVES-clause-fault : goal.returns-then-as_slice-gt-MOST_LEAVES-clause-fault
returns-then-as_slice-gt-MOST_LEAVES-clause-fault g c =
    let joined = c.in_ok-leaves.ensures.joined in
    merge_leaves_full _ c.args.rows.now c.args.fact c.args.goal c.args.by c.in-Some.row.now c.in-Some-item_at.proof.now c.in-Some.ensures
    c.in-Some-item_at.ensures
    c.in-Some-item_at-2.s.now (rw c.as_slice.ensures at c.in-Some-item_at-2.ensures)
    (rw (c.value.ensures, c.value-2.ensures) at (c.same_sequent.ensures.0 c.if-not-same_sequent.false))
    c.in_ok-goals.goals (rw (c.in_ok-goals.ensures, c.as_slice-2.ensures) refl)
    (rw c.as_slice-3.ensures at c.if-as_slice-gt-MOST_GOALS.false)
    c.in_ok-leaves.leaves joined.0 joined.1 joined.2
    (rw (c.as_slice-4.ensures, c.value-3.ensures) at c.if-as_slice-gt-MOST_LEAVES.true)

pub returns-clause-within : goal.returns-clause-within
returns-clause-within g c =
    let joined = c.in_ok-leaves.ensures.joined in
    merge_row_within _ c.args.rows.now c.args.fact c.args.goal c.args.by c.in-Some.row.now c.in-Some-item_at.proof.now c.in-Some.ensures
    c.in-Some-item_at.ensures
    c.in-Some-item_at-2.s.now (rw c.as_slice.ensures at c.in-Some-item_at-2.ensures)
    (rw (c.value.ensures, c.value-2.ensures) at (c.same_sequent.ensures.0 c.if-not-same_sequent.false))
    c.in_ok-goals.goals (rw (c.in_ok-goals.ensures, c.as_slice-2.ensures) refl)
    (rw c.as_slice-3.ensures at c.if-as_slice-gt-MOST_GOALS.false)
    c.in_ok-leaves.leaves joined.0 joined.1 joined.2
    (rw (c.as_slice-4.ensures, c.value-3.ensures) at c.if-as_slice-gt-MOST_LEAVES.false) _
    (rw c.in_ok-conclusion.ensures refl)
