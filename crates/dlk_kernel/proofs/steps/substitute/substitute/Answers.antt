use Rattle.std.proofs.Common.{refl}
use Rattle.std.proofs.lemmas.Result.{err_from_is_err_and}
use Rattle.dlk_calculus.proofs.PlaceLaws.{At_All}
use Rattle.dlk_kernel.specs.Kernel.{IsKnownRow}
use Rattle.dlk_calculus.proofs.StepLaws.{first_no_fact_to_substitute}
use Rattle.dlk_kernel.proofs.RowLaws.{no_such_fact}
use Rattle.dlk_kernel.proofs.Substituted.{not_true, ill_refused, free_refused, substituted_given, none_refused}
use Rattle.dlk_sequent.specs.Growth.{pairs_at-kept}
use Rattle.dlk_sequent.proofs.KeptPairs.{AreKnownPairs-kept}
use Rattle.dlk_kernel.proofs.LimitRows.{subst_big, subst_deep, subst_within}
use Rattle.dlk_kernel.proofs.Looked.{unlooked, pairs_looked, fact_looked}
use Rattle.dlk_kernel.proofs.steps.substitute.substitute.Goals as goal

pub returns-in_default-clause-fault : goal.returns-in_default-clause-fault
returns-in_default-clause-fault g c =
    first_no_fact_to_substitute _ c.args.fact _ (no_such_fact (g.S.Store.trees c.args.store.now) c.args.rows.now c.args.fact c.in_default.ensures)

pub returns-in_err-sigma-clause-fault : goal.returns-in_err-sigma-clause-fault
returns-in_err-sigma-clause-fault g c =
    let r = err_from_is_err_and c.from_residual.result c.from_residual.ensures.1 in
    rw (r.1, r.2) (ill_refused _ c.args.rows.now c.args.fact c.in-Some.row.now _ c.in-Some.ensures _ c.in_err-sigma.ensures.ill)

pub returns-then-is_free_over_goals-clause-fault : goal.returns-then-is_free_over_goals-clause-fault
returns-then-is_free_over_goals-clause-fault g c =
    let free = (c.is_free_over_goals.ensures (g.S.Store.trees c.args.store.now) c.in_ok-sigma.ensures.made).0 c.if-is_free_over_goals.true in
    free_refused _ (g.met.S.Store.well_made c.args.store.now) c.args.rows.now c.args.fact c.in-Some.row.now c.in-Some.ensures c.args.pairs.now
    c.in_ok-sigma.sigma c.in_ok-sigma.ensures.pairs c.in_ok-sigma.ensures.made
    free.0 free.1

pub subst_row-requires-clause-known : goal.subst_row-requires-clause-known
subst_row-requires-clause-known g c =
    At_All (IsKnownRow (g.S.Store.trees c.args.store.now)) c.args.rows.now c.args.fact c.in-Some.row.now c.requires.rows c.in-Some.ensures

pub returns-in_err-made-clause-fault : goal.returns-in_err-made-clause-fault
returns-in_err-made-clause-fault g c =
    let r = err_from_is_err_and c.from_residual-in_err-made.result c.from_residual-in_err-made.ensures.1 in
    rw (r.1, r.2)
    (none_refused _ (g.met.S.Store.well_made c.args.store.now) c.args.rows.now c.args.fact c.in-Some.row.now c.in-Some.ensures c.args.pairs.now
    c.in_ok-sigma.sigma c.in_ok-sigma.ensures.pairs c.in_ok-sigma.ensures.made
    (λ h. not_true _ c.if-is_free_over_goals.false ((c.is_free_over_goals.ensures (g.S.Store.trees c.args.store.now) c.in_ok-sigma.ensures.made).1 h))
    c.subst_row.result c.in_err-made.field-0.0 c.in_err-made.was c.subst_row.ensures.none)

pub returns-clause-given : goal.returns-clause-given
returns-clause-given g c =
    substituted_given _ (g.met.S.Store.well_made c.args.store.now) c.args.rows.now c.args.fact c.in-Some.row.now c.in-Some.ensures c.args.pairs.now
    c.in_ok-sigma.sigma c.in_ok-sigma.ensures.pairs c.in_ok-sigma.ensures.made
    (λ h. not_true _ c.if-is_free_over_goals.false ((c.is_free_over_goals.ensures (g.S.Store.trees c.args.store.now) c.in_ok-sigma.ensures.made).1 h))
    _ c.in_ok-made.ensures.made

pub is_substituted_within-requires-clause-pairs : goal.is_substituted_within-requires-clause-pairs
is_substituted_within-requires-clause-pairs g c =
    AreKnownPairs-kept (g.met.S.Store.grows_keeps c.args.store.now c.subst_row.new.store c.subst_row.ensures.grows) c.args.pairs.now c.requires.pairs

pub is_substituted_within-requires-2-clause-pairs : goal.is_substituted_within-requires-2-clause-pairs
is_substituted_within-requires-2-clause-pairs g c =
    AreKnownPairs-kept (g.met.S.Store.grows_keeps c.args.store.now c.subst_row.new.store c.subst_row.ensures.grows) c.args.pairs.now c.requires.pairs

pub returns-then-not-is_substituted_within-clause-fault : goal.returns-then-not-is_substituted_within-clause-fault
returns-then-not-is_substituted_within-clause-fault g c =
    subst_big _ c.args.fact _ _
    (pairs_at-kept (g.met.S.Store.grows_keeps c.args.store.now c.subst_row.new.store c.subst_row.ensures.grows) c.args.pairs.now c.requires.pairs) _
    (substituted_given _ (g.met.S.Store.well_made c.args.store.now) c.args.rows.now c.args.fact c.in-Some.row.now c.in-Some.ensures c.args.pairs.now
    c.in_ok-sigma.sigma c.in_ok-sigma.ensures.pairs c.in_ok-sigma.ensures.made
    (λ h. not_true _ c.if-is_free_over_goals.false ((c.is_free_over_goals.ensures (g.S.Store.trees c.args.store.now) c.in_ok-sigma.ensures.made).1 h))
    _ c.in_ok-made.ensures.made)
    (cc (c.is_substituted_within.ensures, c.if-not-is_substituted_within.true))

pub returns-then-not-is_substituted_within-2-clause-fault : goal.returns-then-not-is_substituted_within-2-clause-fault
returns-then-not-is_substituted_within-2-clause-fault g c =
    subst_deep _ c.args.fact _ _
    (pairs_at-kept (g.met.S.Store.grows_keeps c.args.store.now c.subst_row.new.store c.subst_row.ensures.grows) c.args.pairs.now c.requires.pairs) _
    (substituted_given _ (g.met.S.Store.well_made c.args.store.now) c.args.rows.now c.args.fact c.in-Some.row.now c.in-Some.ensures c.args.pairs.now
    c.in_ok-sigma.sigma c.in_ok-sigma.ensures.pairs c.in_ok-sigma.ensures.made
    (λ h. not_true _ c.if-is_free_over_goals.false ((c.is_free_over_goals.ensures (g.S.Store.trees c.args.store.now) c.in_ok-sigma.ensures.made).1 h))
    _ c.in_ok-made.ensures.made)
    (cc (c.is_substituted_within.ensures, c.if-not-is_substituted_within.false)) (cc (c.is_substituted_within-2.ensures, c.if-not-is_substituted_within-2.true))

pub returns-clause-within : goal.returns-clause-within
returns-clause-within g c =
    subst_within _ c.args.fact _ _
    (pairs_at-kept (g.met.S.Store.grows_keeps c.args.store.now c.subst_row.new.store c.subst_row.ensures.grows) c.args.pairs.now c.requires.pairs) _
    (substituted_given _ (g.met.S.Store.well_made c.args.store.now) c.args.rows.now c.args.fact c.in-Some.row.now c.in-Some.ensures c.args.pairs.now
    c.in_ok-sigma.sigma c.in_ok-sigma.ensures.pairs c.in_ok-sigma.ensures.made
    (λ h. not_true _ c.if-is_free_over_goals.false ((c.is_free_over_goals.ensures (g.S.Store.trees c.args.store.now) c.in_ok-sigma.ensures.made).1 h))
    _ c.in_ok-made.ensures.made)
    (cc (c.is_substituted_within.ensures, c.if-not-is_substituted_within.false))
    (cc (c.is_substituted_within-2.ensures, c.if-not-is_substituted_within-2.false))

pub returns-in_default-clause-looks : goal.returns-in_default-clause-looks
returns-in_default-clause-looks g c = λ u. unlooked (g.S.Store.trees c.args.store.now) c.args.rows.now c.args.fact c.args.pairs.now _ _ refl

pub returns-in_err-sigma-clause-looks : goal.returns-in_err-sigma-clause-looks
returns-in_err-sigma-clause-looks g c = λ u.
    pairs_looked (g.S.Store.trees c.args.store.now) c.args.rows.now c.args.fact c.args.pairs.now _ _ c.substitution.ensures.looks

pub returns-then-is_free_over_goals-clause-looks : goal.returns-then-is_free_over_goals-clause-looks
returns-then-is_free_over_goals-clause-looks g c = λ u.
    pairs_looked (g.S.Store.trees c.args.store.now) c.args.rows.now c.args.fact c.args.pairs.now _ _ c.substitution.ensures.looks

pub returns-in_err-made-clause-looks : goal.returns-in_err-made-clause-looks
returns-in_err-made-clause-looks g c = λ u.
    fact_looked (g.S.Store.trees c.args.store.now) c.args.rows.now c.args.fact c.args.pairs.now _ c.in-Some.row.now c.in-Some.ensures
    c.in_ok-sigma.sigma.pairs c.in_ok-sigma.ensures.pairs _ _ c.substitution.ensures.looks (c.subst_row.ensures.looks u)

pub returns-then-not-is_substituted_within-clause-looks : goal.returns-then-not-is_substituted_within-clause-looks
returns-then-not-is_substituted_within-clause-looks g c = λ u.
    fact_looked (g.S.Store.trees c.args.store.now) c.args.rows.now c.args.fact c.args.pairs.now _ c.in-Some.row.now c.in-Some.ensures
    c.in_ok-sigma.sigma.pairs c.in_ok-sigma.ensures.pairs _ _ c.substitution.ensures.looks (c.subst_row.ensures.looks u)

pub returns-then-not-is_substituted_within-2-clause-looks : goal.returns-then-not-is_substituted_within-2-clause-looks
returns-then-not-is_substituted_within-2-clause-looks g c = λ u.
    fact_looked (g.S.Store.trees c.args.store.now) c.args.rows.now c.args.fact c.args.pairs.now _ c.in-Some.row.now c.in-Some.ensures
    c.in_ok-sigma.sigma.pairs c.in_ok-sigma.ensures.pairs _ _ c.substitution.ensures.looks (c.subst_row.ensures.looks u)

pub returns-clause-looks : goal.returns-clause-looks
returns-clause-looks g c = λ u.
    fact_looked (g.S.Store.trees c.args.store.now) c.args.rows.now c.args.fact c.args.pairs.now _ c.in-Some.row.now c.in-Some.ensures
    c.in_ok-sigma.sigma.pairs c.in_ok-sigma.ensures.pairs _ _ c.substitution.ensures.looks (c.subst_row.ensures.looks u)
