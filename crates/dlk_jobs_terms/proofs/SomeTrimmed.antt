-- Of each term some steps are kept.
use Rattle.std.proofs.Common.{◌≡◌, sym, subst, ℕ, zero, suc, ◌+◌, ◌<◌, ◌≤◌, List, [], ◌∷◌, ◌++◌, inl, inr, length, take, get_or, arith}
use Rattle.std.proofs.Math.Seq.{take-suc, take-length}
use Rattle.std.proofs.lemmas.List.{length-take-le}
use Rattle.std.proofs.lemmas.Bool.{cases_order}
use Rattle.dlk_calculus.specs.Places.{At}
use Rattle.dlk_calculus.specs.Provables.{Provable}
use Rattle.dlk_calculus.specs.Steps.{Step, UseAxiom}
use Rattle.dlk_kernel.specs.Taken.{Takes}
use Rattle.dlk_rules.specs.Facts.{facts_of}
use Rattle.dlk_link.specs.Trimmed.{Names, IsNeeded, the_last, is_named, moved, Trims, Trimmed, nothing_read, not_needed, kept_before, is_kept}
use Rattle.dlk_link.proofs.Again.{get_in}
use Rattle.dlk_link.proofs.Kept.{at_some}
use Rattle.dlk_link.proofs.Named.{facts_before}
use Rattle.dlk_link.proofs.Names.{IsIn, in_from_contains, contains_from_in}
use Rattle.dlk_jobs_terms.proofs.SameStep.{RuleIsItsCall, same_number, same_step}

-- whether an item is one of a list
is_in : {A : Type 0} → ((x y : A) → Dec (x ≡ y)) → (x : A) (ys : List A) → Dec (IsIn x ys)
is_in same x [] = no (λ h. h)
is_in same x (y ∷ ys) = elim (same x y) [
  | yes e ↦ yes (inl e)
  | no n ↦ elim (is_in same x ys) [ yes h ↦ yes (inr h) | no m ↦ no (λ h. elim h [ inl e ↦ n e | inr b ↦ m b ]) ]
]

module _ (rule_is : RuleIsItsCall) (term : List Step) (rows : List Provable) (takes : Takes [] term rows) where
  named_after : {row fact : ℕ} {step : Step} → At term row step → Names step fact → fact < row
  named_after {row} {fact} {step} at names = (facts_before term rows row step fact takes at (in_from_contains (facts_of step) fact names)).1

  -- a needed row is one of the term
  in_range : (row : ℕ) → IsNeeded term row → row ≤ length term
  in_range _ the_last = omega arith
  in_range _ (is_named {row = r} needed at names) = let before = named_after at names in let rest = in_range r needed in omega (arith, before, rest)

  -- a needed row up to this last one names it
  record IsNamed (row last : ℕ) : Type 0 where
    by : ℕ
    step : Step
    after : row < by
    within : by ≤ last
    needed : IsNeeded term by
    at : At term by step
    names : Names step row

  within_more : (row last more : ℕ) (n : IsNamed row last) → n.by ≤ more → IsNamed row more
  within_more row last more n le = record { by = n.by; step = n.step; after = n.after; within = le; needed = n.needed; at = n.at; names = n.names }

  -- the last of these rows doesn't name it, and none of the others does
  by_place : (row last : ℕ) → ¬ IsNamed row last → (n : IsNamed row (suc last)) → (n.by ≡ suc last → ⊥) → ⊥
  by_place row last none n not_here = elim (cases_order n.by (suc last)) [
    | inl e ↦ not_here e
    | inr (inl lt) ↦ none (within_more row (suc last) last n (omega (arith, lt)))
    | inr (inr gt) ↦ let w = n.within in omega (arith, w, gt)
  ]

  -- the step of a row is one
  same_names : (row last : ℕ) (step : Step) → At term (suc last) step → (n : IsNamed row (suc last)) → n.by ≡ suc last → IsIn row (facts_of step)
  same_names row last step at n e =
      let again : At term (suc last) n.step = subst (λ k. At term k n.step) e n.at in
      let same : n.step ≡ step = cc in
      subst (λ s. IsIn row (facts_of s)) same (in_from_contains (facts_of n.step) row n.names)

  from_needed : (row : ℕ) → row < length term → IsNeeded term row → IsNamed row (length term)
  from_needed _ lt the_last = absurd (omega (arith, lt))
  from_needed _ lt (is_named {row = r} {step = s} needed at names) =
      record { by = r; step = s; after = named_after at names; within = in_range r needed; needed = needed; at = at; names = names }

  -- whether one of these rows names it that is needed, where that is decided of the rows behind it
  module _ (row : ℕ) (decided : (later : ℕ) → row < later → Dec (IsNeeded term later)) where
    here : (last : ℕ) → suc last ≤ length term → row < suc last → ¬ IsNamed row last → Dec (IsNamed row (suc last))
    here last few lt none =
        let step = get_or term last (UseAxiom []) in
        let at : At term (suc last) step = at_some term last (UseAxiom []) (omega (arith, few)) in
        elim (is_in same_number row (facts_of step)) [
          | no unnamed ↦ no (λ n. by_place row last none n (λ e. unnamed (same_names row last step at n e)))
          | yes has ↦ elim (decided (suc last) lt) [
            | yes need ↦
                yes (record {
                  by = suc last;
                  step = step;
                  after = lt;
                  within = omega arith;
                  needed = need;
                  at = at;
                  names =
                      contains_from_in (facts_of step) row has;
                })
            | no unneeded ↦ no (λ n. by_place row last none n (λ e. unneeded (subst (IsNeeded term) e n.needed)))
          ]
        ]

    named : (last : ℕ) → last ≤ length term → Dec (IsNamed row last)
    named zero few = no (λ n. let a = n.after in let b = n.within in omega (arith, a, b))
    named (suc last) few = elim (named last (omega (arith, few))) [
      | yes n ↦ let w = n.within in yes (within_more row last (suc last) n (omega (arith, w)))
      | no none ↦ elim (cases_order row (suc last)) [
        | inl e ↦ no (λ n. let a = n.after in by_place row last none n (λ at. omega (arith, a, at, e)))
        | inr (inr gt) ↦ no (λ n. let a = n.after in by_place row last none n (λ at. omega (arith, a, at, gt)))
        | inr (inl lt) ↦ here last few lt none
      ]
    ]

  -- a row from the last one on
  last_needed : (row : ℕ) → length term ≤ row → Dec (IsNeeded term row)
  last_needed row le = elim (cases_order row (length term)) [
    | inl e ↦ yes (subst (IsNeeded term) (sym e) the_last)
    | inr (inr gt) ↦ no (λ h. let b = in_range row h in omega (arith, b, gt))
    | inr (inl lt) ↦ absurd (omega (arith, le, lt))
  ]

  -- whether a row is needed, from the last one down
  needed : (more row : ℕ) → length term ≤ row + more → Dec (IsNeeded term row)
  needed zero row le = last_needed row (omega (arith, le))
  needed (suc more) row le = elim (cases_order row (length term)) [
    | inl e ↦ last_needed row (omega (arith, e))
    | inr (inr gt) ↦ last_needed row (omega (arith, gt))
    | inr (inl lt) ↦ elim (named row (λ later after. needed more later (omega (arith, le, after))) (length term) (omega arith)) [
      | yes n ↦ yes (is_named n.needed n.at n.names)
      | no none ↦ no (λ h. none (from_needed row lt h))
    ]
  ]

  -- what is kept of the first steps
  so_far : (n : ℕ) → n ≤ length term → (kept : List Step) × (numbers : List ℕ) × Trims term (take n term) kept numbers
  so_far zero le = ([], [], nothing_read)
  so_far (suc n) le =
      let d = UseAxiom [] in
      let step = get_or term n d in
      let before = so_far n (omega (arith, le)) in
      let count : length (take n term) ≡ n = length-take-le n term (omega (arith, le)) in
      let whole : take n term ++ step ∷ [] ≡ take (suc n) term = sym (take-suc term n d (omega (arith, le))) in
      let next = one_more (take n term) before.0 before.1 step before.2 in
      (next.0, next.1, subst (λ l. Trims term l next.0 next.1) whole next.2)
    where
      one_more : (read kept : List Step) (numbers : List ℕ) (step : Step) → Trims term read kept numbers →
          (more : List Step) × (others : List ℕ) × Trims term (read ++ step ∷ []) more others
      one_more read kept numbers step trims = elim (needed (length term) (length read + 1) (omega arith)) [
        | no n ↦ (kept, numbers ++ 0 ∷ [], not_needed step trims n)
        | yes need ↦ elim (is_in (same_step rule_is) (moved numbers step) kept) [
          | yes has ↦
              let place = get_in kept (moved numbers step) has in (kept, numbers ++ place.0 ∷ [], kept_before step place.0 trims need place.1)
          | no n ↦ (
            kept ++ moved numbers step ∷ [],
            numbers ++ (length kept + 1) ∷ [],
            is_kept step trims need (λ c. n (in_from_contains kept (moved numbers step) c)),
          )
        ]
      ]

  pub some_trimmed : (kept : List Step) × Trimmed term kept
  some_trimmed =
      let all = so_far (length term) (omega arith) in (all.0, (all.1, subst (λ l. Trims term l all.0 all.1) (take-length term) all.2))
