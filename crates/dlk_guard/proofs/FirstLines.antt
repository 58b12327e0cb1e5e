-- The first line that is refused: at most one, and one or none at all.
use Rattle.std.proofs.Common.{◌≡◌, ◌∙◌, refl, sym, subst, ap, ℕ, zero, suc, ◌-◌, ◌<◌, List, length, take, ◌⊎◌, inl, inr, arith, Option, None, Some}
use Rattle.std.specs.Prelude.{◌==◌}
use Rattle.std.proofs.lemmas.Bool.{cases_order}
use Rattle.std.proofs.lemmas.Option.{none-some, same_Some}
use Rattle.dlk_calculus.specs.Places.{at}
use Rattle.dlk_calculus.proofs.PlaceLaws.{at_one, At_place}
use Rattle.dlk_guard.specs.declared.why.Why.{Why}
use Rattle.dlk_guard.specs.Guarded.{Line, marks, line_why, IsRefused, Guarded, FirstUnguarded}

one_reason : (all : List Line) (n : ℕ) (w v : Why) → IsRefused all n w → IsRefused all n v → w ≡ v
one_reason all n w v a b =
    let same = at_one all n a.0 b.0 a.1 b.1 in
    same_Some w v (sym a.2 ∙ ap (line_why (marks (take (n - 1) all)) (n == length all)) same ∙ b.2)

-- there is at most one
pub one_first : (all : List Line) (m n : ℕ) (w v : Why) → FirstUnguarded all m w → FirstUnguarded all n v → (m ≡ n) × (w ≡ v)
one_first all m n w v a b =
    elim (cases_order m n) [
      | inl e ↦ (e, one_reason all n w v (subst (λ k. IsRefused all k w) e a.refused) b.refused)
      | inr (inl lt) ↦ absurd (b.first m w lt a.refused)
      | inr (inr lt) ↦ absurd (a.first n v lt b.refused)
    ]

-- none of the lines below n is refused
abbrev AreGoodBelow : List Line → ℕ → Type 0
AreGoodBelow all n = (m : ℕ) (w : Why) → m < n → ¬ IsRefused all m w

good_more : (all : List Line) (n : ℕ) → AreGoodBelow all n → ((w : Why) → ¬ IsRefused all n w) → AreGoodBelow all (suc n)
good_more all n good here m w lt refused =
    elim (cases_order m n) [
      | inl e ↦ here w (subst (λ k. IsRefused all k w) e refused)
      | inr (inl less) ↦ good m w less refused
      | inr (inr more) ↦ omega (arith, lt, more)
    ]

refused_at : (all : List Line) (n : ℕ) → ((w : Why) × IsRefused all n w) ⊎ ((w : Why) → ¬ IsRefused all n w)
refused_at all n = elim (item_cases (at all n)) [
  | inl none ↦ inr (λ w refused. none-some refused.0 (sym none ∙ refused.1))
  | inr l ↦ elim (reason_cases (line_why (marks (take (n - 1) all)) (n == length all) l.0)) [
    | inl good ↦ inr (λ w refused. none-some w
        (sym good ∙ ap (line_why (marks (take (n - 1) all)) (n == length all)) (at_one all n l.0 refused.0 l.1 refused.1) ∙ refused.2))
    | inr bad ↦ inl (bad.0, (l.0, l.1, bad.1))
  ]
]
  where
    item_cases : (o : Option Line) → (o ≡ None) ⊎ ((l : Line) × (o ≡ Some l))
    item_cases None = inl refl
    item_cases (Some l) = inr (l, refl)

    reason_cases : (o : Option Why) → (o ≡ None) ⊎ ((w : Why) × (o ≡ Some w))
    reason_cases None = inl refl
    reason_cases (Some w) = inr (w, refl)

good_or_refused : (all : List Line) (n : ℕ) → AreGoodBelow all n ⊎ ((m : ℕ) × (w : Why) × FirstUnguarded all m w)
good_or_refused all zero = inl (λ m w lt. absurd (omega (arith, lt)))
good_or_refused all (suc n) = elim (good_or_refused all n) [
  | inr refused ↦ inr refused
  | inl good ↦ elim (refused_at all n) [
    | inl bad ↦ inr (n, bad.0, record { refused = bad.1; first = good })
    | inr here ↦ inl (good_more all n good here)
  ]
]

pub guarded_or_first : (all : List Line) → Guarded all ⊎ ((n : ℕ) × (w : Why) × FirstUnguarded all n w)
guarded_or_first all = elim (good_or_refused all (suc (length all))) [
  | inl good ↦ inl (record { none = λ m w refused. good m w (omega (arith, (At_place all m refused.0 refused.1).1)) refused })
  | inr first ↦ inr first
]
