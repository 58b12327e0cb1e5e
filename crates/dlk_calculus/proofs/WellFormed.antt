-- Pairs have at most one first bad one, or are well formed. Nothing speaks against a pair of a well-formed list, and what holds of each pair
-- holds of the replacement that is found.
use Rattle.std.proofs.Common.{◌≡◌, ◌∙◌, refl, sym, subst, ap, ℕ, zero, suc, ◌-◌, ◌<◌, List, [], ◌∷◌, length, take, get_or, Bool, true, false, not, cond}
use Rattle.std.proofs.Common.{Option, None, Some, find, ◌⊎◌, inl, inr, arith}
use Rattle.std.specs.Prelude.{All, IsTrue}
use Rattle.std.proofs.lemmas.Bool.{cases_order}
use Rattle.std.proofs.lemmas.Option.{none-some, same_Some, slice_get-get_or}
use Rattle.std.proofs.lemmas.List.Elements.{All-tail, All-head, All-weaker}
use Rattle.dlk_tree.specs.declared.op.Sym.{Sym}
use Rattle.dlk_tree.specs.Tests.{sym_eq}
use Rattle.dlk_tree.specs.Trees.{Tree, WellMade}
use Rattle.dlk_tree.proofs.Same.{sym_eq_decides}
use Rattle.dlk_calculus.specs.declared.why.Why.{Why}
use Rattle.dlk_calculus.specs.declared.why.Why.TheVariants as Why'
use Rattle.dlk_calculus.specs.Pairs.{Pair, replacement, is_of_kind, is_against, why, IsIll, FirstIll, IsWellFormed, AreWellMade}
use Rattle.dlk_calculus.specs.Places.{at}
use Rattle.dlk_calculus.proofs.PlaceLaws.{at_suc, at_one, At_place}

none_found : {A : Type 0} (test : A → Bool) (x : A) (xs : List A) → find test (x ∷ xs) ≡ None → (test x ≡ false) × (find test xs ≡ None)
none_found test x xs e = go (test x) e
  where
    go : (b : Bool) → cond b (Some x) (find test xs) ≡ None → (b ≡ false) × (find test xs ≡ None)
    go true e = cc
    go false e = (refl, e)

-- no reason speaks against the pair behind these
abbrev IsFree : List Pair → Pair → Type 0
IsFree earlier p = (w : Why) → is_against w earlier p ≡ false

free_without_why : (earlier : List Pair) (p : Pair) → why earlier p ≡ None → IsFree earlier p
free_without_why earlier p e =
    let test = λ (w : Why). is_against w earlier p in
    let sort = none_found test Why'.Sort (Why'.Twice ∷ Why'.Dot ∷ Why'.Hole ∷ Why'.Taboo ∷ []) e in
    let twice = none_found test Why'.Twice (Why'.Dot ∷ Why'.Hole ∷ Why'.Taboo ∷ []) sort.1 in
    let dot = none_found test Why'.Dot (Why'.Hole ∷ Why'.Taboo ∷ []) twice.1 in
    let hole = none_found test Why'.Hole (Why'.Taboo ∷ []) dot.1 in
    let taboo = none_found test Why'.Taboo [] hole.1 in
    elim [ Why'.Sort ↦ sort.0 | Why'.Twice ↦ twice.0 | Why'.Dot ↦ dot.0 | Why'.Hole ↦ hole.0 | Why'.Taboo ↦ taboo.0 ]

-- no reason speaks against the pair behind some earlier ones
abbrev pub IsGood : Pair → Type 0
IsGood p = (earlier : List Pair) × ((w : Why) → is_against w earlier p ≡ false)

pub no_reason : (o : Option Why) → ((w : Why) → o ≡ Some w → ⊥) → o ≡ None
no_reason None h = refl
no_reason (Some w) h = absurd (h w refl)

pub good_pairs : (pairs : List Pair) → IsWellFormed pairs → All IsGood pairs
good_pairs pairs well i d lt =
    let p = get_or pairs i d in
    let there = at_suc pairs i ∙ slice_get-get_or pairs i d lt in
    let earlier = take (suc i - 1) pairs in
    (earlier, free_without_why earlier p (no_reason (why earlier p) (λ w e. well.none (suc i) w (p, there, e))))

not_false : (b : Bool) → not b ≡ false → IsTrue b
not_false true e = refl
not_false false e = cc

-- its replacement is of its symbol's sort
abbrev pub IsOfKind : Pair → Type 0
IsOfKind p = IsTrue (is_of_kind p.sym.kind p.by)

pub pairs_of_kind : (pairs : List Pair) → IsWellFormed pairs → All IsOfKind pairs
pairs_of_kind pairs e = All-weaker IsGood IsOfKind (λ p good. not_false (is_of_kind p.sym.kind p.by) (good.1 Why'.Sort)) pairs (good_pairs pairs e)

-- what holds of each pair holds of the symbol and its replacement
pub replacement_has : (P : Sym → Tree → Type 0) (pairs : List Pair) (s : Sym) (r : Tree) → All (λ (p : Pair). P p.sym p.by) pairs →
    replacement pairs s ≡ Some r → P s r
replacement_has P [] s r all e = absurd (none-some r e)
replacement_has P (p ∷ pairs) s r all e =
    go (λ h. replacement_has P pairs s r (All-tail (λ (q : Pair). P q.sym q.by) p pairs all) h) (sym_eq s p.sym) refl e
  where
    go : (replacement pairs s ≡ Some r → P s r) → (b : Bool) → sym_eq s p.sym ≡ b → cond b (Some p.by) (replacement pairs s) ≡ Some r → P s r
    go rest true same h =
        let symbol : p.sym ≡ s = sym ((sym_eq_decides s p.sym).0 same) in
        subst (λ x. P x r) symbol (subst (P p.sym) (same_Some p.by r h) (All-head (λ (q : Pair). P q.sym q.by) p pairs all))
    go rest false same h = rest h

pub replacement_of_kind : (pairs : List Pair) (s : Sym) (r : Tree) → IsWellFormed pairs → replacement pairs s ≡ Some r → IsTrue (is_of_kind s.kind r)
replacement_of_kind pairs s r e found = replacement_has (λ x t. IsTrue (is_of_kind x.kind t)) pairs s r (pairs_of_kind pairs e) found

pub replacement_made : (pairs : List Pair) (s : Sym) (r : Tree) → AreWellMade pairs → replacement pairs s ≡ Some r → WellMade r
replacement_made pairs s r made found = replacement_has (λ x t. WellMade t) pairs s r made found

-- ---- the first bad pair

one_reason : (pairs : List Pair) (n : ℕ) (w v : Why) → IsIll pairs n w → IsIll pairs n v → w ≡ v
one_reason pairs n w v a b =
    let same = at_one pairs n a.0 b.0 a.1 b.1 in
    same_Some w v (sym a.2 ∙ ap (why (take (n - 1) pairs)) same ∙ b.2)

-- there is at most one
pub one_first_ill : (pairs : List Pair) (m n : ℕ) (w v : Why) → FirstIll pairs m w → FirstIll pairs n v → (m ≡ n) × (w ≡ v)
one_first_ill pairs m n w v a b =
    elim (cases_order m n) [
      | inl e ↦ (e, one_reason pairs n w v (subst (λ k. IsIll pairs k w) e a.ill) b.ill)
      | inr (inl lt) ↦ absurd (b.first m w lt a.ill)
      | inr (inr lt) ↦ absurd (a.first n v lt b.ill)
    ]

-- none of the first n is bad
abbrev pub AreGoodBelow : List Pair → ℕ → Type 0
AreGoodBelow pairs n = (m : ℕ) (w : Why) → m < n → ¬ IsIll pairs m w

-- where pair n is good, too, none of the first n + 1 is bad
pub good_more : (pairs : List Pair) (n : ℕ) → AreGoodBelow pairs n → ((w : Why) → ¬ IsIll pairs n w) → AreGoodBelow pairs (suc n)
good_more pairs n good here m w lt ill =
    elim (cases_order m n) [
      | inl e ↦ here w (subst (λ k. IsIll pairs k w) e ill)
      | inr (inl less) ↦ good m w less ill
      | inr (inr more) ↦ omega (arith, lt, more)
    ]

-- where none is bad up to the last, all are good
pub all_good : (pairs : List Pair) (n : ℕ) → length pairs < n → AreGoodBelow pairs n → IsWellFormed pairs
all_good pairs n past good = record { none = λ m w ill. good m w (omega (arith, past, (At_place pairs m ill.0 ill.1).1)) ill }

ill_at : (pairs : List Pair) (n : ℕ) → ((w : Why) × IsIll pairs n w) ⊎ ((w : Why) → ¬ IsIll pairs n w)
ill_at pairs n = elim (item_cases (at pairs n)) [
  | inl none ↦ inr (λ w ill. none-some ill.0 (sym none ∙ ill.1))
  | inr p ↦ elim (reason_cases (why (take (n - 1) pairs) p.0)) [
    | inl good ↦ inr (λ w ill. none-some w (sym good ∙ ap (why (take (n - 1) pairs)) (at_one pairs n p.0 ill.0 p.1 ill.1) ∙ ill.2))
    | inr bad ↦ inl (bad.0, (p.0, p.1, bad.1))
  ]
]
  where
    item_cases : (o : Option Pair) → (o ≡ None) ⊎ ((p : Pair) × (o ≡ Some p))
    item_cases None = inl refl
    item_cases (Some p) = inr (p, refl)

    reason_cases : (o : Option Why) → (o ≡ None) ⊎ ((w : Why) × (o ≡ Some w))
    reason_cases None = inl refl
    reason_cases (Some w) = inr (w, refl)

-- all below n are good, or there is a first bad one
good_or_ill : (pairs : List Pair) (n : ℕ) → AreGoodBelow pairs n ⊎ ((m : ℕ) × (w : Why) × FirstIll pairs m w)
good_or_ill pairs zero = inl (λ m w lt. absurd (omega (arith, lt)))
good_or_ill pairs (suc n) = elim (good_or_ill pairs n) [
  | inr ill ↦ inr ill
  | inl good ↦ elim (ill_at pairs n) [
    | inl bad ↦ inr (n, bad.0, record { ill = bad.1; first = good })
    | inr here ↦ inl (good_more pairs n good here)
  ]
]

pub well_formed_or_ill : (pairs : List Pair) → IsWellFormed pairs ⊎ ((n : ℕ) × (w : Why) × FirstIll pairs n w)
well_formed_or_ill pairs = elim (good_or_ill pairs (suc (length pairs))) [
  | inl good ↦ inl (all_good pairs (suc (length pairs)) (omega arith) good)
  | inr ill ↦ inr ill
]
