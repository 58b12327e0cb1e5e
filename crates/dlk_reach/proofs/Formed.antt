-- Pairs are well formed where nothing speaks against each behind those before it.
use Rattle.std.proofs.Common.{◌≡◌, ◌∙◌, refl, sym, ap, ℕ, zero, suc, ◌-◌, List, [], ◌∷◌, ◌++◌, take, false, None, Some, arith, append_assoc, append-nil}
use Rattle.dlk_calculus.specs.declared.why.Why.{Why}
use Rattle.dlk_calculus.specs.declared.why.Why.TheVariants as Why'
use Rattle.dlk_calculus.specs.Pairs.{Pair, is_against, why, IsIll, IsWellFormed}
use Rattle.std.specs.List.{slice_get}
use Rattle.dlk_calculus.proofs.PlaceLaws.{at_suc}

-- nothing speaks against a pair behind these
abbrev pub IsFree : List Pair → Pair → Type 0
IsFree earlier p = (w : Why) → is_against w earlier p ≡ false

-- so of each, behind these
abbrev pub AreFree : List Pair → List Pair → Type 0
AreFree earlier [] = Unit {0}
AreFree earlier (p ∷ pairs) = IsFree earlier p × AreFree (earlier ++ p ∷ []) pairs

no_why : (earlier : List Pair) (p : Pair) → IsFree earlier p → why earlier p ≡ None
no_why earlier p free = let a = free Why'.Sort in let b = free Why'.Twice in let c = free Why'.Dot in let d = free Why'.Hole in let e = free Why'.Taboo in
    rw (a, b, c, d, e) refl

none_ill : (earlier pairs : List Pair) (n : ℕ) (p : Pair) (w : Why) → AreFree earlier pairs → slice_get pairs n ≡ Some p →
    why (earlier ++ take n pairs) p ≡ Some w → ⊥
none_ill earlier [] n p w free h e = absurd (cc h)
none_ill earlier (q ∷ pairs) zero p w free h e =
    let same : q ≡ p = cc in
    let none : why (earlier ++ []) p ≡ None = ap (λ l. why l p) (append-nil earlier) ∙ ap (why earlier) (sym same) ∙ no_why earlier q free.0 in
    cc
none_ill earlier (q ∷ pairs) (suc n) p w free h e =
    none_ill (earlier ++ q ∷ []) pairs n p w free.1 h (ap (λ l. why l p) (append_assoc earlier (q ∷ []) (take n pairs)) ∙ e)

pub formed_of : (pairs : List Pair) → AreFree [] pairs → IsWellFormed pairs
formed_of pairs free = record { none = go }
  where
    go : (n : ℕ) (w : Why) → ¬ IsIll pairs n w
    go zero w ill = absurd (cc ill.1)
    go (suc n) w ill = let one : suc n - 1 ≡ n = omega arith in
        none_ill [] pairs n ill.0 w free (sym (at_suc pairs n) ∙ ill.1) (ap (λ k. why (take k pairs) ill.0) (sym one) ∙ ill.2)
