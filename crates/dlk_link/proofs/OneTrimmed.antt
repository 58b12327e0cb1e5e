-- Of a term at most one list is kept.
use Rattle.std.proofs.Common.{◌≡◌, refl, sym, ap, subst, ℕ, ◌+◌, List, [], ◌∷◌, ◌++◌, length}
use Rattle.dlk_calculus.specs.Places.{At}
use Rattle.dlk_calculus.specs.Steps.{Step}
use Rattle.dlk_link.specs.Trimmed.{IsNeeded, moved, Trims, Trimmed, nothing_read, not_needed, kept_before, is_kept}
use Rattle.dlk_link.proofs.Kept.{snoc_parts}
use Rattle.dlk_link.proofs.Names.{contains_from_in}
use Rattle.dlk_link.proofs.Unlike.{unlike, at_in}

pub not_none : {A : Type 0} (xs : List A) (x : A) → [] ≡ xs ++ x ∷ [] → ⊥
not_none [] x e = cc
not_none (y ∷ xs) x e = cc

needed_as : (term read others : List Step) → read ≡ others → IsNeeded term (length read + 1) → IsNeeded term (length others + 1)
needed_as term read others e need = subst (λ r. IsNeeded term (length r + 1)) e need

at_as : (kept others : List Step) (m n : List ℕ) (s t : Step) (place : ℕ) → kept ≡ others → m ≡ n → s ≡ t → At kept place (moved m s) →
    At others place (moved n t)
at_as kept others m n s t place a b c h =
    let same : moved m s ≡ moved n t = λ i. moved (b i) (c i) in subst (λ z. At others place z) same (subst (λ k. At k place (moved m s)) a h)

one : (term read others kept left : List Step) (m n : List ℕ) → read ≡ others → Trims term read kept m → Trims term others left n → (kept ≡ left) × (m ≡ n)
one term _ _ _ _ _ _ e nothing_read nothing_read = (refl, refl)
one term _ _ _ _ _ _ e nothing_read (not_needed {read = r} s a b) = absurd (not_none r s e)
one term _ _ _ _ _ _ e nothing_read (kept_before {read = r} s k a b d) = absurd (not_none r s e)
one term _ _ _ _ _ _ e nothing_read (is_kept {read = r} s a b d) = absurd (not_none r s e)
one term _ _ _ _ _ _ e (not_needed {read = r} s a b) nothing_read = absurd (not_none r s (sym e))
one term _ _ _ _ _ _ e (kept_before {read = r} s k a b d) nothing_read = absurd (not_none r s (sym e))
one term _ _ _ _ _ _ e (is_kept {read = r} s a b d) nothing_read = absurd (not_none r s (sym e))
one term _ _ kept left _ _ e (not_needed {read = r} {numbers = m} s a b) (not_needed {read = q} {numbers = n} t x y) =
    let same = snoc_parts r q s t e in
    let below = one term r q kept left m n same.0 a x in (below.0, ap (λ l. l ++ 0 ∷ []) below.1)
one term _ _ kept left _ _ e (not_needed {read = r} {numbers = m} s a b) (kept_before {read = q} {numbers = n} t k x y z) =
    absurd (b (needed_as term q r (sym (snoc_parts r q s t e).0) y))
one term _ _ kept _ _ _ e (not_needed {read = r} {numbers = m} s a b) (is_kept {read = q} {numbers = n} t x y z) =
    absurd (b (needed_as term q r (sym (snoc_parts r q s t e).0) y))
one term _ _ kept left _ _ e (kept_before {read = r} {numbers = m} s k a b d) (not_needed {read = q} {numbers = n} t x y) =
    absurd (y (needed_as term r q (snoc_parts r q s t e).0 b))
one term _ _ _ left _ _ e (is_kept {read = r} {numbers = m} s a b d) (not_needed {read = q} {numbers = n} t x y) =
    absurd (y (needed_as term r q (snoc_parts r q s t e).0 b))
one term _ _ kept left _ _ e (kept_before {read = r} {numbers = m} s k a b d) (kept_before {read = q} {numbers = n} t l x y z) =
    let same = snoc_parts r q s t e in
    let below = one term r q kept left m n same.0 a x in
    let place : k ≡ l = unlike term q left n x k l (moved n t) (at_as kept left m n s t k below.0 below.1 same.1 d) z in
    (below.0, λ i. below.1 i ++ place i ∷ [])
one term _ _ kept _ _ _ e (kept_before {read = r} {numbers = m} s k a b d) (is_kept {read = q} {kept = left} {numbers = n} t x y z) =
    let same = snoc_parts r q s t e in
    let below = one term r q kept left m n same.0 a x in
    absurd (z (contains_from_in left (moved n t) (at_in left k (moved n t) (at_as kept left m n s t k below.0 below.1 same.1 d))))
one term _ _ _ left _ _ e (is_kept {read = r} {kept = kept} {numbers = m} s a b d) (kept_before {read = q} {numbers = n} t l x y z) =
    let same = snoc_parts r q s t e in
    let below = one term r q kept left m n same.0 a x in
    absurd (d (contains_from_in kept (moved m s) (at_in kept l (moved m s) (at_as left kept n m t s l (sym below.0) (sym below.1) (sym same.1) z))))
one term _ _ _ _ _ _ e (is_kept {read = r} {kept = kept} {numbers = m} s a b d) (is_kept {read = q} {kept = left} {numbers = n} t x y z) =
    let same = snoc_parts r q s t e in
    let below = one term r q kept left m n same.0 a x in
    let steps = below.0 in let numbers = below.1 in let step = same.1 in
    (λ i. steps i ++ moved (numbers i) (step i) ∷ [], λ i. numbers i ++ (length (steps i) + 1) ∷ [])

pub one_trimmed : (term kept others : List Step) → Trimmed term kept → Trimmed term others → kept ≡ others
one_trimmed term kept others a b = (one term term term kept others a.0 b.0 refl a.1 b.1).0
