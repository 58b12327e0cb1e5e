-- No two kept steps are equal.
use Rattle.std.proofs.Common.{◌≡◌, sym, subst, ◌∙◌, ℕ, zero, suc, ◌+◌, List, [], ◌∷◌, ◌⊎◌, inl, inr, length, Some}
use Rattle.std.specs.List.{slice_get}
use Rattle.dlk_calculus.specs.Places.{At}
use Rattle.dlk_calculus.specs.Steps.{Step}
use Rattle.dlk_calculus.proofs.PlaceLaws.{at_suc}
use Rattle.dlk_link.proofs.Names.{IsIn, contains_from_in}
use Rattle.dlk_link.specs.Neat.{AreUnlike}
use Rattle.dlk_link.specs.Trimmed.{Trims, moved, nothing_read, not_needed, kept_before, is_kept}
use Rattle.dlk_link.proofs.Kept.{at_either}

get_in : (items : List Step) (n : ℕ) (x : Step) → slice_get items n ≡ Some x → IsIn x items
get_in [] n x h = absurd (cc h)
get_in (y ∷ items) zero x h = inl cc
get_in (y ∷ items) (suc n) x h = inr (get_in items n x h)

pub at_in : (items : List Step) (n : ℕ) (x : Step) → At items n x → IsIn x items
at_in items zero x h = absurd (cc h)
at_in items (suc n) x h = get_in items n x (sym (at_suc items n) ∙ h)

nowhere : (n : ℕ) (x : Step) → At [] n x → ⊥
nowhere zero x h = cc
nowhere (suc n) x h = let e = sym (at_suc [] n) ∙ h in cc

pub unlike : (term read kept : List Step) (numbers : List ℕ) → Trims term read kept numbers → AreUnlike kept
unlike term _ _ _ nothing_read m n step a b = absurd (nowhere m step a)
unlike term _ kept _ (not_needed {read = read} {numbers = numbers} s before h) m n step a b = unlike term read kept numbers before m n step a b
unlike term _ kept _ (kept_before {read = read} {numbers = numbers} s k before h stands) m n step a b = unlike term read kept numbers before m n step a b
unlike term _ _ _ (is_kept {read = read} {kept = kept} {numbers = numbers} s before h new) m n step a b =
    both (unlike term read kept numbers before) (at_either kept (moved numbers s) step m a) (at_either kept (moved numbers s) step n b)
  where
    both : AreUnlike kept → (At kept m step ⊎ ((m ≡ length kept + 1) × (step ≡ moved numbers s))) →
        (At kept n step ⊎ ((n ≡ length kept + 1) × (step ≡ moved numbers s))) → m ≡ n
    both below (inl x) (inl y) = below m n step x y
    both below (inl x) (inr y) = absurd (new (contains_from_in kept (moved numbers s) (subst (λ z. IsIn z kept) y.1 (at_in kept m step x))))
    both below (inr x) (inl y) = absurd (new (contains_from_in kept (moved numbers s) (subst (λ z. IsIn z kept) x.1 (at_in kept n step y))))
    both below (inr x) (inr y) = x.0 ∙ sym y.0
