-- Lists with a common whole.
use Rattle.std.proofs.Common.{◌≡◌, ◌⊎◌, inl, inr, List, [], ◌∷◌, ◌++◌, refl, sym, ap, ◌∙◌}

-- two fronts of one list: one is a front of the other
pub either_front : {X : Type 0} (f g b c : List X) → f ++ b ≡ g ++ c → ((q : List X) × (g ≡ f ++ q)) ⊎ ((q : List X) × (f ≡ g ++ q))
either_front [] g b c e = inl (g, refl)
either_front (x ∷ f) [] b c e = inr (x ∷ f, refl)
either_front {X} (x ∷ f) (y ∷ g) b c e =
    let same : x ≡ y = cc in
    let rest : f ++ b ≡ g ++ c = cc in
    elim (either_front f g b c rest) [
      | inl w ↦ inl (w.0, ap (λ (l : List X). y ∷ l) w.1 ∙ ap (λ (z : X). z ∷ (f ++ w.0)) (sym same))
      | inr w ↦ inr (w.0, ap (λ (l : List X). x ∷ l) w.1 ∙ ap (λ (z : X). z ∷ (g ++ w.0)) same)
    ]
