-- Copies of first items.
use Rattle.std.proofs.Common.{◌≡◌, ℕ, ◌+◌, ◌<◌, List, [], ◌∷◌, ◌++◌, take, map, length, get_or, sym, ap, subst, ◌∙◌}
use Rattle.std.specs.List.{All}
use Rattle.std.proofs.lemmas.List.{take_more, map-append}
use Rattle.std.proofs.lemmas.List.Elements.{All-push}

pub copied_more : {A B : Type 0} (f : A → B) (items copies more : List A) (i : ℕ) (item copy : A) → i < length items → item ≡ get_or items i item →
    more ≡ copies ++ copy ∷ [] → f copy ≡ f item → map f copies ≡ map f (take i items) → map f more ≡ map f (take (i + 1) items)
copied_more f items copies more i item copy less is are same before =
    let next : take (i + 1) items ≡ take i items ++ item ∷ [] = take_more items i item less ∙ ap (λ x. take i items ++ x ∷ []) (sym is) in
    ap (map f) are ∙ map-append f copies (copy ∷ []) ∙ (λ k. before k ++ same k ∷ []) ∙ sym (map-append f (take i items) (item ∷ [])) ∙ ap (map f) (sym next)

pub known_more : {A : Type 0} (Known : A → Type 0) (items copies more : List A) (i : ℕ) (item copy : A) → i < length items → item ≡ get_or items i item →
    more ≡ copies ++ copy ∷ [] → (Known item → Known copy) → All Known items → All Known copies → All Known more
known_more Known items copies more i item copy less is are same all before =
    subst (All Known) (sym are) (All-push Known copies copy before (same (subst Known (sym is) (all i item less))))
