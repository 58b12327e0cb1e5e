-- Leaves one after the other.
use Rattle.std.proofs.Common.{◌≡◌, ℕ, ◌<◌, List, length, get_or, map, sym, ap, ◌∙◌, subst}
use Rattle.std.specs.Prelude.{All}
use Rattle.std.proofs.lemmas.List.{get_or-map, length-map}

-- what holds of each holds of the i-th
pub All-at-map : {X Y : Type 0} (P : Y → Type 0) (f : X → Y) (xs : List X) (i : ℕ) (x : X) → All P (map f xs) → i < length xs → x ≡ get_or xs i x → P (f x)
All-at-map P f xs i x all g e = subst P (get_or-map f xs i x (f x) g ∙ ap f (sym e)) (all i (f x) (subst (λ n. i < n) (sym (length-map xs f)) g))
