-- A word at the front of bytes.
use Rattle.std.proofs.Common.{◌≡◌, ◌<◌, ℕ, get_or, arith, true, false, eqb, List, [], ◌∷◌, ◌++◌, length, take, drop, refl, sym, ap, ◌∙◌}
use Rattle.std.specs.List.{starts_with}
use Rattle.std.specs.Cmp.Lexicographic.{pointwise, same_text}
use Rattle.std.proofs.Math.Seq.{take-append_seam}
use Rattle.std.proofs.lemmas.Bool.{eq-eqb, true≢false}
use Rattle.std.proofs.lemmas.List.{take-append-drop}

-- what a test of the front says
pub at_front : (bytes w : List ℕ) → starts_with eqb bytes w ≡ true → bytes ≡ w ++ drop (length w) bytes
at_front bytes w h =
    let same : w ≡ take (length w) bytes = same_text w (take (length w) bytes) (sym h) in
    sym (take-append-drop (length w) bytes) ∙ ap (λ l. l ++ drop (length w) bytes) (sym same)

same_bytes : (w : List ℕ) → pointwise eqb w w ≡ true
same_bytes [] = refl
same_bytes (b ∷ w) = rw (eq-eqb b b refl, same_bytes w) refl

pub not_at_front : (bytes w after : List ℕ) → starts_with eqb bytes w ≡ false → bytes ≡ w ++ after → ⊥
not_at_front bytes w after h e =
    let front : take (length w) bytes ≡ w = ap (take (length w)) e ∙ take-append_seam w after in
    true≢false (sym (same_bytes w) ∙ ap (pointwise eqb w) (sym front) ∙ h)
