-- Texts that are written one after the other, with another between each two.
use Rattle.std.proofs.Common.{◌≡◌, ℕ, zero, suc, ◌+◌, false, ne_eqb, arith, List, [], ◌∷◌, ◌++◌, refl, sym, ap, ◌∙◌, append_assoc}
use Rattle.std.specs.Prelude.{◌==◌}
use Rattle.std.specs.List.{join_by, flat_map}
use Rattle.dlk_grammar.specs.Shown.{Piece, one, space, token_text, spell}
use Rattle.dlk_print.specs.Printed.{gap}

pub spell-append : (x y : List Piece) → spell (x ++ y) ≡ spell x ++ spell y
spell-append [] y = refl
spell-append (one k ∷ x) y = ap (λ l. token_text k ++ l) (spell-append x y) ∙ sym (append_assoc (token_text k) (spell x) (spell y))
spell-append (space ∷ x) y = ap (λ l. 32 ∷ l) (spell-append x y)

-- what is left of joined texts from place i on
abbrev pub pending : {X : Type 0} → (X → List Piece) → List Piece → ℕ → List X → List Piece
pending f between zero xs = join_by f between xs
pending f between (suc i) xs = flat_map (λ x. between ++ f x) xs

-- one text more
pub pending-next : {X : Type 0} (f : X → List Piece) (between : List Piece) (i : ℕ) (x : X) (xs : List X) →
    spell (pending f between i (x ∷ xs)) ≡ gap i (spell between) ++ (spell (f x) ++ spell (pending f between (i + 1) xs))
pending-next f between zero x xs = spell-append (f x) (flat_map (λ y. between ++ f y) xs)
pending-next f between (suc i) x xs =
    let later : (suc i == 0) ≡ false = ne_eqb (suc i) 0 (omega arith) in
    let next : suc i + 1 ≡ suc (suc i) = omega arith in
    rw (later, next) (
    spell-append (between ++ f x) (flat_map (λ y. between ++ f y) xs)
    ∙ ap (λ l. l ++ spell (flat_map (λ y. between ++ f y) xs)) (spell-append between (f x))
    ∙ append_assoc (spell between) (spell (f x)) (spell (flat_map (λ y. between ++ f y) xs)))

-- none is left
pub pending-none : {X : Type 0} (f : X → List Piece) (between : List Piece) (i : ℕ) → spell (pending f between i []) ≡ []
pending-none f between zero = refl
pending-none f between (suc i) = refl
