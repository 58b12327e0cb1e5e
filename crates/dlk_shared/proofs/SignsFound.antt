-- A symbol found in its table, and symbols listed one after another.
use Rattle.std.proofs.Common.{◌≡◌, ℕ, zero, suc, ◌+◌, ◌<◌, Bool, true, false, ◌||◌, ◌&&◌, List, [], ◌∷◌, length, get_or, take, Some, position, refl}
use Rattle.std.proofs.Common.{sym, ap, ◌∙◌, arith, true≢false}
use Rattle.std.specs.List.{list_any, IsDistinct}
use Rattle.std.proofs.lemmas.List.{take_more, length-take}
use Rattle.std.proofs.lemmas.List.Folds.{list_any-from_Any}
use Rattle.std.proofs.lemmas.List.Quantifiers.{position-Some}
use Rattle.std.proofs.Math.Bool.{or-false}
use Rattle.dlk_tree.proofs.Same.{sym_eq_decides, sym_derived_decides}
use Rattle.dlk_tree.specs.Tests.{sym_eq}
use Rattle.dlk_tree.specs.contracts.op.SymPartialEq.TheImpl as SymEq
use Rattle.dlk_tree.specs.declared.op.Sym.{Sym}
use Rattle.dlk_shared.specs.Signs.{stands}
use Rattle.dlk_shared.specs.Unique.{place_one}
use Rattle.dlk_shared.proofs.SignLemmas.{stands_append}

differs : (s y : Sym) → (y ≡ s → ⊥) → sym_eq s y ≡ false
differs s y h = by (sym_eq s y) refl
  where
    by : (b : Bool) → sym_eq s y ≡ b → b ≡ false
    by true e = absurd (h (sym ((sym_eq_decides s y).0 e)))
    by false e = refl

pub stands_absent : (test : ℕ → Bool) (n : ℕ) (xs : List Sym) (s : Sym) → ((j : ℕ) → j < length xs → get_or xs j s ≡ s → ⊥) → stands test n xs s ≡ false
stands_absent test n [] s h = refl
stands_absent test n (y ∷ xs) s h =
    let here = differs s y (h 0 (omega arith)) in
    let rest = stands_absent test (suc n) xs s (λ j l q. h (suc j) (omega (arith, l)) q) in
    λ i. (here i && test n) || rest i

stands_at : (test : ℕ → Bool) (n : ℕ) (xs : List Sym) (k : ℕ) (s : Sym) → k < length xs → get_or xs k s ≡ s
    → ((j : ℕ) → j < length xs → get_or xs j s ≡ s → j ≡ k) → stands test n xs s ≡ test (n + k)
stands_at test n [] k s lt e one = absurd (omega arith)
stands_at test n (y ∷ xs) zero s lt e one =
    let here = (sym_eq_decides s y).1 (sym e) in
    let rest = stands_absent test (suc n) xs s (λ j l q. let z = one (suc j) (omega (arith, l)) q in absurd (omega (arith, z))) in
    let at : n ≡ n + 0 = omega arith in
    (λ i. (here i && test n) || rest i) ∙ or-false (test n) ∙ ap test at
stands_at test n (y ∷ xs) (suc k) s lt e one =
    let here = differs s y (λ q. let z = one 0 (omega arith) q in absurd (omega (arith, z))) in
    let at : suc n + k ≡ n + suc k = omega arith in
    (λ i. (here i && test n) || stands test (suc n) xs s)
    ∙ stands_at test (suc n) xs k s (omega arith) e (λ j l q. let z = one (suc j) (omega (arith, l)) q in omega (arith, z)) ∙ ap test at

itself : (s : Sym) → SymEq.ghosts.eq s s ≡ true
itself s = (sym_derived_decides s s).1 refl

pub found_stands : (test : ℕ → Bool) (xs : List Sym) (s : Sym) (k : ℕ) → IsDistinct SymEq.ghosts.eq xs → position (SymEq.ghosts.eq s) xs ≡ Some k
    → stands test 0 xs s ≡ test k
found_stands test xs s k apart e =
    let p = position-Some (SymEq.ghosts.eq s) xs k s e in
    let same : get_or xs k s ≡ s = sym ((sym_derived_decides s (get_or xs k s)).0 p.1) in
    let at : 0 + k ≡ k = omega arith in
    stands_at test 0 xs k s p.0 same (λ j l q. place_one SymEq.ghosts.eq itself xs apart j k s l p.0 (q ∙ sym same)) ∙ ap test at

pub missing_stands : (test : ℕ → Bool) (xs : List Sym) (s : Sym) → list_any (SymEq.ghosts.eq s) xs ≡ false → stands test 0 xs s ≡ false
missing_stands test xs s e =
    stands_absent test 0 xs s (λ j l q. true≢false (sym (list_any-from_Any (SymEq.ghosts.eq s) xs (j, s, l, q, itself s)) ∙ e))

pub stands_more : (test : ℕ → Bool) (xs : List Sym) (k : ℕ) (d s : Sym) → k < length xs
    → (stands test 0 (take k xs) s || (sym_eq s (get_or xs k d) && test k)) ≡ stands test 0 (take (k + 1) xs) s
stands_more test xs k d s lt =
    let x = get_or xs k d in
    let long : k ≡ 0 + length (take k xs) = omega (arith, length-take k xs) in
    let front = stands test 0 (take k xs) s in
    (λ i. front || (sym_eq s x && test (long i)))
    ∙ ap (λ b. front || b) (sym (or-false (sym_eq s x && test (0 + length (take k xs)))))
    ∙ sym (ap (λ l. stands test 0 l s) (take_more xs k d lt) ∙ stands_append test 0 (take k xs) (x ∷ []) s)
