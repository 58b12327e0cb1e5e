-- Reading many bytes, and which bytes are which.
use Rattle.std.proofs.Common.{◌≡◌, ℕ, ◌+◌, ◌≤◌, ◌==◌, ◌&&◌, ◌||◌, nat_le, Bool, true, false, List, [], ◌∷◌, ◌++◌, length, Option, Some, None, refl}
use Rattle.std.proofs.Common.{ap, ◌∙◌, arith, inl, inr, zero-add}
use Rattle.std.proofs.lemmas.Bool.{and_parts, leb-true, eqb-true, ne_eqb, lt-leb, or_cases}
use Rattle.dlk_tree.specs.Names.{is_between, is_letter, is_name_byte}
use Rattle.dlk_grammar.specs.Tokens.{is_space, is_digit}
use Rattle.dlk_scripts.specs.declared.state.State.{State}
use Rattle.dlk_scripts.specs.Steps.{step}

abbrev pub or_stop : Option State → (State → Option State) → Option State
or_stop None f = None
or_stop (Some y) f = f y

-- the bytes from this place on come
abbrev pub read : State → ℕ → List ℕ → Option State
read y n [] = Some y
read y n (b ∷ s) = or_stop (step y n b) (λ z. read z (n + 1) s)

or_stop_both : (o : Option State) (f g h : State → Option State) → ((y : State) → f y ≡ or_stop (g y) h) → or_stop o f ≡ or_stop (or_stop o g) h
or_stop_both None f g h e = refl
or_stop_both (Some y) f g h e = e y

pub read_append : (y : State) (n : ℕ) (s r : List ℕ) (m : ℕ) → n + length s ≡ m → read y n (s ++ r) ≡ or_stop (read y n s) (λ z. read z m r)
read_append y n [] r m e = let same : n ≡ m = omega (arith, e) in ap (λ (i : ℕ). read y i r) same
read_append y n (b ∷ s) r m e =
    or_stop_both (step y n b) (λ z. read z (n + 1) (s ++ r)) (λ z. read z (n + 1) s) (λ z. read z m r) (λ z. read_append z (n + 1) s r m (omega (arith, e)))

pub read_more : (y x z : State) (s r : List ℕ) → read y 0 s ≡ Some x → read x (length s) r ≡ Some z → read y 0 (s ++ r) ≡ Some z
read_more y x z s r e f = read_append y 0 s r (length s) (zero-add (length s)) ∙ ap (λ (o : Option State). or_stop o (λ u. read u (length s) r)) e ∙ f

-- white space is no byte of a name
pub space_is : (b : ℕ) → is_space b ≡ true → is_name_byte b ≡ false
space_is b e = elim (or_cases ((b == 32 || b == 9) || b == 13) (b == 10) e) [
  | inl u ↦ elim (or_cases (b == 32 || b == 9) (b == 13) u) [
    | inl v ↦ elim (or_cases (b == 32) (b == 9) v) [
      | inl w ↦ rw (eqb-true b 32 w) refl
      | inr w ↦ rw (eqb-true b 9 w) refl
    ]
    | inr v ↦ rw (eqb-true b 13 v) refl
  ]
  | inr u ↦ rw (eqb-true b 10 u) refl
]

between : (l h b : ℕ) → is_between l h b ≡ true → (l ≤ b) × (b ≤ h)
between l h b e = let p = and_parts (nat_le l b) (nat_le b h) e in (leb-true l b p.0, leb-true b h p.1)

letter_within : (b : ℕ) → is_letter b ≡ true → (65 ≤ b) × (b ≤ 122)
letter_within b e = elim (or_cases (is_between 65 90 b) (is_between 97 122 b) e) [
  | inl u ↦ let p = between 65 90 b u in (p.0, omega (arith, p.1))
  | inr u ↦ let p = between 97 122 b u in (omega (arith, p.0), p.1)
]

no_space : (b : ℕ) → 33 ≤ b → is_space b ≡ false
no_space b h =
    rw (
      ne_eqb b 32 (λ e. omega (arith, e, h)),
      ne_eqb b 9 (λ e. omega (arith, e, h)),
      ne_eqb b 13 (λ e. omega (arith, e, h)),
      ne_eqb b 10
          (λ e. omega (arith, e, h)),
    ) refl

-- a letter is no white space, no slash and no digit
pub letter_is : (b : ℕ) → is_letter b ≡ true → (is_space b ≡ false) × ((b == 47) ≡ false) × (is_digit b ≡ false)
letter_is b e =
    let p = letter_within b e in
    (no_space b (omega (arith, p.0)), ne_eqb b 47 (λ q. omega (arith, q, p.0)), rw (lt-leb b 57 (omega (arith, p.0))) (none (nat_le 48 b)))
  where
    none : (x : Bool) → (x && false) ≡ false
    none true = refl
    none false = refl

-- a digit is no white space, no slash and no letter
pub digit_is : (b : ℕ) → is_digit b ≡ true → (is_space b ≡ false) × ((b == 47) ≡ false) × (is_letter b ≡ false)
digit_is b e =
    let p = between 48 57 b e in
    (no_space b (omega (arith, p.0)), ne_eqb b 47 (λ q. omega (arith, q, p.0)), rw (lt-leb 65 b (omega (arith, p.1)), lt-leb 97 b (omega (arith, p.1))) refl)

pub no_name_no_digit : (b : ℕ) → is_name_byte b ≡ false → is_digit b ≡ false
no_name_no_digit b e = last (is_letter b) (is_digit b) (b == 95) e
  where
    last : (x y z : Bool) → ((x || y) || z) ≡ false → y ≡ false
    last true y z h = absurd (cc)
    last false true z h = absurd (cc)
    last false false z h = refl
