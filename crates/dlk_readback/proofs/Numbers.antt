-- The text of a number is a token of the number.
use Rattle.std.proofs.Common.{◌≡◌, ℕ, zero, suc, ◌+◌, ◌-◌, ◌*◌, ◌/◌, ◌%◌, ◌^◌, ◌<◌, ◌≤◌, ◌==◌, Bool, true, false, cond, ◌||◌, not, nat_le, nat_lt}
use Rattle.std.proofs.Common.{List, [], ◌∷◌, ◌++◌, length, length-append, codes, refl, sym, ap, subst, ◌∙◌, append_assoc, append-nil, arith, lit<}
use Rattle.std.proofs.Common.{ltb-true, leb-true, eqb-true, pow-add, div-le_self}
use Rattle.std.specs.Fmt.{decimal}
use Rattle.std.specs.List.{list_all}
use Rattle.std.proofs.Math.Nat.{div-div-eq-div-mul, pow-succ', div-lt_iff_lt-mul}
use Rattle.std.proofs.lemmas.Bool.{and_parts}
use Rattle.std.proofs.lemmas.Bool.Decides.{nat_tests}
use Rattle.std.proofs.lemmas.Fmt.{decimal_by_steps_wide, length-decimal-le_wide}
use Rattle.std.proofs.lemmas.List.Folds.{list_all-append}
use Rattle.std.proofs.lemmas.List.Sums.{fold_push}
use Rattle.dlk_tree.specs.declared.op.Num.{Num}
use Rattle.dlk_tree.specs.Table.{is_num}
use Rattle.dlk_grammar.specs.Tokens.{is_digit, are_digits, value, trimmed, literal_number}
use Rattle.dlk_grammar.specs.Shown.{last_digits, literal}

digit : (d : ℕ) → d < 10 → is_digit (48 + d) ≡ true
digit d h = grind (arith, nat_tests)

digits_push : (ds : List ℕ) (d : ℕ) → are_digits ds ≡ true → is_digit d ≡ true → are_digits (ds ++ d ∷ []) ≡ true
digits_push [] d h g = absurd cc
digits_push (e ∷ ds) d h g =
    let w = and_parts (is_digit e) (list_all is_digit ds) h in
    rw (w.0, list_all-append is_digit ds (d ∷ []), w.1, g) refl

value_push : (ds : List ℕ) (d n : ℕ) → value ds ≡ n → value (ds ++ (48 + d) ∷ []) ≡ 10 * n + d
value_push ds d n e =
    let w = fold_push (λ (n b : ℕ). 10 * n + (b - 48)) 0 ds (48 + d) in
    let v : 10 * value ds + ((48 + d) - 48) ≡ 10 * n + d = omega (arith, e) in
    w ∙ v

record Digits (n : ℕ) (ds : List ℕ) : Type 0 where
  pub are : are_digits ds ≡ true
  pub says : value ds ≡ n

-- the decimal digits of a number
decimal_digits : (n : ℕ) → n < 10 ^ 64 → Digits n (decimal n)
decimal_digits = decimal_by_steps_wide Digits
    (λ n h. record { are = let d = digit n h in rw d refl; says = omega arith })
    (λ n ds h d. record {
      are = digits_push ds (48 + n % 10) d.are (digit (n % 10) (omega arith));
      says = value_push ds (n % 10) (n / 10) d.says
          ∙ omega arith;
    })

last_length : (w n : ℕ) → length (last_digits w n) ≡ w
last_length zero n = refl
last_length (suc w) n = omega (arith, last_length w (n / 10), length-append (last_digits w (n / 10)) ((48 + n % 10) ∷ []))

last_all : (w n : ℕ) → list_all is_digit (last_digits w n) ≡ true
last_all zero n = refl
last_all (suc w) n =
    let d = digit (n % 10) (omega arith) in
    rw (list_all-append is_digit (last_digits w (n / 10)) ((48 + n % 10) ∷ []), last_all w (n / 10), d) refl

some_digits : (ds : List ℕ) → 0 < length ds → list_all is_digit ds ≡ true → are_digits ds ≡ true
some_digits [] h g = absurd (omega arith)
some_digits (d ∷ ds) h g = g

-- one power more divides once more
div-pow-suc : (n k : ℕ) → n / 10 / 10 ^ k ≡ n / 10 ^ suc k
div-pow-suc n k = div-div-eq-div-mul n 10 (10 ^ k) ∙ ap (λ x. n / x) (sym (pow-succ' 10 k))

-- the integer part and the digits behind the point are the number's digits
parts_say : (w n : ℕ) → n < 10 ^ 64 → value (decimal (n / 10 ^ w) ++ last_digits w n) ≡ n
parts_say zero n h =
    let same : n / 10 ^ 0 ≡ n = omega arith in
    rw (same, append-nil (decimal n)) (decimal_digits n h).says
parts_say (suc w) n h =
    let front = decimal (n / 10 ^ suc w) in
    let same : value (front ++ last_digits w (n / 10)) ≡ n / 10 = ap (λ (m : ℕ). value (decimal m ++ last_digits w (n / 10))) (sym (div-pow-suc n w))
    ∙ parts_say w (n / 10) (omega arith) in
    ap value (sym (append_assoc front (last_digits w (n / 10)) ((48 + n % 10) ∷ []))) ∙ value_push (front ++ last_digits w (n / 10)) (n % 10) (n / 10) same
    ∙ omega arith

-- digits of which the last isn't a zero are kept
kept : (ds : List ℕ) (d : ℕ) → (d == 48) ≡ false → trimmed (ds ++ d ∷ []) ≡ ds ++ d ∷ []
kept [] d h = rw h refl
kept (e ∷ []) d h = rw (kept [] d h) refl
kept (e ∷ f ∷ ds) d h = rw (kept (f ∷ ds) d h) refl

last_kept : (w n : ℕ) → (n % 10 == 0) ≡ false → trimmed (last_digits (suc w) n) ≡ last_digits (suc w) n
last_kept w n h = kept (last_digits w (n / 10)) (48 + n % 10) (grind (arith, nat_tests))

ten_pos : (k : ℕ) → 0 < 10 ^ k
ten_pos zero = omega arith
ten_pos (suc k) = omega (arith, ten_pos k, pow-succ' 10 k)

parts_length : (w n : ℕ) → w ≤ 37 → n < 10 ^ 38 → length (decimal (n / 10 ^ w)) + w ≤ 38
parts_length w n h g =
    let up : (38 - w) + w ≡ 38 = omega arith in
    let whole : 10 ^ (38 - w) * 10 ^ w ≡ 10 ^ 38 = sym (pow-add 10 (38 - w) w) ∙ ap (λ (k : ℕ). 10 ^ k) up in
    let low : n / 10 ^ w < 10 ^ (38 - w) = (div-lt_iff_lt-mul (ten_pos w)).1 (subst (λ (m : ℕ). n < m) (sym whole) g) in
    let le = length-decimal-le_wide (38 - w) (n / 10 ^ w) (omega arith) low (omega arith) in
    omega (arith, le)

-- the text of a number, whole or with digits behind a point
pub data Literal (n : Num) : Type 0 where
  whole : (s : List ℕ) → literal n ≡ s → are_digits s ≡ true → length s ≤ 38 → literal_number s [] ≡ n → Literal n
  parts : (s f : List ℕ) → literal n ≡ s ++ (codes "." ++ f) → are_digits s ≡ true → are_digits f ≡ true → length s + length f ≤ 38 → literal_number s f ≡ n →
      Literal n

pub literal_is : (n : Num) → is_num n ≡ true → Literal n
literal_is n h = by_scale (n.scale == 0) refl
  where
    low : n.digits < 10 ^ 38
    low = ltb-true n.digits (10 ^ 38) (and_parts (nat_lt n.digits (10 ^ 38)) _ (and_parts _ _ h).0).0

    wide : n.digits < 10 ^ 64
    wide = let big : 10 ^ 38 < 10 ^ 64 = lit< tt in omega (arith, low, big)

    few : n.scale ≤ 37
    few = leb-true n.scale 37 (and_parts (nat_lt n.digits (10 ^ 38)) (nat_le n.scale 37) (and_parts _ _ h).0).1

    last : (n.scale == 0 || not (n.digits % 10 == 0)) ≡ true
    last = (and_parts _ (n.scale == 0 || not (n.digits % 10 == 0)) h).1

    not_true : (b : Bool) → not b ≡ true → b ≡ false
    not_true true g = absurd cc
    not_true false g = refl

    by_scale : (b : Bool) → (n.scale == 0) ≡ b → Literal n
    by_scale true e =
        let d = decimal_digits n.digits wide in
        let le = length-decimal-le_wide 38 n.digits (omega arith) low wide in
        whole (decimal n.digits) (ap (λ (b : Bool).
        cond b (decimal n.digits) (decimal (n.digits / 10 ^ n.scale) ++ (codes "." ++ last_digits n.scale n.digits))) e) d.are le
        (λ i. record { digits = (ap value (append-nil (decimal n.digits)) ∙ d.says) i; scale = sym (eqb-true n.scale 0 e) i })
    by_scale false e =
        let f = last_digits n.scale n.digits in
        let front = decimal (n.digits / 10 ^ n.scale) in
        let g : (n.digits % 10 == 0) ≡ false = not_true (n.digits % 10 == 0) (sym (ap (λ (b : Bool). b || not (n.digits % 10 == 0)) e) ∙ last) in
        let some : 0 < n.scale = grind (arith, nat_tests) in
        let trim : trimmed (last_digits n.scale n.digits) ≡ last_digits n.scale n.digits = tail n.scale some g in
        let size = last_length n.scale n.digits in
        let less = div-le_self n.digits (10 ^ n.scale) in
        parts front f (ap (λ (b : Bool). cond b (decimal n.digits) (front ++ (codes "." ++ f))) e)
        (decimal_digits (n.digits / 10 ^ n.scale) (omega (arith, less, wide))).are
        (some_digits f (omega (arith, size, some)) (last_all n.scale n.digits)) (omega (arith, size, parts_length n.scale n.digits few low))
        (λ i. record {
          digits = (ap (λ (l : List ℕ). value (front ++ l)) trim ∙ parts_say n.scale n.digits wide) i;
          scale =
              (ap (λ (l : List ℕ). length l) trim ∙ size) i;
        })
      where
        tail : (w : ℕ) → 0 < w → (n.digits % 10 == 0) ≡ false → trimmed (last_digits w n.digits) ≡ last_digits w n.digits
        tail zero some g = absurd (omega arith)
        tail (suc w) some g = last_kept w n.digits g
