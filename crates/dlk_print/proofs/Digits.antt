-- Decimal digits one by one.
use Rattle.std.proofs.Common.{◌≡◌, ℕ, zero, suc, ◌+◌, ◌-◌, ◌*◌, ◌/◌, ◌%◌, ◌^◌, ◌<◌, ◌≤◌, Bool, true, false, cond, List, [], ◌∷◌, ◌++◌, length, take, drop, set}
use Rattle.std.proofs.Common.{refl, sym, ap, ◌∙◌}
use Rattle.std.proofs.Common.{arith, append_assoc, append-nil, add-one, length-set, length-drop, lit<}
use Rattle.std.specs.Prelude.{replicate}
use Rattle.std.proofs.lemmas.List.{drop-set, take_all}
use Rattle.std.specs.Prelude.{◌==◌}
use Rattle.std.specs.Fmt.{digits, decimal, digits_onto, digit_glyph}
use Rattle.std.proofs.lemmas.Bool.Decides.{nat_tests}
use Rattle.std.proofs.Math.Nat.{div-div-eq-div-mul, pow-suc, pow-succ', pow-le-pow_right}

-- a digit's byte
glyph : (d : ℕ) → d < 10 → digit_glyph false d ≡ 48 + d
glyph d h = grind (arith, nat_tests)

-- digits before others
digits_onto-before : (k n : ℕ) (acc : List ℕ) → digits_onto k 10 false n acc ≡ digits_onto k 10 false n [] ++ acc
digits_onto-before zero n acc = refl
digits_onto-before (suc k) n acc =
    let d = digit_glyph false (n % 10) in
    let long = digits_onto-before k (n / 10) (d ∷ acc) in
    let short = digits_onto-before k (n / 10) (d ∷ []) in
    by_test (n / 10 == 0) d (digits_onto k 10 false (n / 10) []) (digits_onto k 10 false (n / 10) (d ∷ acc)) (digits_onto k 10 false (n / 10) (d ∷ []))
    long short
  where
    by_test : (b : Bool) (d : ℕ) (front long short : List ℕ) → long ≡ front ++ d ∷ acc → short ≡ front ++ d ∷ [] →
        cond b (d ∷ acc) long ≡ cond b (d ∷ []) short ++ acc
    by_test true d front long short e h = refl
    by_test false d front long short e h = e ∙ sym (ap (λ l. l ++ acc) h ∙ append_assoc front (d ∷ []) acc)

-- leave for more digits than there are changes nothing
digits_onto-more : (k n : ℕ) (acc : List ℕ) → n < 10 ^ suc k → digits_onto (suc (suc k)) 10 false n acc ≡ digits_onto (suc k) 10 false n acc
digits_onto-more zero n acc h = let small : n / 10 ≡ 0 = omega arith in rw small refl
digits_onto-more (suc k) n acc h =
    let less : n / 10 < 10 ^ suc k = omega (arith, pow-suc 10 (suc k)) in
    ap (λ l. cond (n / 10 == 0) (digit_glyph false (n % 10) ∷ acc) l) (digits_onto-more k (n / 10) (digit_glyph false (n % 10) ∷ acc) less)

-- the last digit of a number with more than one, and those before it
digits_onto-last : (k n : ℕ) → 10 ≤ n → n < 10 ^ suc (suc k) →
    digits_onto (suc (suc k)) 10 false n [] ≡ digits_onto (suc (suc k)) 10 false (n / 10) [] ++ (48 + n % 10) ∷ []
digits_onto-last k n many h =
    let less : n / 10 < 10 ^ suc k = omega (arith, pow-suc 10 (suc k)) in
    let more : (n / 10 == 0) ≡ false = grind (arith, nat_tests) in
    let d = digit_glyph false (n % 10) in
    let e : d ≡ 48 + n % 10 = glyph (n % 10) (omega arith) in
    ap (λ b. cond b (d ∷ []) (digits_onto (suc k) 10 false (n / 10) (d ∷ []))) more
    ∙ digits_onto-before (suc k) (n / 10) (d ∷ [])
    ∙ ap (λ l. l ++ d ∷ []) (sym (digits_onto-more k (n / 10) [] less))
    ∙ ap (λ x. digits_onto (suc (suc k)) 10 false (n / 10) [] ++ x ∷ []) e

-- the digits of a number that has one, and of one that has more
pub decimal-one : (n : ℕ) → n < 10 → decimal n ≡ (48 + n % 10) ∷ []
unfolding digits
decimal-one n h =
    let small : n / 10 ≡ 0 = omega arith in
    rw small (ap (λ x. x ∷ []) (glyph (n % 10) (omega arith)))

pub decimal-more : (n : ℕ) → 10 ≤ n → n < 2 ^ 128 → decimal n ≡ decimal (n / 10) ++ (48 + n % 10) ∷ []
unfolding digits
decimal-more n many bound = digits_onto-last 62 n many (let big : 2 ^ 128 < 10 ^ 64 = lit< tt in omega (arith, bound, big))

-- one power more divides once more
pub div-pow-suc : (n k : ℕ) → n / 10 / 10 ^ k ≡ n / 10 ^ suc k
div-pow-suc n k = div-div-eq-div-mul n 10 (10 ^ k) ∙ ap (λ x. n / x) (sym (pow-succ' 10 k))

-- the last digits of a number stand behind this place, and those before them are the digits of what is left of it
pub record Written (n left first : ℕ) (all : List ℕ) : Type 0 where
  pub place : first ≤ 8
  pub long : length all ≡ 9
  pub below : left < 10 ^ (first + 1)
  pub text : decimal n ≡ decimal left ++ drop (first + 1) all

pub none_written : (n : ℕ) → n < 1000000000 → Written n n 8 (replicate 9 48)
none_written n few = record { place = omega arith; long = refl; below = few; text = sym (append-nil (decimal n)) }

-- what is left has as many digits as there are places
pub left_bound : (n left first : ℕ) (all : List ℕ) → Written n left first all → left < 1000000000
left_bound n left first all w =
    let most : 10 ^ (first + 1) ≤ 1000000000 = pow-le-pow_right {n = 10} (lit< tt) {i = first + 1} {j = 9} (omega (arith, w.place)) in
    omega (arith, w.below, most)

pub places_left : (n left first : ℕ) (all : List ℕ) → Written n left first all → 10 ≤ left → 1 ≤ first
places_left n left zero all w many = let below : left < 10 = w.below in absurd (omega arith)
places_left n left (suc first) all w many = omega arith

pub one_more_written : (n left first d : ℕ) (all : List ℕ) → Written n left first all → 10 ≤ left → d ≡ 48 + left % 10 →
    Written n (left / 10) (first - 1) (set all first d)
one_more_written n left first d all w many is =
    let some : 1 ≤ first = places_left n left first all w many in
    let at : first - 1 + 1 ≡ first = omega arith in
    let inside : first < length all = omega (arith, w.place, w.long) in
    let bound : left < 2 ^ 128 = (let big : 1000000000 < 2 ^ 128 = lit< tt in omega (arith, left_bound n left first all w, big)) in
    let more = decimal-more left many bound in
    let behind : drop (first - 1 + 1) (set all first d) ≡ d ∷ drop (first + 1) all = ap (λ k. drop k (set all first d)) at ∙ drop-set all first d inside in
    let power : 10 ^ (first + 1) ≡ 10 ^ (first - 1 + 1) * 10 = rw at (rw add-one (pow-suc 10 first)) in
    record {
      place = omega (arith, w.place);
      long = length-set all first d ∙ w.long;
      below = omega (arith, w.below, power);
      text = w.text ∙ ap (λ l. l ++ drop (first + 1) all) more ∙ append_assoc (decimal (left / 10)) ((48 + left % 10) ∷ []) (drop (first + 1) all)
          ∙ ap (λ x. decimal (left / 10) ++ x ∷ drop (first + 1) all) (sym is) ∙ ap (λ l. decimal (left / 10) ++ l) (sym behind);
    }

-- with the first digit at its place the number is whole
pub all_written : (n left first d m : ℕ) (all : List ℕ) → Written n left first all → left < 10 → d ≡ 48 + left → 9 - first ≤ m →
    take m (drop first (set all first d)) ≡ decimal n
all_written n left first d m all w few is room =
    let inside : first < length all = omega (arith, w.place, w.long) in
    let digit : 48 + left % 10 ≡ d = omega (arith, is) in
    let whole : drop first (set all first d) ≡ decimal n = drop-set all first d inside ∙ ap (λ x. x ∷ drop (first + 1) all) (sym digit)
    ∙ ap (λ l. l ++ drop (first + 1) all) (sym (decimal-one left few)) ∙ sym w.text in
    take_all m (drop first (set all first d)) (omega (arith, length-drop first (set all first d), length-set all first d, w.long, room)) ∙ whole
