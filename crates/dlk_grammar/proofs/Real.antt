-- The tokens of a split are those of a text: each is real, and the end is the last.
use Rattle.std.proofs.Common.{◌≡◌, ◌≢◌, ℕ, ◌+◌, ◌-◌, ◌*◌, ◌%◌, ◌^◌, ◌<◌, ◌≤◌, Bool, true, false, nat_le, ◌==◌, ◌||◌, List, [], ◌∷◌, ◌++◌, length}
use Rattle.std.proofs.Common.{refl, sym, ap, ◌∙◌, arith, lit<, append_assoc, length-append, if◌then◌else◌}
use Rattle.std.specs.Prelude.{not}
use Rattle.std.specs.List.{list_all, fold}
use Rattle.std.proofs.Math.Nat.{pow-le-pow_right, pow-succ', mul-le-mul_right, mul_assoc}
use Rattle.std.proofs.lemmas.List.Elements.{All-cons, All-nil}
use Rattle.std.proofs.lemmas.List.Sums.{fold-append}
use Rattle.std.proofs.lemmas.List.Folds.{list_all-append}
use Rattle.std.proofs.lemmas.Bool.{and_parts, leb-true, lt-ltb, le-leb, ne_eqb, eqb-false, and_from, or_right, not_from_false}
use Rattle.dlk_tree.specs.Table.{is_num}
use Rattle.dlk_grammar.specs.declared.token.Token.{Token}
use Rattle.dlk_grammar.specs.declared.token.TokenKind.{TokenKind}
use Rattle.dlk_grammar.specs.declared.token.TokenKind.TheVariants.{End}
use Rattle.dlk_grammar.specs.Tokens.{is_digit, are_digits, value, before_digits, trimmed, literal_number, Spells, word, true_word, false_word}
use Rattle.dlk_grammar.specs.Tokens.{integer, decimal, long_integer, long_decimal, dot, hole, a_mark}
use Rattle.dlk_grammar.specs.Splits.{Splits, ended, space, comment, one, token}
use Rattle.dlk_grammar.specs.RealTokens.{IsReal, AreTokens}
use Rattle.dlk_grammar.proofs.Spelled.{digits_all}

-- digits say a number below the power of ten of their count
digit_below : (n e p f : ℕ) → e ≤ 9 → f < (10 * n + e + 1) * p → f < (n + 1) * (10 * p)
digit_below n e p f h lt =
    let more : (10 * n + e + 1) * p ≤ ((n + 1) * 10) * p = mul-le-mul_right p (omega arith) in
    let same : ((n + 1) * 10) * p ≡ (n + 1) * (10 * p) = mul_assoc (n + 1) 10 p in
    omega arith

pub value_below : (ds : List ℕ) (n : ℕ) → list_all is_digit ds ≡ true → fold (λ m b. 10 * m + (b - 48)) n ds < (n + 1) * 10 ^ length ds
value_below [] n h = omega arith
value_below (d ∷ ds) n h =
    let w = and_parts (is_digit d) (list_all is_digit ds) h in
    let high : d ≤ 57 = leb-true d 57 (and_parts (nat_le 48 d) (nat_le d 57) w.0).1 in
    rw (pow-succ' 10 (length ds)) (digit_below n (d - 48) (10 ^ length ds) _ (omega arith) (value_below ds (10 * n + (d - 48)) w.1))

-- What is left of digits without the zeros at their end: none, or digits of which the last is no zero.
pub data Trimmed : List ℕ → Type 0 where
  none : Trimmed []
  some : (ds : List ℕ) (d : ℕ) → list_all is_digit ds ≡ true → is_digit d ≡ true → (d == 48) ≡ false → Trimmed (ds ++ d ∷ [])

digit_before : (d : ℕ) (t : List ℕ) → is_digit d ≡ true → Trimmed t → Trimmed (before_digits d t)
digit_before d _ h none = go (d == 48) refl
  where
    go : (b : Bool) → (d == 48) ≡ b → Trimmed (if b then [] else d ∷ [])
    go true e = none
    go false e = some [] d refl h e
digit_before d _ h (some [] e x y z) = some (d ∷ []) e (rw h refl) y z
digit_before d _ h (some (c ∷ cs) e x y z) = some (d ∷ c ∷ cs) e (and_from (is_digit d) (list_all is_digit (c ∷ cs)) h x) y z

pub trimmed_is : (f : List ℕ) → list_all is_digit f ≡ true → Trimmed (trimmed f)
trimmed_is [] h = none
trimmed_is (d ∷ ds) h = let w = and_parts (is_digit d) (list_all is_digit ds) h in digit_before d (trimmed ds) w.0 (trimmed_is ds w.1)

before_short : (d : ℕ) (t : List ℕ) → length (before_digits d t) ≤ length t + 1
before_short d [] = go (d == 48)
  where
    go : (b : Bool) → length (if b then [] else d ∷ []) ≤ 1
    go true = omega arith
    go false = omega arith
before_short d (e ∷ es) = omega arith

pub trimmed_short : (f : List ℕ) → length (trimmed f) ≤ length f
trimmed_short [] = omega arith
trimmed_short (d ∷ ds) = omega (arith, before_short d (trimmed ds), trimmed_short ds)

pub digits_trimmed : (t : List ℕ) → Trimmed t → list_all is_digit t ≡ true
digits_trimmed _ none = refl
digits_trimmed _ (some ds d x y z) = list_all-append is_digit ds (d ∷ []) ∙ rw (x, y) refl

last_digit : (n d : ℕ) → is_digit d ≡ true → (d == 48) ≡ false → ((10 * n + (d - 48)) % 10 == 0) ≡ false
last_digit n d h z =
    let w = and_parts (nat_le 48 d) (nat_le d 57) h in
    let low : 48 ≤ d = leb-true 48 d w.0 in
    let high : d ≤ 57 = leb-true d 57 w.1 in
    let no_zero : d ≢ 48 = eqb-false d 48 z in
    ne_eqb ((10 * n + (d - 48)) % 10) 0 (λ e. omega arith)

scaled : (s t : List ℕ) → Trimmed t → (length t == 0 || not (value (s ++ t) % 10 == 0)) ≡ true
scaled s _ none = refl
scaled s _ (some ds d x y z) =
    let v = value (s ++ ds) in
    let parts : value (s ++ (ds ++ d ∷ [])) ≡ 10 * value (s ++ ds) + (d - 48) =
    ap value (sym (append_assoc s ds (d ∷ []))) ∙ fold-append (λ m b. 10 * m + (b - 48)) 0 (s ++ ds) (d ∷ []) in
    let last = not_from_false (value (s ++ (ds ++ d ∷ [])) % 10 == 0) (rw parts (last_digit (value (s ++ ds)) d y z)) in
    or_right (length (ds ++ d ∷ []) == 0) (not (value (s ++ (ds ++ d ∷ [])) % 10 == 0)) last

pub digits_some : (s : List ℕ) → are_digits s ≡ true → 1 ≤ length s
digits_some [] h = absurd cc
digits_some (b ∷ l) h = omega arith

pub number_is : (s f : List ℕ) → are_digits s ≡ true → list_all is_digit f ≡ true → length s + length f ≤ 38 → is_num (literal_number s f) ≡ true
number_is s f h g le =
    let t = trimmed_is f g in
    let all : list_all is_digit (s ++ trimmed f) ≡ true = list_all-append is_digit s (trimmed f)
    ∙ and_from (list_all is_digit s) (list_all is_digit (trimmed f)) (digits_all s h) (digits_trimmed (trimmed f) t) in
    let below = value_below (s ++ trimmed f) 0 all in
    let size = length-append s (trimmed f) in
    let short = trimmed_short f in
    let some = digits_some s h in
    let up : 10 ^ length (s ++ trimmed f) ≤ 10 ^ 38 = pow-le-pow_right {n = 10} (lit< tt) {i = length (s ++ trimmed f)} {j = 38} (omega arith) in
    let low : value (s ++ trimmed f) < 10 ^ 38 = omega arith in
    let few : length (trimmed f) ≤ 37 = omega arith in
    and_from _ _ (and_from _ _ (lt-ltb (value (s ++ trimmed f)) (10 ^ 38) low) (le-leb (length (trimmed f)) 37 few)) (scaled s (trimmed f) t)

spelled_real : {s : List ℕ} {k : TokenKind} → Spells s k → IsReal k
spelled_real (word s h) = h
spelled_real true_word = tt
spelled_real false_word = tt
spelled_real (integer s h le) = number_is s [] h refl (omega arith)
spelled_real (decimal s f h i le) = number_is s f h (digits_all f i) le
spelled_real (long_integer s h lt) = tt
spelled_real (long_decimal s f h i lt) = tt
spelled_real (dot n lt) = lt
spelled_real hole = tt
spelled_real (a_mark m) = tt

pub spelled_no_end : {s : List ℕ} {k : TokenKind} → Spells s k → k ≢ End
spelled_no_end (word s h) e = cc
spelled_no_end true_word e = cc
spelled_no_end false_word e = cc
spelled_no_end (integer s h le) e = cc
spelled_no_end (decimal s f h i le) e = cc
spelled_no_end (long_integer s h lt) e = cc
spelled_no_end (long_decimal s f h i lt) e = cc
spelled_no_end (dot n lt) e = cc
spelled_no_end hole e = cc
spelled_no_end (a_mark m) e = cc

pub split_tokens : {at : ℕ} {bytes : List ℕ} {ts : List Token} → Splits at bytes ts → AreTokens ts
split_tokens {at} (ended e) = record {
  before = [];
  last = token End at at;
  tokens_are = refl;
  ends = refl;
  no_sooner = All-nil (λ t. t.kind ≢ End);
  real = All-cons (λ t. IsReal t.kind) (token End at at) [] tt (All-nil (λ t. IsReal t.kind));
}
split_tokens (space b rest e h p) = split_tokens p
split_tokens (comment s rest c p) = split_tokens p
split_tokens {at} (one {ts = ts} s rest k e n l p) =
    let w = split_tokens p in
    let t = token k at (at + length s) in
    record {
      before = t ∷ w.before;
      last = w.last;
      tokens_are = ap (λ (x : List Token). t ∷ x) w.tokens_are;
      ends = w.ends;
      no_sooner = All-cons (λ t. t.kind ≢ End) t w.before (spelled_no_end l.spells) w.no_sooner;
      real = All-cons (λ t. IsReal t.kind) t ts (spelled_real l.spells) w.real;
    }
