-- The literal at the front.
use Rattle.std.proofs.Common.{◌≡◌, ◌≢◌, ℕ, suc, ◌+◌, ◌-◌, ◌*◌, ◌^◌, ◌<◌, ◌≤◌, Bool, true, false, cond, ◌==◌, List, [], ◌∷◌, ◌++◌, length, take, drop}
use Rattle.std.proofs.Common.{get_or, refl, sym, ap, ◌∙◌, ◌⊎◌, inl, inr, arith, lit<, codes, append_assoc, length-append, if◌then◌else◌}
use Rattle.std.specs.List.{list_all, prefix_len, fold}
use Rattle.std.proofs.Math.Nat.{pow-le-pow_right, pow-succ', one-le-pow}
use Rattle.std.proofs.Math.Seq.{take-append_seam, drop-append_seam}
use Rattle.std.proofs.lemmas.Bool.{and_parts, ne_eqb, eqb-true}
use Rattle.std.proofs.lemmas.List.{take-append-drop, length-take-le, drop-drop, take_more}
use Rattle.std.proofs.lemmas.List.Sums.{prefix_len-le-length}
use Rattle.dlk_grammar.specs.Tokens.{is_digit, are_digits, before_digits, trimmed, Spells}
use Rattle.dlk_grammar.specs.Literals.{IsLiteral, whole, pointed, literal_kind}
use Rattle.dlk_grammar.proofs.Real.{value_below, trimmed_is, digits_trimmed, digits_some}
use Rattle.dlk_grammar.proofs.Spelled.{digits_all, spells_whole, spells_pointed, literal_here}
use Rattle.dlk_lex.proofs.Fronts.{prefix_all, prefix_most, stands}
use Rattle.dlk_lex.specs.Fronts.{fraction_len, StandsInFront}

-- one digit more, of at most 38
pub digit_more : (i v : ℕ) → v < 10 ^ i → i < 38 → 10 * v + 9 < 2 ^ 128
digit_more i v h lt =
    let up : 10 ^ suc i ≤ 10 ^ 38 = pow-le-pow_right {n = 10} (lit< tt) {i = suc i} {j = 38} (omega arith) in
    let low : 10 ^ 38 < 2 ^ 128 = lit< tt in
    omega (arith, pow-succ' 10 i)

-- a zero at the end goes, and another digit stays
zero_goes : (l : List ℕ) → trimmed (l ++ 48 ∷ []) ≡ trimmed l
zero_goes [] = refl
zero_goes (d ∷ l) = rw (zero_goes l) refl

before_some : (c : ℕ) (l : List ℕ) (d : ℕ) → before_digits c (l ++ d ∷ []) ≡ c ∷ (l ++ d ∷ [])
before_some c [] d = refl
before_some c (e ∷ l) d = refl

digit_stays : (l : List ℕ) (d : ℕ) → (d == 48) ≡ false → trimmed (l ++ d ∷ []) ≡ l ++ d ∷ []
digit_stays [] d h = rw h refl
digit_stays (c ∷ l) d h = rw (digit_stays l d h) (before_some c l d)

module _ (ds : List ℕ) (n : ℕ) (le : n ≤ length ds) (same : trimmed (take n ds) ≡ trimmed ds) where
  last_of : 0 < n → take n ds ≡ take (n - 1) ds ++ get_or ds (n - 1) 0 ∷ []
  last_of some = let m : n ≡ (n - 1) + 1 = omega arith in ap (λ (k : ℕ). take k ds) m ∙ take_more ds (n - 1) 0 (omega arith)

  pub trims_more : 0 < n → get_or ds (n - 1) 0 ≡ 48 → trimmed (take (n - 1) ds) ≡ trimmed ds
  trims_more some h = sym (ap trimmed (last_of some ∙ ap (λ (d : ℕ). take (n - 1) ds ++ d ∷ []) h) ∙ zero_goes (take (n - 1) ds)) ∙ same

  pub trims_all : 0 < n → get_or ds (n - 1) 0 ≢ 48 → take n ds ≡ trimmed ds
  trims_all some h =
      let stays = digit_stays (take (n - 1) ds) (get_or ds (n - 1) 0) (ne_eqb (get_or ds (n - 1) 0) 48 h) in
      last_of some ∙ (sym stays ∙ (ap trimmed (sym (last_of some)) ∙ same))

-- a literal of at most 38 digits has room
pub room_for : (n : ℕ) → 0 < 10 ^ n
room_for n = omega (arith, one-le-pow n 10 (lit< tt))

pub room_behind : (s : List ℕ) (n : ℕ) → list_all is_digit s ≡ true → length s + n ≤ 38 → fold (λ m b. 10 * m + (b - 48)) 0 s < 10 ^ (38 - n)
room_behind s n h le =
    let below = value_below s 0 h in
    let up : 10 ^ length s ≤ 10 ^ (38 - n) = pow-le-pow_right {n = 10} (lit< tt) {i = length s} {j = 38 - n} (omega arith) in
    omega arith

pub trimmed_digits : (f : List ℕ) → list_all is_digit f ≡ true → list_all is_digit (trimmed f) ≡ true
trimmed_digits f h = digits_trimmed (trimmed f) (trimmed_is f h)

-- a run of digits, and what stops it
pub run_is_digits : (bytes : List ℕ) → 0 < prefix_len is_digit bytes → are_digits (take (prefix_len is_digit bytes) bytes) ≡ true
run_is_digits [] lt = absurd (omega arith)
run_is_digits (b ∷ bs) lt = go (is_digit b) refl (prefix_all is_digit bs) lt
  where
    go : (c : Bool) → is_digit b ≡ c → list_all is_digit (take (prefix_len is_digit bs) bs) ≡ true → 0 < cond c (1 + prefix_len is_digit bs) 0
        → are_digits (take (cond c (1 + prefix_len is_digit bs) 0) (b ∷ bs)) ≡ true
    go true e h lt = let n : 1 + prefix_len is_digit bs ≡ suc (prefix_len is_digit bs) = omega arith in rw n (rw (e, h) refl)
    go false e h lt = absurd (omega arith)

pub run_some : (bytes : List ℕ) → is_digit (get_or bytes 0 0) ≡ true → 0 < prefix_len is_digit bytes
run_some [] h = absurd cc
run_some (b ∷ bs) h = rw h (omega arith)

run_before : (s r : List ℕ) → list_all is_digit s ≡ true → prefix_len is_digit (s ++ (codes "." ++ r)) ≡ length s
run_before [] r h = refl
run_before (b ∷ s) r h = let w = and_parts (is_digit b) (list_all is_digit s) h in rw (w.0, run_before s r w.1) (omega arith)

-- a literal at the front is no longer than the digits there, with the point and the digits behind it where there are some
abbrev IsShort : List ℕ → ℕ → ℕ → Type 0
IsShort s digits fraction = (length s ≤ digits) ⊎ ((0 < fraction) × (length s ≤ digits + 1 + fraction))

pub literal_most : (bytes s after : List ℕ) → IsLiteral s → bytes ≡ s ++ after
    → IsShort s (prefix_len is_digit bytes) (fraction_len (drop (prefix_len is_digit bytes) bytes))
literal_most bytes _ after (whole s h) e = inl (rw e (prefix_most is_digit s after (digits_all s h)))
literal_most bytes _ after (pointed s f h i) e =
    let parts : bytes ≡ s ++ (codes "." ++ (f ++ after)) = e ∙ append_assoc s (codes "." ++ f) after in
    let run : prefix_len is_digit bytes ≡ length s = ap (prefix_len is_digit) parts ∙ run_before s (f ++ after) (digits_all s h) in
    let behind : drop (prefix_len is_digit bytes) bytes ≡ codes "." ++ (f ++ after) =
    ap (λ (n : ℕ). drop n bytes) run ∙ (ap (drop (length s)) parts ∙ drop-append_seam s (codes "." ++ (f ++ after))) in
    let most = prefix_most is_digit f after (digits_all f i) in
    let count : fraction_len (drop (prefix_len is_digit bytes) bytes) ≡ prefix_len is_digit (f ++ after) = ap fraction_len behind in
    inr (omega (arith, digits_some f i), omega (arith, length-append s (codes "." ++ f)))

-- the point and what is behind it, where digits are
pub behind_point : (bytes : List ℕ) (n : ℕ) → fraction_len (drop n bytes) ≢ 0
    → (drop n bytes ≡ codes "." ++ drop (n + 1) bytes) × (fraction_len (drop n bytes) ≡ prefix_len is_digit (drop (n + 1) bytes))
behind_point bytes n some = go (drop n bytes) (drop-drop 1 n bytes) some
  where
    go : (l : List ℕ) → drop 1 l ≡ drop (n + 1) bytes → fraction_len l ≢ 0
        → (l ≡ codes "." ++ drop (n + 1) bytes) × (fraction_len l ≡ prefix_len is_digit (drop (n + 1) bytes))
    go [] e some = absurd (some refl)
    go (b ∷ bs) e some = at (b == 46) refl some
      where
        at : (c : Bool) → (b == 46) ≡ c → (if c then prefix_len is_digit bs else 0) ≢ 0
            → (b ∷ bs ≡ codes "." ++ drop (n + 1) bytes) × ((if c then prefix_len is_digit bs else 0) ≡ prefix_len is_digit (drop (n + 1) bytes))
        at true h some = (rw (eqb-true b 46 h) (ap (λ (l : List ℕ). 46 ∷ l) e), ap (prefix_len is_digit) e)
        at false h some = absurd (some refl)

pub fraction_digits : (bytes : List ℕ) (n f : ℕ) → f ≡ fraction_len (drop n bytes) → f ≢ 0 → list_all is_digit (take f (drop (n + 1) bytes)) ≡ true
fraction_digits bytes n f count some =
    let w = behind_point bytes n (λ e. some (count ∙ e)) in
    rw (count ∙ w.1) (prefix_all is_digit (drop (n + 1) bytes))

module _ (bytes : List ℕ) (first : is_digit (get_or bytes 0 0) ≡ true) where
  -- the literal is the digits at the front
  pub whole_front : (n : ℕ) → n ≡ prefix_len is_digit bytes → fraction_len (drop n bytes) ≡ 0 → StandsInFront bytes (literal_kind (take n bytes) [], n)
  whole_front n same none =
      let run : are_digits (take n bytes) ≡ true = rw same (run_is_digits bytes (run_some bytes first)) in
      let no : fraction_len (drop (prefix_len is_digit bytes) bytes) ≡ 0 = ap (λ (m : ℕ). fraction_len (drop m bytes)) (sym same) ∙ none in
      stands bytes n (literal_kind (take n bytes) []) (omega (arith, prefix_len-le-length is_digit bytes)) (spells_whole (take n bytes) run)
      (λ s after other e p.
      elim (literal_most bytes s after (literal_here bytes s after e p first) e) [ inl le ↦ omega arith | inr w ↦ absurd (omega (arith, w.0)) ])

  -- the literal has a point
  pub pointed_front : (n f m : ℕ) → n ≡ prefix_len is_digit bytes → f ≡ fraction_len (drop n bytes) → f ≢ 0 → m ≡ n + 1 + f
      → (m ≤ length bytes) × StandsInFront bytes (literal_kind (take n bytes) (take f (drop (n + 1) bytes)), m)
  pointed_front n f m same count some end =
      let w = behind_point bytes n (λ e. some (count ∙ e)) in
      let d = drop (n + 1) bytes in
      let run : are_digits (take n bytes) ≡ true = rw same (run_is_digits bytes (run_some bytes first)) in
      let f-is : f ≡ prefix_len is_digit (drop (n + 1) bytes) = count ∙ w.1 in
      let more : are_digits (take f (drop (n + 1) bytes)) ≡ true = rw f-is (run_is_digits (drop (n + 1) bytes) (omega arith)) in
      let low : n ≤ length bytes = omega (arith, prefix_len-le-length is_digit bytes) in
      let high : f ≤ length (drop (n + 1) bytes) = omega (arith, prefix_len-le-length is_digit (drop (n + 1) bytes)) in
      let s = take n bytes ++ (codes "." ++ take f (drop (n + 1) bytes)) in
      let split : drop (n + 1) bytes ≡ take f (drop (n + 1) bytes) ++ drop f (drop (n + 1) bytes) = sym (take-append-drop f (drop (n + 1) bytes)) in
      let parts : bytes ≡ s ++ drop f (drop (n + 1) bytes) =
      sym (take-append-drop n bytes) ∙ ap (λ (l : List ℕ). take n bytes ++ l) (w.0 ∙ ap (λ (l : List ℕ). codes "." ++ l) split)
      ∙ sym (append_assoc (take n bytes) (codes "." ++ take f (drop (n + 1) bytes)) (drop f (drop (n + 1) bytes))) in
      let f-size = length-take-le f (drop (n + 1) bytes) high in
      let size : length s ≡ m = omega (arith, length-append (take n bytes) (codes "." ++ take f (drop (n + 1) bytes)), length-take-le n bytes low, f-size) in
      let front : take m bytes ≡ s =
      ap (λ (k : ℕ). take k bytes) (sym size) ∙ (ap (take (length s)) parts ∙ take-append_seam s (drop f (drop (n + 1) bytes))) in
      let le : m ≤ length bytes = omega (arith, ap length parts, length-append s (drop f (drop (n + 1) bytes))) in
      let spelled : Spells (take m bytes) (literal_kind (take n bytes) (take f (drop (n + 1) bytes))) =
      rw front (spells_pointed (take n bytes) (take f (drop (n + 1) bytes)) run more) in
      let run-is : fraction_len (drop (prefix_len is_digit bytes) bytes) ≡ f = ap (λ (k : ℕ). fraction_len (drop k bytes)) (sym same) ∙ sym count in (
        le,
        stands bytes m (literal_kind (take n bytes) (take f (drop (n + 1) bytes))) le spelled (λ x after other e p.
            elim (literal_most bytes x after (literal_here bytes x after e p first) e) [ inl short ↦ omega arith | inr v ↦ omega (arith, v.1) ]),
      )
