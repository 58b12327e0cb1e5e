-- When a token is the longest at the front.
use Rattle.std.proofs.Common.{◌≡◌, ◌⊎◌, ℕ, zero, suc, ◌+◌, ◌<◌, ◌≤◌, ◌==◌, Bool, true, false, ◌&&◌, ◌||◌, not, nat_lt, List, [], ◌∷◌, ◌++◌, length}
use Rattle.std.proofs.Common.{length-append, get_or, codes, refl, sym, ap, subst, ◌∙◌, append_assoc, arith, ltb-false, lit<, eq-eqb, inl, inr}
use Rattle.std.specs.List.{list_all}
use Rattle.std.specs.Str.{bytes_eq}
use Rattle.std.proofs.lemmas.Bool.{and_parts, or_parts}
use Rattle.std.proofs.lemmas.Bool.Decides.{nat_tests, Decides-eqb}
use Rattle.dlk_tree.specs.Names.{is_letter, is_name_byte, is_word}
use Rattle.dlk_grammar.specs.declared.token.Mark.{Mark}
use Rattle.dlk_grammar.specs.declared.token.Mark.TheVariants as mark
use Rattle.dlk_grammar.specs.declared.token.TokenKind.{TokenKind}
use Rattle.dlk_grammar.specs.declared.token.TokenKind.TheVariants as kind
use Rattle.dlk_grammar.specs.Tokens.{is_digit, are_digits, spelling, Spells, word, true_word, false_word, integer, decimal, long_integer}
use Rattle.dlk_grammar.specs.Tokens.{long_decimal, dot, hole, a_mark}
use Rattle.dlk_grammar.specs.Splits.{Longest}

-- the bytes end, or their first byte fails the test
abbrev pub stops : (ℕ → Bool) → List ℕ → Bool
stops p [] = true
stops p (b ∷ bs) = not (p b)

-- a run of bytes that pass goes no further than where they stop
pub run_ends : (p : ℕ → Bool) (xs rest l after : List ℕ) → xs ++ rest ≡ l ++ after → list_all p l ≡ true → stops p rest ≡ true → length l ≤ length xs
run_ends p [] rest [] after e h s = omega arith
run_ends p [] [] (c ∷ l) after e h s = absurd cc
run_ends p [] (b ∷ rest) (c ∷ l) after e h s = let same : b ≡ c = cc in absurd (go (p c) (list_all p l) h (subst (λ (x : ℕ). not (p x) ≡ true) same s))
  where
    go : (x y : Bool) → (x && y) ≡ true → not x ≡ true → ⊥
    go true y h s = cc
    go false y h s = cc
run_ends p (x ∷ xs) rest [] after e h s = omega arith
run_ends p (x ∷ xs) rest (c ∷ l) after e h s =
    let tail : xs ++ rest ≡ l ++ after = cc in
    let less = run_ends p xs rest l after tail (and_parts (p c) (list_all p l) h).1 s in
    omega (arith, less)

-- two runs that stop at the same byte
pub same_rest : (p : ℕ → Bool) (xs rest l after : List ℕ) → xs ++ rest ≡ l ++ after → list_all p xs ≡ true → list_all p l ≡ true → stops p rest ≡ true →
    stops p after ≡ true → rest ≡ after
same_rest p [] rest [] after e h g s t = e
same_rest p [] [] (c ∷ l) after e h g s t = absurd cc
same_rest p [] (b ∷ rest) (c ∷ l) after e h g s t = let same : b ≡ c = cc in absurd (go (p c) (list_all p l) g (subst (λ (x : ℕ). not (p x) ≡ true) same s))
  where
    go : (x y : Bool) → (x && y) ≡ true → not x ≡ true → ⊥
    go true y h s = cc
    go false y h s = cc
same_rest p (x ∷ xs) rest [] [] e h g s t = absurd cc
same_rest p (x ∷ xs) rest [] (b ∷ after) e h g s t = let same : b ≡ x = cc in absurd (go (p x) (list_all p xs) h (subst (λ (y : ℕ). not (p y) ≡ true) same t))
  where
    go : (x y : Bool) → (x && y) ≡ true → not x ≡ true → ⊥
    go true y h s = cc
    go false y h s = cc
same_rest p (x ∷ xs) rest (c ∷ l) after e h g s t =
    let tail : xs ++ rest ≡ l ++ after = cc in
    same_rest p xs rest l after tail (and_parts (p x) (list_all p xs) h).1 (and_parts (p c) (list_all p l) g).1 s t

-- what begins no word, no number, no dot and isn't a hole
abbrev pub begins_mark : ℕ → Bool
begins_mark b = not (is_letter b) && not (is_digit b) && not (b == 46) && not (b == 95)

abbrev pub are_mark : List ℕ → Bool
are_mark [] = false
are_mark (b ∷ bs) = begins_mark b

pub mark_begins : (m : Mark) → are_mark (spelling m) ≡ true
mark_begins mark.Forall = refl
mark_begins _ = refl

-- the shapes of tokens
pub data Shape (s : List ℕ) : Type 0 where
  a_word : is_word s ≡ true → Shape s
  whole : are_digits s ≡ true → Shape s
  parts : (i f : List ℕ) → s ≡ i ++ 46 ∷ f → are_digits i ≡ true → are_digits f ≡ true → Shape s
  a_dot : (b : ℕ) → s ≡ 46 ∷ 95 ∷ b ∷ [] → Shape s
  a_hole : s ≡ 95 ∷ [] → Shape s
  some_mark : (m : Mark) → s ≡ spelling m → Shape s

pub shape : {s : List ℕ} {k : TokenKind} → Spells s k → Shape s
shape (word s h) = a_word (and_parts (is_word s) _ (and_parts (is_word s && not (bytes_eq s (codes "true"))) _ h).0).0
shape true_word = a_word refl
shape false_word = a_word refl
shape (integer s h le) = whole h
shape (decimal s f h g le) = parts s f refl h g
shape (long_integer s h lt) = whole h
shape (long_decimal s f h g lt) = parts s f refl h g
shape (dot n lt) = a_dot (48 + n) refl
shape hole = a_hole refl
shape (a_mark m) = some_mark m refl

-- a letter begins words alone
letter_shape : (b : ℕ) (s : List ℕ) → is_letter b ≡ true → Shape (b ∷ s) → list_all is_name_byte s ≡ true
letter_shape b s l (a_word h) = (and_parts (is_letter b) (list_all is_name_byte s) h).1
letter_shape b s l (whole h) = let d = (and_parts (is_digit b) (list_all is_digit s) h).0 in absurd (grind (arith, nat_tests))
letter_shape b s l (parts [] f e h g) = absurd cc
letter_shape b s l (parts (c ∷ i) f e h g) =
    let same : b ≡ c = cc in
    let d : is_digit b ≡ true = rw same (and_parts (is_digit c) (list_all is_digit i) h).0 in
    absurd (grind (arith, nat_tests))
letter_shape b s l (a_dot c e) = let same : b ≡ 46 = cc in let w : false ≡ true = ap is_letter (sym same) ∙ l in absurd cc
letter_shape b s l (a_hole e) = let same : b ≡ 95 = cc in let w : false ≡ true = ap is_letter (sym same) ∙ l in absurd cc
letter_shape b s l (some_mark m e) =
    let w : begins_mark b ≡ true = ap are_mark e ∙ mark_begins m in
    let v : (not (is_letter b) && not (is_digit b) && not (b == 46) && not (b == 95)) ≡ true = w in
    absurd (grind (arith, nat_tests))

-- a digit begins numbers alone
data DigitShape (s : List ℕ) : Type 0 where
  digits : are_digits s ≡ true → DigitShape s
  point : (i f : List ℕ) → s ≡ i ++ 46 ∷ f → are_digits i ≡ true → are_digits f ≡ true → DigitShape s

digit_shape : (b : ℕ) (s : List ℕ) → is_digit b ≡ true → Shape (b ∷ s) → DigitShape (b ∷ s)
digit_shape b s d (a_word h) = let l = (and_parts (is_letter b) (list_all is_name_byte s) h).0 in absurd (grind (arith, nat_tests))
digit_shape b s d (whole h) = digits h
digit_shape b s d (parts i f e h g) = point i f e h g
digit_shape b s d (a_dot c e) = let same : b ≡ 46 = cc in let w : false ≡ true = ap is_digit (sym same) ∙ d in absurd cc
digit_shape b s d (a_hole e) = let same : b ≡ 95 = cc in let w : false ≡ true = ap is_digit (sym same) ∙ d in absurd cc
digit_shape b s d (some_mark m e) =
    let w : (not (is_letter b) && not (is_digit b) && not (b == 46) && not (b == 95)) ≡ true = ap are_mark e ∙ mark_begins m in
    absurd (grind (arith, nat_tests))

-- a byte of a mark begins marks alone
mark_shape : (b : ℕ) (s : List ℕ) → begins_mark b ≡ true → Shape (b ∷ s) → (m : Mark) × (b ∷ s ≡ spelling m)
mark_shape b s w (a_word h) = let l = (and_parts (is_letter b) (list_all is_name_byte s) h).0 in absurd (grind (arith, nat_tests))
mark_shape b s w (whole h) = let d = (and_parts (is_digit b) (list_all is_digit s) h).0 in absurd (grind (arith, nat_tests))
mark_shape b s w (parts [] f e h g) = absurd cc
mark_shape b s w (parts (c ∷ i) f e h g) =
    let same : b ≡ c = cc in
    let d : is_digit b ≡ true = rw same (and_parts (is_digit c) (list_all is_digit i) h).0 in
    absurd (grind (arith, nat_tests))
mark_shape b s w (a_dot c e) = let same : b ≡ 46 = cc in let v : false ≡ true = ap begins_mark (sym same) ∙ w in absurd cc
mark_shape b s w (a_hole e) = let same : b ≡ 95 = cc in let v : false ≡ true = ap begins_mark (sym same) ∙ w in absurd cc
mark_shape b s w (some_mark m e) = (m, e)

-- a byte that begins neither a word, a number nor a mark begins a dot or a hole
other_shape : (b : ℕ) (s : List ℕ) → is_letter b ≡ false → is_digit b ≡ false → begins_mark b ≡ false → Shape (b ∷ s) →
    ((b == 46) ≡ true × (length (b ∷ s) ≡ 3)) ⊎ ((b == 95) ≡ true × (length (b ∷ s) ≡ 1))
other_shape b s l d n (a_word h) = let w : false ≡ true = sym l ∙ (and_parts (is_letter b) (list_all is_name_byte s) h).0 in absurd cc
other_shape b s l d n (whole h) = let w : false ≡ true = sym d ∙ (and_parts (is_digit b) (list_all is_digit s) h).0 in absurd cc
other_shape b s l d n (parts [] f e h g) = absurd cc
other_shape b s l d n (parts (c ∷ i) f e h g) =
    let same : b ≡ c = cc in
    let w : false ≡ true = sym d ∙ ap is_digit same ∙ (and_parts (is_digit c) (list_all is_digit i) h).0 in
    absurd cc
other_shape b s l d n (a_dot c e) = let same : b ≡ 46 = cc in inl (eq-eqb b 46 same, ap (λ (x : List ℕ). length x) e)
other_shape b s l d n (a_hole e) = let same : b ≡ 95 = cc in inr (eq-eqb b 95 same, ap (λ (x : List ℕ). length x) e)
other_shape b s l d n (some_mark m e) = let w : false ≡ true = sym n ∙ ap are_mark e ∙ mark_begins m in absurd cc

-- the longest token, where every token at the front is no longer
longest : (s rest : List ℕ) (k : TokenKind) → Spells s k → ((l after : List ℕ) → s ++ rest ≡ l ++ after → Shape l → length l ≤ length s) →
    Longest (s ++ rest) s k
longest s rest k d h = record { rest = rest; front = refl; spells = d; longest = λ l after j e g. h l after e (shape g) }

pub word_longest : (x rest : List ℕ) (k : TokenKind) → is_word x ≡ true → Spells x k → stops is_name_byte rest ≡ true → Longest (x ++ rest) x k
word_longest [] rest k h d s = absurd cc
word_longest (b ∷ bs) rest k h d s = longest (b ∷ bs) rest k d go
  where
    go : (l after : List ℕ) → (b ∷ bs) ++ rest ≡ l ++ after → Shape l → length l ≤ length (b ∷ bs)
    go [] after e g = omega arith
    go (c ∷ l) after e g =
        let first : b ≡ c = cc in
        let tail : bs ++ rest ≡ l ++ after = cc in
        let letter : is_letter c ≡ true = subst (λ (y : ℕ). is_letter y ≡ true) first (and_parts (is_letter b) (list_all is_name_byte bs) h).0 in
        let less = run_ends is_name_byte bs rest l after tail (letter_shape c l letter g) s in
        omega (arith, less)

-- neither a digit nor a point
abbrev pub goes_on : ℕ → Bool
goes_on b = is_digit b || b == 46

all_digits : (s : List ℕ) → are_digits s ≡ true → list_all is_digit s ≡ true
all_digits [] h = refl
all_digits (b ∷ s) h = h

stops_digits : (bytes : List ℕ) → stops goes_on bytes ≡ true → stops is_digit bytes ≡ true
stops_digits [] s = refl
stops_digits (b ∷ bytes) s = go (is_digit b) (b == 46) s
  where
    go : (x y : Bool) → not (x || y) ≡ true → not x ≡ true
    go true y s = absurd cc
    go false y s = refl

-- digits with more digits behind a point are not these digits
no_point : (s rest i f after : List ℕ) → are_digits s ≡ true → stops goes_on rest ≡ true → s ++ rest ≡ (i ++ 46 ∷ f) ++ after → are_digits i ≡ true → ⊥
no_point s rest i f after h st e g =
    let same = same_rest is_digit s rest i (46 ∷ (f ++ after)) (e ∙ append_assoc i (46 ∷ f) after) (all_digits s h) (all_digits i g)
    (stops_digits rest st) refl in
    let w : false ≡ true = ap (stops goes_on) (sym same) ∙ st in
    absurd cc

pub digits_longest : (s rest : List ℕ) (k : TokenKind) → are_digits s ≡ true → Spells s k → stops goes_on rest ≡ true → Longest (s ++ rest) s k
digits_longest [] rest k h d st = absurd cc
digits_longest (b ∷ bs) rest k h d st = longest (b ∷ bs) rest k d go
  where
    by_shape : (l after : List ℕ) → (b ∷ bs) ++ rest ≡ l ++ after → DigitShape l → length l ≤ length (b ∷ bs)
    by_shape l after e (digits g) = run_ends is_digit (b ∷ bs) rest l after e (all_digits l g) (stops_digits rest st)
    by_shape l after e (point i f at g f-are) = absurd (no_point (b ∷ bs) rest i f after h st (e ∙ ap (λ (x : List ℕ). x ++ after) at) g)

    go : (l after : List ℕ) → (b ∷ bs) ++ rest ≡ l ++ after → Shape l → length l ≤ length (b ∷ bs)
    go [] after e g = omega arith
    go (c ∷ l) after e g =
        let first : b ≡ c = cc in
        let is : is_digit c ≡ true = subst (λ (y : ℕ). is_digit y ≡ true) first (and_parts (is_digit b) (list_all is_digit bs) h).0 in
        by_shape (c ∷ l) after e (digit_shape c l is g)

pub point_longest : (s t rest : List ℕ) (k : TokenKind) → are_digits s ≡ true → are_digits t ≡ true → Spells (s ++ 46 ∷ t) k → stops goes_on rest ≡ true →
    Longest ((s ++ 46 ∷ t) ++ rest) (s ++ 46 ∷ t) k
point_longest [] t rest k h ht d st = absurd cc
point_longest (b ∷ bs) t rest k h ht d st = longest ((b ∷ bs) ++ 46 ∷ t) rest k d go
  where
    by_shape : (l after : List ℕ) → ((b ∷ bs) ++ 46 ∷ t) ++ rest ≡ l ++ after → DigitShape l → length l ≤ length ((b ∷ bs) ++ 46 ∷ t)
    by_shape l after e (digits g) =
        let less = run_ends is_digit (b ∷ bs) (46 ∷ (t ++ rest)) l after (sym (append_assoc (b ∷ bs) (46 ∷ t) rest) ∙ e) (all_digits l g) refl in
        omega (arith, less, length-append (b ∷ bs) (46 ∷ t))
    by_shape l after e (point i f at g f-are) =
        let both : (b ∷ bs) ++ 46 ∷ (t ++ rest) ≡ i ++ 46 ∷ (f ++ after) = sym (append_assoc (b ∷ bs) (46 ∷ t) rest) ∙ e ∙ ap (λ (x : List ℕ). x ++ after) at
        ∙ append_assoc i (46 ∷ f) after in
        let same : 46 ∷ (t ++ rest) ≡ 46 ∷ (f ++ after) =
        same_rest is_digit (b ∷ bs) (46 ∷ (t ++ rest)) i (46 ∷ (f ++ after)) both (all_digits (b ∷ bs) h) (all_digits i g) refl refl in
        let tail : t ++ rest ≡ f ++ after = cc in
        let less = run_ends is_digit t rest f after tail (all_digits f f-are) (stops_digits rest st) in
        let front = run_ends is_digit (b ∷ bs) (46 ∷ (t ++ rest)) i (46 ∷ (f ++ after)) both (all_digits i g) refl in
        omega (arith, less, front, length-append (b ∷ bs) (46 ∷ t), length-append i (46 ∷ f), ap (λ (x : List ℕ). length x) at)

    go : (l after : List ℕ) → ((b ∷ bs) ++ 46 ∷ t) ++ rest ≡ l ++ after → Shape l → length l ≤ length ((b ∷ bs) ++ 46 ∷ t)
    go [] after e g = omega arith
    go (c ∷ l) after e g =
        let first : b ≡ c = cc in
        let is : is_digit c ≡ true = subst (λ (y : ℕ). is_digit y ≡ true) first (and_parts (is_digit b) (list_all is_digit bs) h).0 in
        by_shape (c ∷ l) after e (digit_shape c l is g)

pub dot_longest : (b : ℕ) (rest : List ℕ) (k : TokenKind) → Spells (46 ∷ 95 ∷ b ∷ []) k → Longest ((46 ∷ 95 ∷ b ∷ []) ++ rest) (46 ∷ 95 ∷ b ∷ []) k
dot_longest b rest k d = longest (46 ∷ 95 ∷ b ∷ []) rest k d go
  where
    go : (l after : List ℕ) → 46 ∷ 95 ∷ b ∷ rest ≡ l ++ after → Shape l → length l ≤ 3
    go [] after e g = omega arith
    go (c ∷ l) after e g =
        let first : 46 ≡ c = cc in
        elim (other_shape c l (sym (ap is_letter first)) (sym (ap is_digit first)) (sym (ap begins_mark first)) g) [
          | inl w ↦ omega (arith, w.1)
          | inr w ↦ omega (arith, w.1)
        ]

pub hole_longest : (rest : List ℕ) → Longest (95 ∷ rest) (95 ∷ []) kind.Hole
hole_longest rest = longest (95 ∷ []) rest kind.Hole hole go
  where
    go : (l after : List ℕ) → 95 ∷ rest ≡ l ++ after → Shape l → length l ≤ 1
    go [] after e g = omega arith
    go (c ∷ l) after e g =
        let first : 95 ≡ c = cc in
        elim (other_shape c l (sym (ap is_letter first)) (sym (ap is_digit first)) (sym (ap begins_mark first)) g) [
          | inl w ↦ let n : false ≡ true = ap (λ (x : ℕ). x == 46) first ∙ w.0 in absurd cc
          | inr w ↦ omega (arith, w.1)
        ]

-- the marks in order, and the place of each
abbrev pub all_marks : List Mark
all_marks = mark.Forall ∷ mark.Exists ∷ mark.Invariant ∷ mark.RoundBars ∷ mark.RoundBar ∷ mark.BarRound ∷ mark.BraceBar ∷ mark.BarBrace ∷ mark.OpenRound
    ∷ mark.CloseRound ∷ mark.OpenSquare ∷ mark.CloseSquare ∷ mark.OpenBrace ∷ mark.CloseBrace ∷ mark.Equiv ∷ mark.Imply ∷ mark.And ∷ mark.Or ∷ mark.Not
    ∷ mark.Turnstile ∷ mark.Equal ∷ mark.NotEqual ∷ mark.AtLeast ∷ mark.Greater ∷ mark.AtMost ∷ mark.Less ∷ mark.Plus ∷ mark.Minus ∷ mark.Star ∷ mark.Slash
    ∷ mark.Caret ∷ mark.Prime ∷ mark.Gets ∷ mark.Choice ∷ mark.Query ∷ mark.Semicolon ∷ mark.Comma ∷ mark.Becomes ∷ mark.Swaps ∷ []

place : Mark → ℕ
place mark.Forall = 0
place mark.Exists = 1
place mark.Invariant = 2
place mark.RoundBars = 3
place mark.RoundBar = 4
place mark.BarRound = 5
place mark.BraceBar = 6
place mark.BarBrace = 7
place mark.OpenRound = 8
place mark.CloseRound = 9
place mark.OpenSquare = 10
place mark.CloseSquare = 11
place mark.OpenBrace = 12
place mark.CloseBrace = 13
place mark.Equiv = 14
place mark.Imply = 15
place mark.And = 16
place mark.Or = 17
place mark.Not = 18
place mark.Turnstile = 19
place mark.Equal = 20
place mark.NotEqual = 21
place mark.AtLeast = 22
place mark.Greater = 23
place mark.AtMost = 24
place mark.Less = 25
place mark.Plus = 26
place mark.Minus = 27
place mark.Star = 28
place mark.Slash = 29
place mark.Caret = 30
place mark.Prime = 31
place mark.Gets = 32
place mark.Choice = 33
place mark.Query = 34
place mark.Semicolon = 35
place mark.Comma = 36
place mark.Becomes = 37
place mark.Swaps = 38

listed : (m : Mark) → (place m < length all_marks) × (get_or all_marks (place m) mark.Forall ≡ m)
unfolding place
listed mark.Forall = (lit< tt, refl)
listed _ = (lit< tt, refl)

abbrev pub is_front : List ℕ → List ℕ → Bool
is_front [] bytes = true
is_front (a ∷ l) [] = false
is_front (a ∷ l) (b ∷ bs) = (a == b) && is_front l bs

-- a mark of the list with more than n bytes is at the front
abbrev pub clashes : List Mark → List ℕ → ℕ → Bool
clashes [] bytes n = false
clashes (m ∷ ms) bytes n = (nat_lt n (length (spelling m)) && is_front (spelling m) bytes) || clashes ms bytes n

front-append : (l after : List ℕ) → is_front l (l ++ after) ≡ true
front-append [] after = refl
front-append (a ∷ l) after = rw ((Decides-eqb a a).1 refl, front-append l after) refl

no_longer : (ms : List Mark) (bytes after : List ℕ) (n i : ℕ) → clashes ms bytes n ≡ false → i < length ms →
    bytes ≡ spelling (get_or ms i mark.Forall) ++ after → length (spelling (get_or ms i mark.Forall)) ≤ n
no_longer [] bytes after n i h lt e = absurd (omega arith)
no_longer (m ∷ ms) bytes after n zero h lt e =
    let front : is_front (spelling m) bytes ≡ true = rw e (front-append (spelling m) after) in
    ltb-false n (length (spelling m)) (first (nat_lt n (length (spelling m))) (is_front (spelling m) bytes) (or_parts _ (clashes ms bytes n) h).0 front)
  where
    first : (x y : Bool) → (x && y) ≡ false → y ≡ true → x ≡ false
    first true y h e = absurd cc
    first false y h e = refl
no_longer (m ∷ ms) bytes after n (suc i) h lt e =
    no_longer ms bytes after n i (or_parts (nat_lt n (length (spelling m)) && is_front (spelling m) bytes) (clashes ms bytes n) h).1 (omega arith) e

mark_at : (m : Mark) (bytes after : List ℕ) (n : ℕ) → clashes all_marks bytes n ≡ false → bytes ≡ spelling m ++ after → length (spelling m) ≤ n
mark_at m bytes after n h e =
    let w = listed m in
    subst (λ (k : Mark). length (spelling k) ≤ n) w.1 (no_longer all_marks bytes after n (place m) h w.0 (e ∙ ap (λ (k : Mark). spelling k ++ after) (sym w.1)))

pub mark_longest : (m : Mark) (rest : List ℕ) → clashes all_marks (spelling m ++ rest) (length (spelling m)) ≡ false →
    Longest (spelling m ++ rest) (spelling m) (kind.Mark m)
mark_longest m rest free = longest (spelling m) rest (kind.Mark m) (a_mark m) (go (spelling m) (mark_begins m) free)
  where
    go : (s : List ℕ) → are_mark s ≡ true → clashes all_marks (s ++ rest) (length s) ≡ false → (l after : List ℕ) → s ++ rest ≡ l ++ after → Shape l →
        length l ≤ length s
    go [] h f l after e g = absurd cc
    go (b ∷ s) h f [] after e g = omega arith
    go (b ∷ s) h f (c ∷ l) after e g =
        let first : b ≡ c = cc in
        let w = mark_shape c l (subst (λ (x : ℕ). begins_mark x ≡ true) first h) g in
        let le = mark_at w.0 (b ∷ (s ++ rest)) after (length (b ∷ s)) f (e ∙ ap (λ (x : List ℕ). x ++ after) w.1) in
        subst (λ (x : List ℕ). length x ≤ length (b ∷ s)) (sym w.1) le
