-- What the bytes of a token are, by the first of them, and that they are one token.
use Rattle.std.proofs.Common.{◌≡◌, ℕ, ◌+◌, ◌-◌, ◌≤◌, ◌<◌, Bool, true, false, leb, nat_le, ◌==◌, ◌&&◌, List, [], ◌∷◌, ◌++◌, length, get_or, refl, sym}
use Rattle.std.proofs.Common.{ap, subst, ◌∙◌, inl, inr, arith, codes, if◌then◌else◌}
use Rattle.std.specs.List.{list_all}
use Rattle.std.specs.Str.{bytes_eq}
use Rattle.std.specs.Prelude.{not}
use Rattle.std.proofs.lemmas.Bool.{and_parts, or_cases, cases_lt, leb-true, le-leb, lt-leb, eqb-true}
use Rattle.dlk_tree.specs.Names.{is_letter, is_name_byte, is_word, is_name}
use Rattle.dlk_grammar.specs.declared.token.Mark.{Mark}
use Rattle.dlk_grammar.specs.declared.token.TokenKind.{TokenKind}
use Rattle.dlk_grammar.specs.declared.token.TokenKind.TheVariants.{Word, True, False, Number, LongNumber, Dot, Hole, Mark as AMark, End}
use Rattle.dlk_grammar.specs.Tokens.{is_space, is_digit, are_digits, literal_number, spelling, Spells, word, true_word, false_word, integer, decimal}
use Rattle.dlk_grammar.specs.Tokens.{long_integer, long_decimal, dot, hole, a_mark}
use Rattle.dlk_grammar.specs.Literals.{IsLiteral, whole, pointed, literal_kind}
use Rattle.dlk_grammar.proofs.Marks.{each_mark, mark_of, mark_of_spelling}

-- what a byte may begin
pub data Class : Type 0 where
  Letter : Class
  Digit : Class
  Point : Class
  Under : Class
  Space : Class
  Other : Class

abbrev pub class : ℕ → Class
class b =
    if is_letter b then Letter
    else (if is_digit b then Digit else (if b == 46 then Point else (if b == 95 then Under else (if is_space b then Space else Other))))

abbrev pub first_class : List ℕ → Class
first_class s = class (get_or s 0 0)

-- a digit is no letter
pub digit_no_letter : (b : ℕ) → is_digit b ≡ true → is_letter b ≡ false
digit_no_letter b h =
    let w = and_parts (nat_le 48 b) (nat_le b 57) h in
    let high : b ≤ 57 = leb-true b 57 w.1 in
    let low : leb 65 b ≡ false = lt-leb 65 b (omega arith) in
    let low' : leb 97 b ≡ false = lt-leb 97 b (omega arith) in
    rw (low, low') refl

pub letter_class : (b : ℕ) → is_letter b ≡ true → class b ≡ Letter
letter_class b h = rw h refl

pub digit_class : (b : ℕ) → is_digit b ≡ true → class b ≡ Digit
digit_class b h = rw (digit_no_letter b h, h) refl

pub space_class : (b : ℕ) → is_space b ≡ true → class b ≡ Space
space_class b h =
    elim (or_cases _ _ h) [
      | inl h3 ↦
          elim (or_cases _ _ h3) [
            | inl h2 ↦
                elim (or_cases _ _ h2) [
                  | inl h1 ↦ rw (eqb-true b 32 h1) refl
                  | inr h1 ↦ rw (eqb-true b 9 h1) refl
                ]
            | inr h2 ↦ rw (eqb-true b 13 h2) refl
          ]
      | inr h3 ↦ rw (eqb-true b 10 h3) refl
    ]

-- marks begin otherwise
begins_mark : Class → Bool
begins_mark Letter = false
begins_mark Digit = false
begins_mark Point = false
begins_mark Under = false
begins_mark Space = false
begins_mark Other = true

otherwise : (c : Class) → begins_mark c ≡ true → c ≡ Other
unfolding begins_mark
otherwise Letter h = absurd cc
otherwise Digit h = absurd cc
otherwise Point h = absurd cc
otherwise Under h = absurd cc
otherwise Space h = absurd cc
otherwise Other h = refl

pub mark_class : (m : Mark) → first_class (spelling m) ≡ Other
unfolding begins_mark
mark_class m = otherwise (first_class (spelling m)) (each_mark (λ m. begins_mark (first_class (spelling m))) refl m)

-- what a token is whose first byte is of a class
abbrev pub Shape : Class → List ℕ → Type 0
Shape Letter s = is_word s ≡ true
Shape Digit s = IsLiteral s
Shape Point s = (n : ℕ) × (n < 8) × (s ≡ codes "._" ++ (48 + n) ∷ [])
Shape Under s = s ≡ codes "_"
Shape Space s = ⊥
Shape Other s = (m : Mark) × (s ≡ spelling m)

-- the digits before the point, and those behind it
abbrev pub integer_part : List ℕ → List ℕ
integer_part [] = []
integer_part (b ∷ bs) = if is_digit b then b ∷ integer_part bs else []

abbrev pub fraction_part : List ℕ → List ℕ
fraction_part [] = []
fraction_part (b ∷ bs) = if is_digit b then fraction_part bs else bs

-- the token that bytes spell, if any
abbrev pub kind_by : Class → List ℕ → TokenKind
kind_by Letter s = if bytes_eq s (codes "true") then True else (if bytes_eq s (codes "false") then False else Word s)
kind_by Digit s = literal_kind (integer_part s) (fraction_part s)
kind_by Point s = Dot (get_or s 2 0 - 48)
kind_by Under s = Hole
kind_by Space s = End
kind_by Other s = AMark (mark_of s)

-- the shape and the kind of a token
pub record Seen (s : List ℕ) (k : TokenKind) : Type 0 where
  pub class : Class
  pub class_is : first_class s ≡ class
  pub shape : Shape class s
  pub kind : kind_by class s ≡ k

word_class : (s : List ℕ) → is_word s ≡ true → first_class s ≡ Letter
word_class [] h = absurd cc
word_class (b ∷ l) h = letter_class b (and_parts (is_letter b) (list_all is_name_byte l) h).0

pub literal_class : {s : List ℕ} → IsLiteral s → first_class s ≡ Digit
literal_class (whole [] h) = absurd cc
literal_class (whole (b ∷ l) h) = digit_class b (and_parts (is_digit b) (list_all is_digit l) h).0
literal_class (pointed [] f h i) = absurd cc
literal_class (pointed (b ∷ l) f h i) = digit_class b (and_parts (is_digit b) (list_all is_digit l) h).0

pub digits_all : (s : List ℕ) → are_digits s ≡ true → list_all is_digit s ≡ true
digits_all [] h = refl
digits_all (b ∷ l) h = h

-- the parts of a literal
pub integer_alone : (s : List ℕ) → list_all is_digit s ≡ true → integer_part s ≡ s
integer_alone [] h = refl
integer_alone (b ∷ l) h = let w = and_parts (is_digit b) (list_all is_digit l) h in rw (w.0, integer_alone l w.1) refl

pub fraction_none : (s : List ℕ) → list_all is_digit s ≡ true → fraction_part s ≡ []
fraction_none [] h = refl
fraction_none (b ∷ l) h = let w = and_parts (is_digit b) (list_all is_digit l) h in rw (w.0, fraction_none l w.1) refl

pub integer_before : (s f : List ℕ) → list_all is_digit s ≡ true → integer_part (s ++ (codes "." ++ f)) ≡ s
integer_before [] f h = refl
integer_before (b ∷ l) f h = let w = and_parts (is_digit b) (list_all is_digit l) h in rw (w.0, integer_before l f w.1) refl

pub fraction_behind : (s f : List ℕ) → list_all is_digit s ≡ true → fraction_part (s ++ (codes "." ++ f)) ≡ f
fraction_behind [] f h = refl
fraction_behind (b ∷ l) f h = let w = and_parts (is_digit b) (list_all is_digit l) h in rw (w.0, fraction_behind l f w.1) refl

whole_kind : (s : List ℕ) → are_digits s ≡ true → kind_by Digit s ≡ literal_kind s []
whole_kind s h = rw (integer_alone s (digits_all s h), fraction_none s (digits_all s h)) refl

pointed_kind : (s f : List ℕ) → are_digits s ≡ true → kind_by Digit (s ++ (codes "." ++ f)) ≡ literal_kind s f
pointed_kind s f h = rw (integer_before s f (digits_all s h), fraction_behind s f (digits_all s h)) refl

number_kind : (s f : List ℕ) → length s + length f ≤ 38 → literal_kind s f ≡ Number (literal_number s f)
number_kind s f le = rw (le-leb (length s + length f) 38 le) refl

long_kind : (s f : List ℕ) → 38 < length s + length f → literal_kind s f ≡ LongNumber
long_kind s f lt = rw (lt-leb (length s + length f) 38 lt) refl

-- what a literal spells
pub spells_whole : (s : List ℕ) → are_digits s ≡ true → Spells s (literal_kind s [])
spells_whole s h = elim (cases_lt 38 (length s)) [
  | inl lt ↦ subst (Spells s) (sym (long_kind s [] (omega arith))) (long_integer s h lt)
  | inr le ↦ subst (Spells s) (sym (number_kind s [] (omega arith))) (integer s h le)
]

pub spells_pointed : (s f : List ℕ) → are_digits s ≡ true → are_digits f ≡ true → Spells (s ++ (codes "." ++ f)) (literal_kind s f)
spells_pointed s f h i = elim (cases_lt 38 (length s + length f)) [
  | inl lt ↦ subst (Spells (s ++ (codes "." ++ f))) (sym (long_kind s f lt)) (long_decimal s f h i lt)
  | inr le ↦ subst (Spells (s ++ (codes "." ++ f))) (sym (number_kind s f le)) (decimal s f h i le)
]

name_kind : (s : List ℕ) → is_name s ≡ true → kind_by Letter s ≡ Word s
name_kind s h = go (bytes_eq s (codes "true")) (bytes_eq s (codes "false")) (is_word s) h
  where
    go : (t f w : Bool) → (w && not t && not f) ≡ true → (if t then True else (if f then False else Word s)) ≡ Word s
    go true f true h = absurd cc
    go true f false h = absurd cc
    go false true true h = absurd cc
    go false true false h = absurd cc
    go false false w h = refl

pub seen : {s : List ℕ} {k : TokenKind} → Spells s k → Seen s k
seen (word s h) =
    let w : is_word s ≡ true = (and_parts _ _ (and_parts _ _ h).0).0 in
    record { class = Letter; class_is = word_class s w; shape = w; kind = name_kind s h }
seen true_word = record { class = Letter; class_is = refl; shape = refl; kind = refl }
seen false_word = record { class = Letter; class_is = refl; shape = refl; kind = refl }
seen (integer s h le) =
    record { class = Digit; class_is = literal_class (whole s h); shape = whole s h; kind = whole_kind s h ∙ number_kind s [] (omega arith) }
seen (decimal s f h i le) =
    record { class = Digit; class_is = literal_class (pointed s f h i); shape = pointed s f h i; kind = pointed_kind s f h ∙ number_kind s f le }
seen (long_integer s h lt) =
    record { class = Digit; class_is = literal_class (whole s h); shape = whole s h; kind = whole_kind s h ∙ long_kind s [] (omega arith) }
seen (long_decimal s f h i lt) =
    record { class = Digit; class_is = literal_class (pointed s f h i); shape = pointed s f h i; kind = pointed_kind s f h ∙ long_kind s f lt }
seen (dot n lt) = record { class = Point; class_is = refl; shape = (n, lt, refl); kind = let e : (48 + n) - 48 ≡ n = omega arith in rw e refl }
seen hole = record { class = Under; class_is = refl; shape = refl; kind = refl }
seen (a_mark m) = record { class = Other; class_is = mark_class m; shape = (m, refl); kind = ap AMark (mark_of_spelling m) }

-- bytes are one token
pub one_kind : {s : List ℕ} {j k : TokenKind} → Spells s j → Spells s k → j ≡ k
one_kind {s} p q =
    let a = seen p in
    let b = seen q in
    sym a.kind ∙ (ap (λ c. kind_by c s) (sym a.class_is ∙ b.class_is) ∙ b.kind)

-- the shape of a token, by its first byte
pub shape_at : {s : List ℕ} {k : TokenKind} → Spells s k → (c : Class) → first_class s ≡ c → Shape c s
shape_at {s} p c e = let a = seen p in subst (λ x. Shape x s) (sym a.class_is ∙ e) a.shape

-- no token is empty
pub spelled_some : {s : List ℕ} {k : TokenKind} → Spells s k → s ≡ [] → ⊥
spelled_some {s} p e =
    let w = shape_at p Other (ap first_class e) in
    let some = each_mark (λ m. not (length (spelling m) == 0)) refl w.0 in
    let none : length (spelling w.0) ≡ 0 = ap length (sym w.1 ∙ e) in
    absurd (grind (arith, some, none))

-- white space begins no token
pub space_no_token : {s : List ℕ} {k : TokenKind} → Spells s k → is_space (get_or s 0 0) ≡ true → ⊥
space_no_token {s} p h = shape_at p Space (space_class (get_or s 0 0) h)

-- what a token in front of other bytes is, by the first of them
shape_here : (bytes s after : List ℕ) {k : TokenKind} (c : Class) → first_class bytes ≡ c → bytes ≡ s ++ after → Spells s k → Shape c s
shape_here bytes [] after c h e p = absurd (spelled_some p refl)
shape_here bytes (b ∷ s) after c h e p = shape_at p c (ap first_class (sym e) ∙ h)

module _ (bytes s after : List ℕ) {k : TokenKind} (e : bytes ≡ s ++ after) (p : Spells s k) where
  pub word_here : is_letter (get_or bytes 0 0) ≡ true → is_word s ≡ true
  word_here h = shape_here bytes s after Letter (letter_class (get_or bytes 0 0) h) e p

  pub literal_here : is_digit (get_or bytes 0 0) ≡ true → IsLiteral s
  literal_here h = shape_here bytes s after Digit (digit_class (get_or bytes 0 0) h) e p

  pub dot_here : get_or bytes 0 0 ≡ 46 → (n : ℕ) × (n < 8) × (s ≡ codes "._" ++ (48 + n) ∷ [])
  dot_here h = shape_here bytes s after Point (ap class h) e p

  pub hole_here : get_or bytes 0 0 ≡ 95 → s ≡ codes "_"
  hole_here h = shape_here bytes s after Under (ap class h) e p

  pub mark_here : is_letter (get_or bytes 0 0) ≡ false → is_digit (get_or bytes 0 0) ≡ false → (get_or bytes 0 0 == 46) ≡ false
      → (get_or bytes 0 0 == 95) ≡ false
      → (m : Mark) × (s ≡ spelling m)
  mark_here no_letter no_digit no_point no_under = go (is_space (get_or bytes 0 0)) refl
    where
      go : (b : Bool) → is_space (get_or bytes 0 0) ≡ b → (m : Mark) × (s ≡ spelling m)
      go true h = absurd (shape_here bytes s after Space (space_class (get_or bytes 0 0) h) e p)
      go false h = shape_here bytes s after Other (rw (no_letter, no_digit, no_point, no_under, h) refl) e p
