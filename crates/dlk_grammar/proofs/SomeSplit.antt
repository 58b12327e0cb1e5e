-- Bytes are split, or come to a bad place: at each place it can be told what is at the front.
use Rattle.std.proofs.Common.{◌≡◌, ℕ, zero, suc, ◌+◌, ◌-◌, ◌<◌, ◌≤◌, Bool, true, false, ◌&&◌, List, [], ◌∷◌, ◌++◌, length, take, drop, get_or, refl}
use Rattle.std.proofs.Common.{sym, ap, subst, ◌∙◌, ◌⊎◌, inl, inr, arith, codes, append_assoc, length-append}
use Rattle.std.specs.Str.{bytes_eq}
use Rattle.std.proofs.Math.Seq.{take-append_seam}
use Rattle.std.proofs.lemmas.Bool.{and_parts, cases_Bool, cases_eq, cases_lt}
use Rattle.std.proofs.lemmas.List.{take-append-drop, length-take-le}
use Rattle.std.proofs.lemmas.Slice.Eq.{bytes_eq-Decides}
use Rattle.dlk_tree.specs.Names.{is_word}
use Rattle.dlk_tree.proofs.TreeSame.{decided}
use Rattle.dlk_grammar.specs.declared.token.Token.{Token}
use Rattle.dlk_grammar.specs.declared.token.TokenKind.{TokenKind}
use Rattle.dlk_grammar.specs.declared.token.TokenKind.TheVariants.{Word, True, False, Dot, Hole, Mark as AMark, End}
use Rattle.dlk_grammar.specs.Tokens.{is_space, are_digits, spelling, Spells, word, true_word, false_word, dot, hole, a_mark}
use Rattle.dlk_grammar.specs.Literals.{IsLiteral, whole, pointed, literal_kind}
use Rattle.dlk_grammar.specs.Splits.{Longest, BeginsComment, EndsLine, at_end, at_feed, IsComment, token, Splits, BadAt}
use Rattle.dlk_grammar.specs.Fronts.{Piece, Ended, Gap, One, Bad, AtFront, front-ended, front-space, front-comment, front-one, front-bad}
use Rattle.dlk_grammar.proofs.Marks.{mark_of, mark_of_spelling}
use Rattle.dlk_grammar.proofs.Spelled.{Class, Letter, Digit, Point, Under, Space, Other, first_class, Shape, integer_part, fraction_part}
use Rattle.dlk_grammar.proofs.Spelled.{integer_before, fraction_behind, digits_all, spells_whole, spells_pointed, shape_at, spelled_some}
use Rattle.dlk_grammar.proofs.Splitting.{NoEnd, later_no_end, NoFeed, apart, same_rest, comment_begins, go_on, go_bad, forward}

passes : (b : Bool) → Dec (b ≡ true)
passes true = yes refl
passes false = no (λ e. cc)

same : (s t : List ℕ) → Dec (s ≡ t)
same s t = decided (bytes_eq s t) (bytes_eq-Decides s t)

-- a word at the front
abbrev Front : List ℕ → List ℕ → Type 0
Front w bytes = (rest : List ℕ) × (bytes ≡ w ++ rest)

fronts : (w bytes : List ℕ) → Dec (Front w bytes)
fronts w bytes = elim (same (take (length w) bytes) w) [
  | yes e ↦ yes (drop (length w) bytes, sym (take-append-drop (length w) bytes) ∙ ap (λ (l : List ℕ). l ++ drop (length w) bytes) e)
  | no n ↦ no (λ f. n (ap (take (length w)) f.1 ∙ take-append_seam w f.0))
]

-- a literal is digits, or its parts with a point between them
abbrev pointed_parts : List ℕ → List ℕ
pointed_parts s = integer_part s ++ (codes "." ++ fraction_part s)

abbrev is_pointed : List ℕ → Bool
is_pointed s = are_digits (integer_part s) && are_digits (fraction_part s) && bytes_eq s (pointed_parts s)

by_parts : (s : List ℕ) → is_pointed s ≡ true → IsLiteral s
by_parts s h =
    let w = and_parts (are_digits (integer_part s) && are_digits (fraction_part s)) (bytes_eq s (pointed_parts s)) h in
    let v = and_parts (are_digits (integer_part s)) (are_digits (fraction_part s)) w.0 in
    subst IsLiteral (sym ((bytes_eq-Decides s (pointed_parts s)).0 w.1)) (pointed (integer_part s) (fraction_part s) v.0 v.1)

no_literal : {s : List ℕ} → ¬ (are_digits s ≡ true) → ¬ (is_pointed s ≡ true) → ¬ IsLiteral s
no_literal n m (whole s h) = n h
no_literal n m (pointed s f h i) =
    let e = (bytes_eq-Decides (s ++ (codes "." ++ f)) (s ++ (codes "." ++ f))).1 refl in
    m (rw (integer_before s f (digits_all s h), fraction_behind s f (digits_all s h), h, i) e)

literal : (s : List ℕ) → Dec (IsLiteral s)
literal s = elim (passes (are_digits s)) [
  | yes h ↦ yes (whole s h)
  | no n ↦ elim (passes (is_pointed s)) [ yes h ↦ yes (by_parts s h) | no m ↦ no (no_literal n m) ]
]

-- whether bytes have the shape of a token, and the token of those that have it
shaped : (c : Class) (s : List ℕ) → Dec (Shape c s)
shaped Letter s = passes (is_word s)
shaped Digit s = literal s
shaped Point s = elim (same s (codes "._" ++ (48 + (get_or s 2 0 - 48)) ∷ [])) [
  | yes e ↦
      elim (cases_lt (get_or s 2 0 - 48) 8) [
        | inl lt ↦ yes (get_or s 2 0 - 48, lt, e)
        | inr le ↦ no (λ w. omega (arith, w.1, ap (λ (l : List ℕ). get_or l 2 0) w.2))
      ]
  | no n ↦ no (λ w. let d : get_or s 2 0 - 48 ≡ w.0 = omega (arith, ap (λ (l : List ℕ). get_or l 2 0) w.2) in n (rw d w.2))
]
shaped Under s = same s (codes "_")
shaped Space s = no (λ w. w)
shaped Other s = elim (same s (spelling (mark_of s))) [
  | yes e ↦ yes (mark_of s, e)
  | no n ↦ no (λ w. n (w.1 ∙ ap spelling (sym (ap mark_of w.1 ∙ mark_of_spelling w.0))))
]

spelled : (c : Class) (s : List ℕ) → Shape c s → (k : TokenKind) × Spells s k
spelled Letter s w = elim (cases_Bool (bytes_eq s (codes "true"))) [
  | inl h ↦ (True, rw ((bytes_eq-Decides s (codes "true")).0 h) true_word)
  | inr h ↦
      elim (cases_Bool (bytes_eq s (codes "false"))) [
        | inl g ↦ (False, rw ((bytes_eq-Decides s (codes "false")).0 g) false_word)
        | inr g ↦ (Word s, word s (rw (w, h, g) refl))
      ]
]
spelled Digit _ (whole s h) = (literal_kind s [], spells_whole s h)
spelled Digit _ (pointed s f h i) = (literal_kind s f, spells_pointed s f h i)
spelled Point s w = (Dot w.0, subst (λ (x : List ℕ). Spells x (Dot w.0)) (sym w.2) (dot w.0 w.1))
spelled Under s e = (Hole, subst (λ (x : List ℕ). Spells x Hole) (sym e) hole)
spelled Space s w = absurd w
spelled Other s w = (AMark w.0, subst (λ (x : List ℕ). Spells x (AMark w.0)) (sym w.1) (a_mark w.0))

spells : (s : List ℕ) → Dec ((k : TokenKind) × Spells s k)
spells s = elim (shaped (first_class s) s) [
  | yes w ↦ yes (spelled (first_class s) s w)
  | no n ↦ no (λ p. n (shape_at p.1 (first_class s) refl))
]

-- the longest token at the front, where no token there has more than n bytes
abbrev AtMost : List ℕ → ℕ → Type 0
AtMost bytes n = (s after : List ℕ) (k : TokenKind) → bytes ≡ s ++ after → Spells s k → length s ≤ n

longest : (bytes : List ℕ) (n : ℕ) → n ≤ length bytes → AtMost bytes n → Dec ((s : List ℕ) × (k : TokenKind) × Longest bytes s k)
longest bytes zero le most = no (λ w. none w.0 w.2.spells (most w.0 w.2.rest w.1 w.2.front w.2.spells))
  where
    none : (s : List ℕ) {k : TokenKind} → Spells s k → length s ≤ 0 → ⊥
    none [] p le = spelled_some p refl
    none (b ∷ s) p le = omega arith
longest bytes (suc n) le most =
    let size = length-take-le (suc n) bytes le in
    elim (spells (take (suc n) bytes)) [
      | yes w ↦
          yes (
            take (suc n) bytes,
            w.0,
            record {
              rest = drop (suc n) bytes;
              front = sym (take-append-drop (suc n) bytes);
              spells = w.1;
              longest = λ longer after other e p. omega (arith, most longer after other e p);
            },
          )
      | no m ↦
          longest bytes n (omega arith) (λ s after k e p. elim (cases_lt (length s) (suc n)) [
            | inl lt ↦ omega arith
            | inr ge ↦
                let all : suc n ≡ length s = omega (arith, most s after k e p) in
                let is : take (suc n) bytes ≡ s = ap (λ (i : ℕ). take i bytes) all ∙ (ap (take (length s)) e ∙ take-append_seam s after) in
                absurd (m (k, subst (λ (x : List ℕ). Spells x k) (sym is) p))
          ])
    ]

-- what is before the first `*/`
abbrev Block : List ℕ → Type 0
Block tail = (inside : List ℕ) × (rest : List ℕ) × (tail ≡ inside ++ (codes "*/" ++ rest)) × NoEnd inside

block : (tail : List ℕ) → Dec (Block tail)
block [] = no none
  where
    none : ¬ Block []
    none w = omega (arith, ap length w.2, length-append w.0 (codes "*/" ++ w.1))
block (c ∷ tail) = elim (fronts (codes "*/") (c ∷ tail)) [
  | yes f ↦ yes ([], f.0, f.1, λ sooner after e. omega (arith, ap length e, length-append sooner (codes "*/" ++ after)))
  | no n ↦
      elim (block tail) [
        | yes w ↦ yes (c ∷ w.0, w.1, ap (λ (l : List ℕ). c ∷ l) w.2, no_sooner w.0 w.1 n w.2 w.3)
        | no m ↦ no (λ w. no_later w.0 w.1 n m w.2 w.3)
      ]
]
  where
    no_sooner : (inside rest : List ℕ) → ¬ Front (codes "*/") (c ∷ tail) → tail ≡ inside ++ (codes "*/" ++ rest) → NoEnd inside → NoEnd (c ∷ inside)
    no_sooner inside rest n is first [] after e =
        let star = ap (λ (l : List ℕ). c ∷ l) (is ∙ sym (append_assoc inside (codes "*") (codes "/" ++ rest))) in
        n (after ++ (codes "/" ++ rest), star ∙ ap (λ (l : List ℕ). l ++ (codes "/" ++ rest)) e)
    no_sooner inside rest n is first (d ∷ sooner) after e = first sooner after (cc)

    no_later : (inside rest : List ℕ) → ¬ Front (codes "*/") (c ∷ tail) → ¬ Block tail → c ∷ tail ≡ inside ++ (codes "*/" ++ rest) → NoEnd inside → ⊥
    no_later [] rest n m e first = n (rest, e)
    no_later (d ∷ inside) rest n m e first = m (inside, rest, cc, later_no_end d inside first)

-- what is before the first line feed
abbrev Line : List ℕ → Type 0
Line tail = (inside : List ℕ) × (rest : List ℕ) × (tail ≡ inside ++ rest) × NoFeed inside × EndsLine rest

empty : NoFeed []
empty [] after e = cc
empty (d ∷ sooner) after e = cc

line : (tail : List ℕ) → Line tail
line [] = ([], [], refl, empty, at_end)
line (c ∷ tail) = elim (cases_eq c 10) [
  | inl e ↦ ([], c ∷ tail, refl, empty, rw e (at_feed tail))
  | inr n ↦ let w = line tail in (c ∷ w.0, w.1, ap (λ (l : List ℕ). c ∷ l) w.2, more w.0 n w.3, w.4)
]
  where
    more : (inside : List ℕ) → ¬ (c ≡ 10) → NoFeed inside → NoFeed (c ∷ inside)
    more inside n m [] after e = n (cc)
    more inside n m (d ∷ sooner) after e = m sooner after (cc)

-- what is at the front: of bytes that begin with `/*`, of those that begin with `//`, of others, and of all
module _ (bytes tail : List ℕ) where
  block_front : bytes ≡ codes "/*" ++ tail → (p : Piece) × AtFront bytes p
  block_front e = elim (block tail) [
    | yes w ↦ (_, front-comment _ w.1 (IsComment.block w.0 w.1 (e ∙ ap (λ (l : List ℕ). codes "/*" ++ l) w.2) w.3))
    | no n ↦ (
      Bad,
      front-bad 47 (42 ∷ tail) (record {
        bytes_are = e;
        no_space = refl;
        no_comment = λ s after. no_end n;
        no_token = λ s k l. subst BeginsComment (sym e) (BeginsComment.block tail);
      }),
    )
  ]
    where
      no_end : ¬ Block tail → {s after : List ℕ} → ¬ IsComment bytes s after
      no_end n (IsComment.block inside rest f first) = n (inside, rest, same_rest (codes "/*") tail (inside ++ (codes "*/" ++ rest)) (sym e ∙ f), first)
      no_end n (IsComment.line inside rest f first x) = apart 42 47 refl (ap (λ (l : List ℕ). get_or l 1 0) (sym e ∙ f))

  line_front : bytes ≡ codes "//" ++ tail → (p : Piece) × AtFront bytes p
  line_front e = let w = line tail in (_, front-comment _ w.1 (IsComment.line w.0 w.1 (e ∙ ap (λ (l : List ℕ). codes "//" ++ l) w.2) w.3 w.4))

token_front : (b : ℕ) (bytes : List ℕ) → is_space b ≡ false → ¬ BeginsComment (b ∷ bytes) → (p : Piece) × AtFront (b ∷ bytes) p
token_front b bytes h none = elim (longest (b ∷ bytes) (length (b ∷ bytes)) (omega arith) (all (b ∷ bytes))) [
  | yes w ↦ (One w.0 w.1 w.2.rest, front-one w.0 w.2.rest w.1 w.2.front none w.2)
  | no n ↦ (
    Bad,
    front-bad b bytes (record {
      bytes_are = refl;
      no_space = h;
      no_comment = λ s after c. none (comment_begins c);
      no_token = λ s k l. absurd (n (s, k, l));
    }),
  )
]
  where
    all : (l : List ℕ) → AtMost l (length l)
    all l s after k e p = omega (arith, ap length e, length-append s after)

front : (bytes : List ℕ) → (p : Piece) × AtFront bytes p
front [] = (Ended, front-ended refl)
front (b ∷ bytes) = elim (cases_Bool (is_space b)) [
  | inl h ↦ (Gap 1 bytes, front-space b bytes refl h)
  | inr h ↦
      elim (fronts (codes "/*") (b ∷ bytes)) [
        | yes f ↦ block_front (b ∷ bytes) f.0 f.1
        | no n ↦ elim (fronts (codes "//") (b ∷ bytes)) [ yes f ↦ line_front (b ∷ bytes) f.0 f.1 | no m ↦ token_front b bytes h (begins n m) ]
      ]
]
  where
    begins : {l : List ℕ} → ¬ Front (codes "/*") l → ¬ Front (codes "//") l → ¬ BeginsComment l
    begins n m (BeginsComment.block rest) = n (rest, refl)
    begins n m (BeginsComment.line rest) = m (rest, refl)

-- one step, and all of them
abbrev Comes : ℕ → List ℕ → Type 0
Comes at bytes = ((tokens : List Token) × Splits at bytes tokens) ⊎ ((bad : ℕ) × BadAt at bytes bad)

step : (at : ℕ) (bytes : List ℕ) (p : Piece) → AtFront bytes p → ((n : ℕ) (rest : List ℕ) → length rest < length bytes → Comes n rest) → Comes at bytes
step at bytes Ended f next = inl (token End at at ∷ [], go_on f refl)
step at bytes (Gap n rest) f next = elim (next (at + n) rest (let w = forward f in omega arith)) [
  | inl w ↦ inl (w.0, go_on f w.1)
  | inr w ↦ inr (w.0, go_bad f w.1)
]
step at bytes (One s k rest) f next = elim (next (at + length s) rest (let w = forward f in omega arith)) [
  | inl w ↦ inl (token k at (at + length s) ∷ w.0, go_on f (w.0, refl, w.1))
  | inr w ↦ inr (w.0, go_bad f w.1)
]
step at bytes Bad f next = inr (at, go_bad f refl)

comes : (n at : ℕ) (bytes : List ℕ) → length bytes < n → Comes at bytes
comes zero at bytes lt = absurd (omega arith)
comes (suc n) at bytes lt = let f = front bytes in step at bytes f.0 f.1 (λ next rest less. comes n next rest (omega arith))

pub some_split : (at : ℕ) (bytes : List ℕ) → ((tokens : List Token) × Splits at bytes tokens) ⊎ ((bad : ℕ) × BadAt at bytes bad)
some_split at bytes = comes (suc (length bytes)) at bytes (omega arith)
