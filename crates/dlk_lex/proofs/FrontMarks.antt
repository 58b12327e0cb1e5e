-- The first of the marks that begin with a byte which is at the front is the longest there.
use Rattle.std.proofs.Common.{◌≡◌, ℕ, ◌<◌, ◌≤◌, Bool, true, false, ◌&&◌, nat_le, eqb, List, [], ◌∷◌, ◌++◌, length, take, drop, get_or, map, refl, sym}
use Rattle.std.proofs.Common.{ap, subst, ◌∙◌, ◌==◌, inl, inr, arith, lit<}
use Rattle.std.specs.List.{All, AllPairs, Contains, filter, list_all, position_or_len, starts_with}
use Rattle.std.specs.Str.{bytes_eq}
use Rattle.std.proofs.lemmas.Bool.{and_parts, leb-true, cases_lt, cond_both, eqb-true}
use Rattle.std.proofs.lemmas.List.{get_or-map as get_or-map_any, get_or-take, length-map, length-take}
use Rattle.std.proofs.Math.ListN.{get_or-map}
use Rattle.std.proofs.lemmas.List.Kept.{AllPairs-cons, AllPairs-filter}
use Rattle.std.proofs.lemmas.List.Elements.{All-cons}
use Rattle.std.proofs.lemmas.List.Sums.{AllPass-from_list_all}
use Rattle.dlk_grammar.specs.declared.token.Mark.{Mark}
use Rattle.dlk_grammar.specs.declared.token.Mark.TheVariants as mark
use Rattle.dlk_grammar.specs.Marks.{marks}
use Rattle.dlk_grammar.specs.Tokens.{spelling}
use Rattle.dlk_lex.proofs.Texts.{at_front, not_at_front}
use Rattle.dlk_lex.specs.Fronts.{marks_from, IsFrontMark, HasNoMark}

-- no mark is longer than one before it
abbrev IsAsLong : Mark → Mark → Type 0
IsAsLong m n = length (spelling n) ≤ length (spelling m)

abbrev falls : List Mark → Bool
falls [] = true
falls (m ∷ ms) = list_all (λ n. nat_le (length (spelling n)) (length (spelling m))) ms && falls ms

falling : (ms : List Mark) → falls ms ≡ true → AllPairs IsAsLong ms
falling [] h = λ i j d lt le. absurd (omega arith)
falling (m ∷ ms) h =
    let p = λ (n : Mark). nat_le (length (spelling n)) (length (spelling m)) in
    let w = and_parts (list_all p ms) (falls ms) h in
    let each = AllPass-from_list_all p ms w.0 in
    AllPairs-cons IsAsLong m ms (λ i d lt. leb-true (length (spelling (get_or ms i d))) (length (spelling m)) (each i d lt)) (falling ms w.1)

-- a mark is among those that begin with its first byte
own : (m : Mark) → Contains (marks_from (get_or (spelling m) 0 0)) m
own mark.Forall = (position_or_len (λ n. bytes_eq (spelling mark.Forall) (spelling n)) (marks_from 92), lit< tt, refl)
own m = (position_or_len (λ n. bytes_eq (spelling m) (spelling n)) (marks_from (get_or (spelling m) 0 0)), lit< tt, refl)

first_byte : (m : Mark) (after : List ℕ) → get_or (spelling m ++ after) 0 0 ≡ get_or (spelling m) 0 0
first_byte mark.Forall after = refl
first_byte m after = refl

-- what is kept passes the test
all_pass : {X : Type 0} (p : X → Bool) (xs : List X) → All (λ x. p x ≡ true) (filter p xs)
all_pass p [] = λ i d lt. absurd (omega (arith, lt))
all_pass p (x ∷ xs) =
    let rest = all_pass p xs in
    cond_both (p x) (x ∷ filter p xs) (filter p xs) (All (λ x. p x ≡ true)) (λ here. All-cons (λ x. p x ≡ true) x (filter p xs) here rest) (λ _. rest)

some : {X : Type 0} (xs : List X) → 0 < length xs → X
some [] lt = absurd (omega arith)
some (x ∷ xs) lt = x

-- rows are the marks that begin as the bytes do, with their texts
module _ {X : Type 0} (text : X → List ℕ) (mark_of : X → Mark) (bytes : List ℕ) (rows : List X)
    (marks_are : map mark_of rows ≡ marks_from (get_or bytes 0 0)) (texts_are : map text rows ≡ map spelling (marks_from (get_or bytes 0 0))) where
  size : length (map mark_of rows) ≡ length rows
  size = length-map rows mark_of

  spells : (i : ℕ) (d : X) → i < length rows → text (get_or rows i d) ≡ spelling (mark_of (get_or rows i d))
  spells i d lt =
      let both : map text rows ≡ map spelling (map mark_of rows) = texts_are ∙ ap (map spelling) (sym marks_are) in
      let row = get_or-map mark_of rows i d in
      sym (get_or-map_any text rows i d [] lt) ∙ ap (λ (l : List (List ℕ)). get_or l i []) both
      ∙ get_or-map_any spelling (map mark_of rows) i (mark_of d) [] (omega (arith, size)) ∙ ap spelling row

  -- each begins as the bytes do
  pub begins : (i : ℕ) (d : X) → i < length rows → get_or (text (get_or rows i d)) 0 0 ≡ get_or bytes 0 0
  begins i d lt =
      let passes = subst (All (λ m. (get_or (spelling m) 0 0 == get_or bytes 0 0) ≡ true)) (sym marks_are)
      (all_pass (λ m. get_or (spelling m) 0 0 == get_or bytes 0 0) marks) in
      let here = passes i (mark_of d) (omega (arith, lt, size)) in
      ap (λ (t : List ℕ). get_or t 0 0) (spells i d lt) ∙ ap (λ m. get_or (spelling m) 0 0) (sym (get_or-map mark_of rows i d)) ∙ eqb-true _ _ here

  -- where a mark at the front stands among them
  record Row (m : Mark) (d : X) : Type 0 where
    at : ℕ
    within : at < length rows
    is : mark_of (get_or rows at d) ≡ m

  own_row : (m : Mark) (after : List ℕ) → bytes ≡ spelling m ++ after → Contains (map mark_of rows) m
  own_row m after e =
      let first : get_or (spelling m) 0 0 ≡ get_or bytes 0 0 = sym (ap (λ (l : List ℕ). get_or l 0 0) e ∙ first_byte m after) in
      subst (λ (ms : List Mark). Contains ms m) (ap marks_from first ∙ sym marks_are) (own m)

  row : (m : Mark) (after : List ℕ) (d : X) → bytes ≡ spelling m ++ after → Row m d
  row m after d e =
      let w = own_row m after e in
      let within : w.0 < length rows = omega (arith, w.1, size) in
      record { at = w.0; within = within; is = sym (get_or-map_any mark_of rows w.0 d m within) ∙ w.2 }

  abbrev NoneBefore : ℕ → Type 0
  NoneBefore i = All (λ x. starts_with eqb bytes (text x) ≡ false) (take i rows)

  not_before : (i : ℕ) (m : Mark) (after : List ℕ) (d : X) (r : Row m d) → NoneBefore i → bytes ≡ spelling m ++ after → i ≤ r.at
  not_before i m after d r before e = elim (cases_lt r.at i) [
    | inr le ↦ le
    | inl lt ↦
        let within : r.at < length (take i rows) = omega (arith, r.within, length-take i rows) in
        let missing = rw (get_or-take i rows r.at d lt) at (before r.at d within) in
        let is : text (get_or rows r.at d) ≡ spelling m = spells r.at d r.within ∙ ap spelling r.is in
        absurd (not_at_front bytes (text (get_or rows r.at d)) after missing (e ∙ ap (λ (l : List ℕ). l ++ after) (sym is)))
  ]

  no_longer : (i j : ℕ) (d : X) → i ≤ j → j < length rows → length (spelling (mark_of (get_or rows j d))) ≤ length (spelling (mark_of (get_or rows i d)))
  no_longer i j d le lt =
      let pairs =
      subst (AllPairs IsAsLong) (sym marks_are) (AllPairs-filter IsAsLong (λ n. get_or (spelling n) 0 0 == get_or bytes 0 0) marks (falling marks refl)) in
      elim (cases_lt i j) [
        | inl before ↦
            let le = pairs i j (mark_of d) before (omega (arith, size)) in
            let same = λ (n : ℕ). ap (λ (m : Mark). length (spelling m)) (get_or-map mark_of rows n d) in
            omega (arith, le, same i, same j)
        | inr after ↦ let e : i ≡ j = omega arith in omega (arith, ap (λ (n : ℕ). length (spelling (mark_of (get_or rows n d)))) e)
      ]

  pub mark_found : (i : ℕ) (d : X) → i < length rows → NoneBefore i → starts_with eqb bytes (text (get_or rows i d)) ≡ true
      → IsFrontMark bytes (mark_of (get_or rows i d)) × (length (text (get_or rows i d)) ≡ length (spelling (mark_of (get_or rows i d))))
  mark_found i d lt before here =
      let is = spells i d lt in (
        record {
          rest = drop (length (text (get_or rows i d))) bytes;
          front = at_front bytes (text (get_or rows i d)) here ∙ ap (λ (l : List ℕ). l ++ drop (length (text (get_or rows i d))) bytes) is;
          longest = λ other after e.
              let r = row other after d e in
              let le = no_longer i r.at d (not_before i other after d r before e) r.within in
              omega (arith, le, ap (λ (m : Mark). length (spelling m)) r.is);
        },
        ap (λ (l : List ℕ). length l) is,
      )

  pub mark_missing : (i : ℕ) → length rows ≤ i → NoneBefore i → HasNoMark bytes
  mark_missing i le before = λ m after e.
      let w = own_row m after e in
      let d = some rows (omega (arith, w.1, size)) in
      let late = not_before i m after d (row m after d e) before e in
      let within = (row m after d e).within in
      omega arith
