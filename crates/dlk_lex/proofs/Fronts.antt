-- The longest token at the front.
use Rattle.std.proofs.Common.{◌≡◌, ℕ, suc, ◌+◌, ◌-◌, ◌<◌, ◌≤◌, Bool, true, false, cond, ◌&&◌, ◌==◌, List, [], ◌∷◌, ◌++◌, length, take, drop, get_or}
use Rattle.std.proofs.Common.{refl, sym, ap, subst, ◌∙◌, arith, length-append, codes}
use Rattle.std.proofs.Math.Seq.{take-append_seam}
use Rattle.std.proofs.lemmas.Bool.{and_parts}
use Rattle.std.proofs.lemmas.List.{take-append-drop, length-take-le}
use Rattle.std.proofs.lemmas.List.Sums.{prefix_len-le-length}
use Rattle.std.specs.List.{list_all, prefix_len}
use Rattle.dlk_tree.specs.Names.{is_letter, is_name_byte, is_word}
use Rattle.dlk_grammar.specs.declared.token.TokenKind.{TokenKind}
use Rattle.dlk_grammar.specs.declared.token.TokenKind.TheVariants as kind
use Rattle.dlk_grammar.specs.declared.token.Mark.{Mark}
use Rattle.dlk_grammar.specs.Tokens.{is_digit, spelling, Spells, dot, hole, a_mark}
use Rattle.dlk_grammar.proofs.Spelled.{word_here, dot_here, hole_here, mark_here}
use Rattle.dlk_lex.specs.Fronts.{IsFrontMark, StandsInFront}

pub prefix_all : {X : Type 0} (p : X → Bool) (bs : List X) → list_all p (take (prefix_len p bs) bs) ≡ true
prefix_all p [] = refl
prefix_all p (b ∷ bs) = go (p b) refl (prefix_all p bs)
  where
    go : (c : Bool) → p b ≡ c → list_all p (take (prefix_len p bs) bs) ≡ true → list_all p (take (cond c (1 + prefix_len p bs) 0) (b ∷ bs)) ≡ true
    go true e h = let n : 1 + prefix_len p bs ≡ suc (prefix_len p bs) = omega arith in rw n (rw (e, h) refl)
    go false e h = refl

pub prefix_most : (p : ℕ → Bool) (l r : List ℕ) → list_all p l ≡ true → length l ≤ prefix_len p (l ++ r)
prefix_most p [] r h = omega arith
prefix_most p (b ∷ l) r h = go (p b) h (prefix_most p l r)
  where
    go : (c : Bool) → (c && list_all p l) ≡ true → (list_all p l ≡ true → length l ≤ prefix_len p (l ++ r))
        → suc (length l) ≤ cond c (1 + prefix_len p (l ++ r)) 0
    go true e h = omega (arith, h e)
    go false e h = absurd cc

-- a token is the longest where none at the front is longer
pub stands : (bytes : List ℕ) (n : ℕ) (k : TokenKind) → n ≤ length bytes → Spells (take n bytes) k
    → ((s after : List ℕ) (other : TokenKind) → bytes ≡ s ++ after → Spells s other → length s ≤ n) → StandsInFront bytes (k, n)
stands bytes n k le spells most = record {
  within = le;
  is = record {
    rest = drop n bytes;
    front = sym (take-append-drop n bytes);
    spells = spells;
    longest = λ longer after other e p. let short = most longer after other e p in omega (arith, length-take-le n bytes le);
  };
}

letter_is : (b : ℕ) → is_letter b ≡ true → is_name_byte b ≡ true
letter_is b h = rw h refl

word_bytes : (s : List ℕ) → is_word s ≡ true → list_all is_name_byte s ≡ true
word_bytes [] h = refl
word_bytes (b ∷ bs) h = let w = and_parts (is_letter b) (list_all is_name_byte bs) h in rw (letter_is b w.0, w.1) refl

pub run_is_word : (bytes : List ℕ) → is_letter (get_or bytes 0 0) ≡ true → is_word (take (prefix_len is_name_byte bytes) bytes) ≡ true
run_is_word [] h = absurd cc
run_is_word (b ∷ bs) h =
    let first : is_letter b ≡ true = h in
    let n : 1 + prefix_len is_name_byte bs ≡ suc (prefix_len is_name_byte bs) = omega arith in
    rw (letter_is b h, n) (rw (first, prefix_all is_name_byte bs) refl)

pub word_front : (bytes : List ℕ) (k : TokenKind) → is_letter (get_or bytes 0 0) ≡ true → Spells (take (prefix_len is_name_byte bytes) bytes) k
    → StandsInFront bytes (k, prefix_len is_name_byte bytes)
word_front bytes k h spells = stands bytes (prefix_len is_name_byte bytes) k (prefix_len-le-length is_name_byte bytes) spells (λ s after other e p.
    rw e (prefix_most is_name_byte s after (word_bytes s (word_here bytes s after e p h))))

-- three bytes, point, underscore and digit, are a dot
pub dot_front : (bytes : List ℕ) → 3 ≤ length bytes → get_or bytes 0 0 ≡ 46 → get_or bytes 1 0 ≡ 95 → 48 ≤ get_or bytes 2 0 → get_or bytes 2 0 ≤ 55
    → StandsInFront bytes (kind.Dot (get_or bytes 2 0 - 48), 3)
dot_front bytes le e f low high = stands bytes 3 (kind.Dot (get_or bytes 2 0 - 48)) le (go bytes le e f low high) (λ s after other e' p.
    let w = dot_here bytes s after e' p e in omega (arith, ap length w.2))
  where
    go : (l : List ℕ) → 3 ≤ length l → get_or l 0 0 ≡ 46 → get_or l 1 0 ≡ 95 → 48 ≤ get_or l 2 0 → get_or l 2 0 ≤ 55
        → Spells (take 3 l) (kind.Dot (get_or l 2 0 - 48))
    go [] le e f low high = absurd (omega arith)
    go (a ∷ []) le e f low high = absurd (omega arith)
    go (a ∷ b ∷ []) le e f low high = absurd (omega arith)
    go (a ∷ b ∷ d ∷ l) le e f low high =
        let back : 48 + (d - 48) ≡ d = omega arith in
        let small : d - 48 < 8 = omega arith in
        rw (e, f) (subst (λ (x : ℕ). Spells (codes "._" ++ x ∷ []) (kind.Dot (d - 48))) back (dot (d - 48) small))

pub hole_front : (bytes : List ℕ) → get_or bytes 0 0 ≡ 95 → StandsInFront bytes (kind.Hole, 1)
hole_front [] e = absurd (omega arith)
hole_front (b ∷ bs) e = stands (b ∷ bs) 1 kind.Hole (omega arith) (rw e hole) (λ s after other f p.
    omega (arith, ap length (hole_here (b ∷ bs) s after f p e)))

module _ (bytes : List ℕ) (no_letter : is_letter (get_or bytes 0 0) ≡ false) (no_digit : is_digit (get_or bytes 0 0) ≡ false)
    (no_point : (get_or bytes 0 0 == 46) ≡ false) (no_under : (get_or bytes 0 0 == 95) ≡ false) where
  pub mark_front : (m : Mark) → IsFrontMark bytes m → StandsInFront bytes (kind.Mark m, length (spelling m))
  mark_front m f =
      let le : length (spelling m) ≤ length bytes = omega (arith, ap length f.front, length-append (spelling m) f.rest) in
      let same : take (length (spelling m)) bytes ≡ spelling m = ap (take (length (spelling m))) f.front ∙ take-append_seam (spelling m) f.rest in
      stands bytes (length (spelling m)) (kind.Mark m) le (subst (λ (l : List ℕ). Spells l (kind.Mark m)) (sym same) (a_mark m)) (λ s after other e p.
      let w = mark_here bytes s after e p no_letter no_digit no_point no_under in
      let most = f.longest w.0 after (e ∙ ap (λ (l : List ℕ). l ++ after) w.1) in
      omega (arith, ap length w.1))
