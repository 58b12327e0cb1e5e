-- Neighbours that stay apart.
use Rattle.std.proofs.Common.{◌≡◌, ◌≢◌, ℕ, ◌+◌, ◌<◌, Bool, true, false, ◌||◌, ◌&&◌, ◌==◌, not, List, [], ◌∷◌, ◌++◌, length, map, codes, refl, sym, ap}
use Rattle.std.proofs.Common.{subst, ◌∙◌, append_assoc, eqb-true, arith}
use Rattle.std.specs.Fmt.{decimal}
use Rattle.std.specs.List.{list_all}
use Rattle.std.proofs.lemmas.Bool.{and_parts}
use Rattle.std.proofs.lemmas.Fmt.{decimal_digit}
use Rattle.dlk_tree.specs.declared.op.Num.{Num}
use Rattle.dlk_tree.specs.Names.{is_letter, is_name_byte, is_word, is_name}
use Rattle.dlk_tree.specs.Table.{is_num}
use Rattle.dlk_grammar.specs.declared.token.Mark.{Mark}
use Rattle.dlk_grammar.specs.declared.token.Mark.TheVariants as mark
use Rattle.dlk_grammar.specs.declared.token.Token.{Token}
use Rattle.dlk_grammar.specs.declared.token.TokenKind.{TokenKind}
use Rattle.dlk_grammar.specs.declared.token.TokenKind.TheVariants as kind
use Rattle.dlk_grammar.specs.Tokens.{is_digit, are_digits, spelling, Spells, word, true_word, false_word, integer, decimal as decimal_point, dot}
use Rattle.dlk_grammar.specs.Splits.{Longest, BeginsComment, block, line, Splits, ended, space as a_space, one as a_token, token}
use Rattle.dlk_grammar.specs.Shown.{Piece, one, space, mark as the_mark, word as the_word, token_text, literal, spell}
use Rattle.dlk_readback.proofs.Numbers.{Literal, whole, parts, literal_is}
use Rattle.dlk_readback.proofs.Fronts.{stops, goes_on, clashes, all_marks, word_longest, digits_longest, point_longest, dot_longest, hole_longest, mark_longest}

-- the kinds of a text's tokens
abbrev pub kinds : List Piece → List TokenKind
kinds [] = []
kinds (one k ∷ ps) = k ∷ kinds ps
kinds (space ∷ ps) = kinds ps

-- the bytes of a text are its tokens, wherever it begins
pub record TokensAt (at : ℕ) (p : List Piece) : Type 0 where
  pub tokens : List Token
  pub splits : Splits at (spell p) tokens
  pub kinds_are : map (λ t. t.kind) tokens ≡ kinds p ++ kind.End ∷ []

pub record Fine (p : List Piece) : Type 0 where
  pub at : (n : ℕ) → TokensAt n p

-- a comment begins with a slash, and with a slash or a star behind it
abbrev in_comment : List ℕ → Bool
in_comment [] = false
in_comment (b ∷ l) = b == 42 || b == 47

abbrev pub is_comment : List ℕ → Bool
is_comment [] = false
is_comment (b ∷ l) = b == 47 && in_comment l

comment_is : {bytes : List ℕ} → BeginsComment bytes → is_comment bytes ≡ true
comment_is (block rest) = refl
comment_is (line rest) = refl

token_fine : (k : TokenKind) (p : List Piece) → Longest (token_text k ++ spell p) (token_text k) k → is_comment (token_text k ++ spell p) ≡ false → Fine p →
    Fine (one k ∷ p)
token_fine k p l c f = record {
  at = λ n.
      let text = token_text k in
      let d = f.at (n + length text) in
      record {
        tokens = token k n (n + length text) ∷ d.tokens;
        splits = a_token text (spell p) k refl (λ b. let w : false ≡ true = sym c ∙ comment_is b in absurd cc) l d.splits;
        kinds_are = ap (λ (ks : List TokenKind). k ∷ ks) d.kinds_are;
      };
}

pub end_fine : Fine []
end_fine = record { at = λ n. record { tokens = token kind.End n n ∷ []; splits = ended refl; kinds_are = refl } }

pub space_fine : (p : List Piece) → Fine p → Fine (space ∷ p)
space_fine p f = record {
  at = λ n. let d = f.at (n + 1) in
      record { tokens = d.tokens; splits = a_space 32 (spell p) refl refl d.splits; kinds_are = d.kinds_are };
}

-- the bytes with which a text may begin, but letters, digits and `-`: ! ( ? [ \ { . _ <
abbrev opens : ℕ → Bool
opens b = (b == 33) || (b == 40) || (b == 63) || (b == 91) || (b == 92) || (b == 123) || (b == 46) || (b == 95) || (b == 60)

-- the bytes begin as a text does
pub data Begins : List ℕ → Type 0 where
  by_letter : {bytes : List ℕ} (b : ℕ) → is_letter b ≡ true → Begins (b ∷ bytes)
  by_digit : {bytes : List ℕ} (b : ℕ) → is_digit b ≡ true → Begins (b ∷ bytes)
  by_mark : {bytes : List ℕ} (b : ℕ) → opens b ≡ true → Begins (b ∷ bytes)
  by_minus : {bytes : List ℕ} → Begins bytes → Begins (45 ∷ bytes)

-- a byte that makes no mark longer, but for `<`, and no comment
record Plain (b : ℕ) : Type 0 where
  pub no_close : (41 == b) ≡ false
  pub no_star : (b == 42) ≡ false
  pub no_plus : (43 == b) ≡ false
  pub no_slash : (b == 47) ≡ false
  pub no_equal : (61 == b) ≡ false
  pub no_greater : (62 == b) ≡ false
  pub no_bar : (124 == b) ≡ false
  pub no_brace : (125 == b) ≡ false

differ : (p : ℕ → Bool) (c b : ℕ) → p b ≡ true → p c ≡ false → (c == b) ≡ false
differ p c b h g = go (c == b) refl
  where
    go : (x : Bool) → (c == b) ≡ x → x ≡ false
    go true e = let w : true ≡ false = sym h ∙ ap p (sym (eqb-true c b e)) ∙ g in absurd cc
    go false e = refl

differ' : (p : ℕ → Bool) (c b : ℕ) → p b ≡ true → p c ≡ false → (b == c) ≡ false
differ' p c b h g = go (b == c) refl
  where
    go : (x : Bool) → (b == c) ≡ x → x ≡ false
    go true e = let w : true ≡ false = sym h ∙ ap p (eqb-true b c e) ∙ g in absurd cc
    go false e = refl

-- the bytes that aren't plain fail the test
record Leaves (p : ℕ → Bool) : Type 0 where
  pub close : p 41 ≡ false
  pub star : p 42 ≡ false
  pub plus : p 43 ≡ false
  pub slash : p 47 ≡ false
  pub equal : p 61 ≡ false
  pub greater : p 62 ≡ false
  pub bar : p 124 ≡ false
  pub brace : p 125 ≡ false

plain : (p : ℕ → Bool) (b : ℕ) → p b ≡ true → Leaves p → Plain b
plain p b h l = record {
  no_close = differ p 41 b h l.close;
  no_star = differ' p 42 b h l.star;
  no_plus = differ p 43 b h l.plus;
  no_slash = differ' p 47 b h l.slash;
  no_equal = differ p 61 b h l.equal;
  no_greater = differ p 62 b h l.greater;
  no_bar = differ p 124 b h l.bar;
  no_brace = differ p 125 b h l.brace;
}

record FirstPlain (bytes : List ℕ) : Type 0 where
  pub byte : ℕ
  pub rest : List ℕ
  pub bytes_are : bytes ≡ byte ∷ rest
  pub is : Plain byte

first_plain : {bytes : List ℕ} → Begins bytes → FirstPlain bytes
first_plain (by_letter {bytes = r} b h) =
    record {
      byte = b;
      rest = r;
      bytes_are = refl;
      is =
          plain is_letter b h (record { close = refl; star = refl; plus = refl; slash = refl; equal = refl; greater = refl; bar = refl; brace = refl });
    }
first_plain (by_digit {bytes = r} b h) =
    record {
      byte = b;
      rest = r;
      bytes_are = refl;
      is =
          plain is_digit b h (record { close = refl; star = refl; plus = refl; slash = refl; equal = refl; greater = refl; bar = refl; brace = refl });
    }
first_plain (by_mark {bytes = r} b h) = record {
  byte = b;
  rest = r;
  bytes_are = refl;
  is =
      plain opens b h (record { close = refl; star = refl; plus = refl; slash = refl; equal = refl; greater = refl; bar = refl; brace = refl });
}
first_plain (by_minus {bytes = r} d) = record {
  byte = 45;
  rest = r;
  bytes_are = refl;
  is =
      record { no_close = refl; no_star = refl; no_plus = refl; no_slash = refl; no_equal = refl; no_greater = refl; no_bar = refl; no_brace = refl };
}

-- no mark is longer than `<` before a text
less_free : {bytes : List ℕ} → Begins bytes → clashes all_marks (60 ∷ bytes) 1 ≡ false
less_free (by_letter b h) = rw (differ is_letter 45 b h refl, differ is_letter 61 b h refl) refl
less_free (by_digit b h) = rw (differ is_digit 45 b h refl, differ is_digit 61 b h refl) refl
less_free (by_mark b h) = rw (differ opens 45 b h refl, differ opens 61 b h refl) refl
less_free (by_minus {bytes = r} d) = let w = first_plain d in rw (w.bytes_are, w.is.no_greater) refl

mark_fine : (m : Mark) (p : List Piece) → clashes all_marks (spelling m ++ spell p) (length (spelling m)) ≡ false →
    is_comment (spelling m ++ spell p) ≡ false → Fine p → Fine (the_mark m ∷ p)
mark_fine m p free c f = token_fine (kind.Mark m) p (mark_longest m (spell p) free) c f

-- the marks with which no longer mark begins
abbrev pub is_alone : Mark → Bool
is_alone mark.Forall = true
is_alone mark.Exists = true
is_alone mark.RoundBars = true
is_alone mark.BarRound = true
is_alone mark.BraceBar = true
is_alone mark.BarBrace = true
is_alone mark.CloseRound = true
is_alone mark.OpenSquare = true
is_alone mark.CloseSquare = true
is_alone mark.CloseBrace = true
is_alone mark.Equiv = true
is_alone mark.Imply = true
is_alone mark.And = true
is_alone mark.Turnstile = true
is_alone mark.NotEqual = true
is_alone mark.AtLeast = true
is_alone mark.AtMost = true
is_alone mark.Star = true
is_alone mark.Caret = true
is_alone mark.Prime = true
is_alone mark.Gets = true
is_alone mark.Choice = true
is_alone mark.Query = true
is_alone mark.Semicolon = true
is_alone mark.Comma = true
is_alone mark.Becomes = true
is_alone _ = false

pub alone_fine : (m : Mark) (p : List Piece) → is_alone m ≡ true → Fine p → Fine (the_mark m ∷ p)
alone_fine mark.Forall p h f = mark_fine mark.Forall p refl refl f
alone_fine mark.Exists p h f = mark_fine mark.Exists p refl refl f
alone_fine mark.RoundBars p h f = mark_fine mark.RoundBars p refl refl f
alone_fine mark.BarRound p h f = mark_fine mark.BarRound p refl refl f
alone_fine mark.BraceBar p h f = mark_fine mark.BraceBar p refl refl f
alone_fine mark.BarBrace p h f = mark_fine mark.BarBrace p refl refl f
alone_fine mark.CloseRound p h f = mark_fine mark.CloseRound p refl refl f
alone_fine mark.OpenSquare p h f = mark_fine mark.OpenSquare p refl refl f
alone_fine mark.CloseSquare p h f = mark_fine mark.CloseSquare p refl refl f
alone_fine mark.CloseBrace p h f = mark_fine mark.CloseBrace p refl refl f
alone_fine mark.Equiv p h f = mark_fine mark.Equiv p refl refl f
alone_fine mark.Imply p h f = mark_fine mark.Imply p refl refl f
alone_fine mark.And p h f = mark_fine mark.And p refl refl f
alone_fine mark.Turnstile p h f = mark_fine mark.Turnstile p refl refl f
alone_fine mark.NotEqual p h f = mark_fine mark.NotEqual p refl refl f
alone_fine mark.AtLeast p h f = mark_fine mark.AtLeast p refl refl f
alone_fine mark.AtMost p h f = mark_fine mark.AtMost p refl refl f
alone_fine mark.Star p h f = mark_fine mark.Star p refl refl f
alone_fine mark.Caret p h f = mark_fine mark.Caret p refl refl f
alone_fine mark.Prime p h f = mark_fine mark.Prime p refl refl f
alone_fine mark.Gets p h f = mark_fine mark.Gets p refl refl f
alone_fine mark.Choice p h f = mark_fine mark.Choice p refl refl f
alone_fine mark.Query p h f = mark_fine mark.Query p refl refl f
alone_fine mark.Semicolon p h f = mark_fine mark.Semicolon p refl refl f
alone_fine mark.Comma p h f = mark_fine mark.Comma p refl refl f
alone_fine mark.Becomes p h f = mark_fine mark.Becomes p refl refl f
alone_fine _ p h f = absurd cc

-- the other marks of canonical text stand before a text
abbrev pub is_before : Mark → Bool
is_before mark.OpenRound = true
is_before mark.OpenBrace = true
is_before mark.Or = true
is_before mark.Not = true
is_before mark.Equal = true
is_before mark.Greater = true
is_before mark.Less = true
is_before mark.Plus = true
is_before mark.Minus = true
is_before mark.Slash = true
is_before _ = false

-- no longer mark is at the front where a text follows
plain_free : (m : Mark) (b : ℕ) (rest : List ℕ) → is_before m ≡ true → m ≢ mark.Less → Plain b →
    clashes all_marks (spelling m ++ b ∷ rest) (length (spelling m)) ≡ false
plain_free mark.OpenRound b rest h n k = rw k.no_bar refl
plain_free mark.OpenBrace b rest h n k = rw k.no_bar refl
plain_free mark.Or b rest h n k = rw (k.no_close, k.no_brace) refl
plain_free mark.Not b rest h n k = rw k.no_equal refl
plain_free mark.Equal b rest h n k = rw k.no_equal refl
plain_free mark.Greater b rest h n k = rw k.no_equal refl
plain_free mark.Less b rest h n k = absurd (n refl)
plain_free mark.Plus b rest h n k = rw k.no_plus refl
plain_free mark.Minus b rest h n k = rw k.no_greater refl
plain_free mark.Slash b rest h n k = refl
plain_free _ b rest h n k = absurd cc

text_free : (m : Mark) {bytes : List ℕ} → is_before m ≡ true → m ≢ mark.Less → Begins bytes →
    clashes all_marks (spelling m ++ bytes) (length (spelling m)) ≡ false
text_free m h n d = let w = first_plain d in
    subst (λ (l : List ℕ). clashes all_marks (spelling m ++ l) (length (spelling m)) ≡ false) (sym w.bytes_are) (plain_free m w.byte w.rest h n w.is)

-- a slash before a text begins no comment
slash_free : {bytes : List ℕ} → Begins bytes → is_comment (47 ∷ bytes) ≡ false
slash_free d = let w = first_plain d in rw (w.bytes_are, w.is.no_star, w.is.no_slash) refl

pub before_fine : (m : Mark) (p : List Piece) → is_before m ≡ true → Begins (spell p) → Fine p → Fine (the_mark m ∷ p)
before_fine mark.OpenRound p h d f = mark_fine mark.OpenRound p (text_free mark.OpenRound refl (λ e. absurd cc) d) refl f
before_fine mark.OpenBrace p h d f = mark_fine mark.OpenBrace p (text_free mark.OpenBrace refl (λ e. absurd cc) d) refl f
before_fine mark.Or p h d f = mark_fine mark.Or p (text_free mark.Or refl (λ e. absurd cc) d) refl f
before_fine mark.Not p h d f = mark_fine mark.Not p (text_free mark.Not refl (λ e. absurd cc) d) refl f
before_fine mark.Equal p h d f = mark_fine mark.Equal p (text_free mark.Equal refl (λ e. absurd cc) d) refl f
before_fine mark.Greater p h d f = mark_fine mark.Greater p (text_free mark.Greater refl (λ e. absurd cc) d) refl f
before_fine mark.Less p h d f = mark_fine mark.Less p (less_free d) refl f
before_fine mark.Plus p h d f = mark_fine mark.Plus p (text_free mark.Plus refl (λ e. absurd cc) d) refl f
before_fine mark.Minus p h d f = mark_fine mark.Minus p (text_free mark.Minus refl (λ e. absurd cc) d) refl f
before_fine mark.Slash p h d f = mark_fine mark.Slash p (text_free mark.Slash refl (λ e. absurd cc) d) (slash_free d) f
before_fine _ p h d f = absurd cc

-- `()`
pub empty_fine : (p : List Piece) → Fine p → Fine (the_mark mark.OpenRound ∷ the_mark mark.CloseRound ∷ p)
empty_fine p f = mark_fine mark.OpenRound (the_mark mark.CloseRound ∷ p) refl refl (alone_fine mark.CloseRound p refl f)

-- `(|` before a name
pub bar_fine : (p : List Piece) → Begins (spell p) → Fine p → Fine (the_mark mark.RoundBar ∷ p)
bar_fine p d f = mark_fine mark.RoundBar p (let w = first_plain d in rw (w.bytes_are, w.is.no_bar) refl) refl f

-- no name, no number and no point follows
abbrev pub joins : ℕ → Bool
joins b = is_name_byte b || b == 46

abbrev pub Ends : List Piece → Type 0
Ends p = stops joins (spell p) ≡ true

no_name : (bytes : List ℕ) → stops joins bytes ≡ true → stops is_name_byte bytes ≡ true
no_name [] s = refl
no_name (b ∷ bytes) s = go (is_name_byte b) (b == 46) s
  where
    go : (x y : Bool) → not (x || y) ≡ true → not x ≡ true
    go true y s = absurd cc
    go false y s = refl

no_digit : (bytes : List ℕ) → stops joins bytes ≡ true → stops goes_on bytes ≡ true
no_digit [] s = refl
no_digit (b ∷ bytes) s = go (is_letter b) (is_digit b) (b == 95) (b == 46) s
  where
    go : (x y z w : Bool) → not (((x || y) || z) || w) ≡ true → not (y || w) ≡ true
    go true y z w s = absurd cc
    go false true z w s = absurd cc
    go false false true w s = absurd cc
    go false false false w s = s

word_alone : (x rest : List ℕ) → is_word x ≡ true → is_comment (x ++ rest) ≡ false
word_alone [] rest h = absurd cc
word_alone (b ∷ bs) rest h = rw (differ' is_letter 47 b (and_parts (is_letter b) (list_all is_name_byte bs) h).0 refl) refl

digits_alone : (x rest : List ℕ) → are_digits x ≡ true → is_comment (x ++ rest) ≡ false
digits_alone [] rest h = absurd cc
digits_alone (b ∷ bs) rest h = rw (differ' is_digit 47 b (and_parts (is_digit b) (list_all is_digit bs) h).0 refl) refl

name_word : (x : List ℕ) → is_name x ≡ true → is_word x ≡ true
name_word x h = (and_parts (is_word x) _ (and_parts (is_word x && _) _ h).0).0

pub name_fine : (x : List ℕ) (p : List Piece) → is_name x ≡ true → Ends p → Fine p → Fine (the_word x ∷ p)
name_fine x p h s f = token_fine (kind.Word x) p (word_longest x (spell p) (kind.Word x) (name_word x h) (word x h) (no_name (spell p) s))
    (word_alone x (spell p) (name_word x h)) f

pub true_fine : (p : List Piece) → Ends p → Fine p → Fine (one kind.True ∷ p)
true_fine p s f = token_fine kind.True p (word_longest (codes "true") (spell p) kind.True refl true_word (no_name (spell p) s)) refl f

pub false_fine : (p : List Piece) → Ends p → Fine p → Fine (one kind.False ∷ p)
false_fine p s f = token_fine kind.False p (word_longest (codes "false") (spell p) kind.False refl false_word (no_name (spell p) s)) refl f

pub hole_fine : (p : List Piece) → Fine p → Fine (one kind.Hole ∷ p)
hole_fine p f = token_fine kind.Hole p (hole_longest (spell p)) refl f

-- the eight dots
abbrev IsDotText : ℕ → Type 0
IsDotText n = codes "._" ++ decimal n ≡ 46 ∷ 95 ∷ (48 + n) ∷ []

eight_dots : (n : ℕ) → n < 8 → IsDotText n
eight_dots n h = ap (λ (l : List ℕ). codes "._" ++ l) (decimal_digit n (omega arith))

pub dot_fine : (n : ℕ) (p : List Piece) → n < 8 → Fine p → Fine (one (kind.Dot n) ∷ p)
dot_fine n p h f =
    let e = eight_dots n h in
    token_fine (kind.Dot n) p (subst (λ (l : List ℕ). Longest (l ++ spell p) l (kind.Dot n)) (sym e)
    (dot_longest (48 + n) (spell p) (kind.Dot n) (dot n h))) refl f

number_token : (n : Num) (rest : List ℕ) → Literal n → stops goes_on rest ≡ true →
    Longest (literal n ++ rest) (literal n) (kind.Number n) × (is_comment (literal n ++ rest) ≡ false)
number_token n rest (whole s e h le is) st =
    let d : Spells s (kind.Number n) = subst (λ (m : Num). Spells s (kind.Number m)) is (integer s h le) in
    rw e (digits_longest s rest (kind.Number n) h d st, digits_alone s rest h)
number_token n rest (parts s f e h g le is) st =
    let d : Spells (s ++ 46 ∷ f) (kind.Number n) = subst (λ (m : Num). Spells (s ++ 46 ∷ f) (kind.Number m)) is (decimal_point s f h g le) in
    rw e (point_longest s f rest (kind.Number n) h g d st, ap is_comment (append_assoc s (46 ∷ f) rest) ∙ digits_alone s (46 ∷ (f ++ rest)) h)

pub number_fine : (n : Num) (p : List Piece) → is_num n ≡ true → Ends p → Fine p → Fine (one (kind.Number n) ∷ p)
number_fine n p h s f = let w = number_token n (spell p) (literal_is n h) (no_digit (spell p) s) in token_fine (kind.Number n) p w.0 w.1 f

pub begins_name : (x rest : List ℕ) → is_name x ≡ true → Begins (x ++ rest)
begins_name x rest h = go x (name_word x h)
  where
    go : (x : List ℕ) → is_word x ≡ true → Begins (x ++ rest)
    go [] h = absurd cc
    go (b ∷ bs) h = by_letter b (and_parts (is_letter b) (list_all is_name_byte bs) h).0

begins_digits : (x rest : List ℕ) → are_digits x ≡ true → Begins (x ++ rest)
begins_digits [] rest h = absurd cc
begins_digits (b ∷ bs) rest h = by_digit b (and_parts (is_digit b) (list_all is_digit bs) h).0

pub begins_number : (n : Num) (rest : List ℕ) → is_num n ≡ true → Begins (literal n ++ rest)
begins_number n rest h = go (literal_is n h)
  where
    go : Literal n → Begins (literal n ++ rest)
    go (whole s e g le is) = subst (λ (l : List ℕ). Begins (l ++ rest)) (sym e) (begins_digits s rest g)
    go (parts s f e g i le is) = subst (λ (l : List ℕ). Begins (l ++ rest)) (sym e)
        (subst Begins (sym (append_assoc s (46 ∷ f) rest)) (begins_digits s (46 ∷ (f ++ rest)) g))
