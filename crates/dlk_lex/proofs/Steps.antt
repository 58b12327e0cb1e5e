-- What is at the front, and one step of the split over it.
use Rattle.std.proofs.Common.{◌≡◌, ◌≢◌, ℕ, ◌+◌, ◌-◌, ◌<◌, ◌≤◌, true, false, List, [], ◌∷◌, ◌++◌, length, take, drop, get_or, refl, sym, ap, subst}
use Rattle.std.proofs.Common.{◌∙◌, append_assoc, arith}
use Rattle.std.proofs.Math.Seq.{drop-cons}
use Rattle.std.proofs.lemmas.List.{drop_all, take-append-drop, length-take-le, length-drop, drop-drop, take_all}
use Rattle.dlk_grammar.specs.declared.token.Token.{Token}
use Rattle.dlk_grammar.specs.declared.token.TokenKind.{TokenKind}
use Rattle.dlk_grammar.specs.declared.token.TokenKind.TheVariants.{End}
use Rattle.dlk_grammar.specs.Tokens.{is_space}
use Rattle.dlk_grammar.specs.Splits.{token, BeginsComment, Splits, ended, BadAt}
use Rattle.dlk_grammar.specs.Fronts.{Piece, AtFront, front-space, front-one, front-bad}
use Rattle.dlk_grammar.proofs.Splitting.{comment_begins, go_on, go_bad, forward}
use Rattle.dlk_grammar.proofs.Real.{spelled_no_end}
use Rattle.dlk_lex.specs.declared.front.Piece.{Piece as LexPiece}
use Rattle.dlk_lex.specs.declared.front.Piece.TheVariants as lex
use Rattle.dlk_lex.specs.Fronts.{StandsInFront, HasNoToken, IsToken, IsPiece}
use Rattle.dlk_lex.specs.Taken.{SplitsUpTo, IsFirst, first_one, none_left}

module _ (bytes : List ℕ) (some : 0 < length bytes) where
  first_is : bytes ≡ get_or bytes 0 0 ∷ drop 1 bytes
  first_is = drop-cons bytes 0 0 some

  pub space_piece : is_space (get_or bytes 0 0) ≡ true → (1 ≤ length bytes) × AtFront bytes (Piece.Gap 1 (drop 1 bytes))
  space_piece h = (omega arith, front-space (get_or bytes 0 0) (drop 1 bytes) first_is h)

  pub token_piece : (n : ℕ) (k : TokenKind) → ¬ BeginsComment bytes → StandsInFront bytes (k, n)
      → (n ≤ length bytes) × AtFront bytes (Piece.One (take n bytes) k (drop n bytes))
  token_piece n k none f = (f.within, front-one (take n bytes) (drop n bytes) k (sym (take-append-drop n bytes)) none f.is)

  pub no_piece : is_space (get_or bytes 0 0) ≡ false → ¬ BeginsComment bytes → HasNoToken bytes → AtFront bytes Piece.Bad
  no_piece h none missing = front-bad (get_or bytes 0 0) (drop 1 bytes) (record {
    bytes_are = first_is;
    no_space = h;
    no_comment = λ s after c. none (comment_begins c);
    no_token = λ s k l. absurd (missing s k l);
  })

-- what is at the front where no space is and no comment begins
pub as_piece : (bytes : List ℕ) → 0 < length bytes → is_space (get_or bytes 0 0) ≡ false → ¬ BeginsComment bytes → (p : LexPiece) → IsToken bytes p →
    IsPiece bytes p
as_piece bytes some no_space none (lex.Comment n) h = absurd h
as_piece bytes some no_space none (lex.Token k n) h = token_piece bytes some n k none h
as_piece bytes some no_space none lex.Nothing h = no_piece bytes some no_space none h

pub start : (bytes : List ℕ) (from : ℕ) → from ≤ length bytes → SplitsUpTo bytes from from []
start bytes from le = record { within = le; forward = omega arith; found = λ ts s. s; bad = λ b h. h }

module _ (bytes : List ℕ) (from at : ℕ) (out : List Token) (reached : SplitsUpTo bytes from at out) (rest : List ℕ) (same : rest ≡ drop at bytes) where
  pub past_gap : (n : ℕ) → (n ≤ length rest) × AtFront rest (Piece.Gap n (drop n rest)) → (0 < n) × SplitsUpTo bytes from (at + n) out
  past_gap n f =
      let le : at + n ≤ length bytes = omega (arith, f.0, ap length same, length-drop at bytes, reached.within) in
      let behind : drop n rest ≡ drop (at + n) bytes = ap (drop n) same ∙ drop-drop n at bytes in (
        (forward f.1).0,
        record {
          within = le;
          forward = omega (arith, reached.forward);
          found = λ ts s.
              let further = subst (λ (l : List ℕ). Splits (at + n) l ts) (sym behind) s in
              reached.found ts (subst (λ (l : List ℕ). Splits at l ts) same (go_on f.1 further));
          bad = λ b s. reached.bad b (subst (λ (l : List ℕ). BadAt at l b) same (go_bad f.1 (subst (λ (l : List ℕ). BadAt (at + n) l b) (sym behind) s)));
        },
      )

  pub past_token : (n : ℕ) (k : TokenKind) → (n ≤ length rest) × AtFront rest (Piece.One (take n rest) k (drop n rest))
      → (0 < n) × SplitsUpTo bytes from (at + n) (out ++ token k at (at + n) ∷ [])
  past_token n k f =
      let le : at + n ≤ length bytes = omega (arith, f.0, ap length same, length-drop at bytes, reached.within) in
      let behind : drop n rest ≡ drop (at + n) bytes = ap (drop n) same ∙ drop-drop n at bytes in
      let size : length (take n rest) ≡ n = length-take-le n rest f.0 in
      let some : 0 < length (take n rest) = (forward f.1).0 in (
        omega arith,
        record {
          within = le;
          forward = omega (arith, reached.forward);
          found = λ ts s.
              let further = subst (λ (m : ℕ). Splits (at + m) (drop n rest) ts) (sym size) (subst (λ (l : List ℕ). Splits (at + n) l ts) (sym behind) s) in
              let here = go_on f.1 (ts, ap (λ (m : ℕ). token k at (at + m) ∷ ts) (sym size), further) in
              let all = reached.found (token k at (at + n) ∷ ts) (subst (λ (l : List ℕ). Splits at l (token k at (at + n) ∷ ts)) same here) in
              subst (Splits from (drop from bytes)) (sym (append_assoc out (token k at (at + n) ∷ []) ts)) all;
          bad = λ b s. reached.bad b (subst (λ (l : List ℕ). BadAt at l b) same
              (go_bad f.1 (subst (λ (m : ℕ). BadAt (at + m) (drop n rest) b) (sym size) (subst (λ (l : List ℕ). BadAt (at + n) l b) (sym behind) s))));
        },
      )

  pub stuck : AtFront rest Piece.Bad → BadAt from (drop from bytes) at
  stuck f = reached.bad at (subst (λ (l : List ℕ). BadAt at l at) same (go_bad f refl))

-- a space
pub past_space : (bytes : List ℕ) (from at : ℕ) → SplitsUpTo bytes from at [] → at < length bytes → is_space (get_or bytes at 0) ≡ true →
    SplitsUpTo bytes from (at + 1) []
past_space bytes from at reached lt h =
    let rest = drop at bytes in
    let some : 0 < length rest = omega (arith, length-drop at bytes) in
    let first : get_or rest 0 0 ≡ get_or bytes at 0 = ap (λ (l : List ℕ). get_or l 0 0) (drop-cons bytes at 0 lt) in
    (past_gap bytes from at [] reached rest refl 1 (space_piece rest some (ap is_space first ∙ h))).1

-- No spelling is the end.

one_no_end : {bytes s rest : List ℕ} {k : TokenKind} → AtFront bytes (Piece.One s k rest) → k ≢ End
one_no_end (front-one s rest k e none longest) = spelled_no_end longest.spells

-- a token behind spaces and comments
pub first_token_is : (bytes : List ℕ) (from at : ℕ) → SplitsUpTo bytes from at [] → (rest : List ℕ) → rest ≡ drop at bytes → (n : ℕ) (k : TokenKind)
    → (n ≤ length rest) × AtFront rest (Piece.One (take n rest) k (drop n rest)) → IsFirst bytes from (token k at (at + n))
first_token_is bytes from at reached rest same n k f =
    let past = past_token bytes from at [] reached rest same n k f in
    first_one (one_no_end f.1) (omega (arith, past.0, reached.forward)) past.1

pub all_passed : (bytes : List ℕ) (from at : ℕ) → SplitsUpTo bytes from at [] → length bytes ≤ at → IsFirst bytes from (token End at at)
all_passed bytes from at reached le = none_left refl reached (ended (drop_all at bytes le))

-- what `&bytes[at..]` is
pub rest_from : (bytes : List ℕ) (at : ℕ) → take (length bytes - at) (drop at bytes) ≡ drop at bytes
rest_from bytes at = take_all (length bytes - at) (drop at bytes) (omega (arith, length-drop at bytes))

-- tokens of which the bytes up to a place are, and one more
pub joined : (bytes : List ℕ) (at to : ℕ) (out : List Token) (t : Token) → SplitsUpTo bytes 0 at out → SplitsUpTo bytes at to (t ∷ []) →
    SplitsUpTo bytes 0 to (out ++ t ∷ [])
joined bytes at to out t a b = record {
  within = b.within;
  forward = omega arith;
  found = λ ts s. subst (Splits 0 bytes) (sym (append_assoc out (t ∷ []) ts)) (a.found (t ∷ ts) (b.found ts s));
  bad = λ bad s. a.bad bad (b.bad bad s);
}

-- tokens of which all bytes are
pub all_split : (bytes : List ℕ) (at : ℕ) (out : List Token) (t : Token) → SplitsUpTo bytes 0 at out → IsFirst bytes at t → t.kind ≡ End →
    Splits 0 bytes (out ++ t ∷ [])
all_split bytes at out t a (first_one some lt up) is = absurd (some is)
all_split bytes at out t a (none_left e up ends) is = a.found (t ∷ []) (up.found (t ∷ []) ends)
