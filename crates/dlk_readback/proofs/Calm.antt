-- Tokens without a fault of their own: no literal is too long, no bracket too deep, and no dot or hole where they are refused.
use Rattle.std.proofs.Common.{◌≡◌, ℕ, ◌+◌, ◌-◌, ◌≤◌, Bool, true, false, cond, ◌&&◌, not, List, [], ◌∷◌, ◌++◌, map, fold, refl, sym, ap, subst, ◌∙◌, arith}
use Rattle.std.specs.List.{list_all}
use Rattle.std.proofs.lemmas.Bool.{and_parts}
use Rattle.dlk_grammar.specs.declared.token.Token.{Token}
use Rattle.dlk_grammar.specs.declared.token.TokenKind.{TokenKind}
use Rattle.dlk_grammar.specs.declared.token.TokenKind.TheVariants as kind
use Rattle.dlk_grammar.specs.declared.token.Mark.{Mark}
use Rattle.dlk_grammar.specs.declared.token.Mark.TheVariants as mark
use Rattle.dlk_grammar.specs.declared.token.Dots.{Dots}
use Rattle.dlk_grammar.specs.declared.token.Dots.TheVariants.{Refused, Allowed}
use Rattle.dlk_grammar.specs.Lexemes.{Lexeme, lexeme_of, lexemes_from}
use Rattle.dlk_grammar.specs.Readings.{Permitted, opens, closes, level_behind, bracket_level, FirstAt, IsLong, OpensTooDeep}
use Rattle.dlk_grammar.specs.Shown.{Piece, one, space}
use Rattle.dlk_readback.proofs.Neighbours.{kinds}

abbrev pub is_refused : Dots → Bool
is_refused Refused = true
is_refused Allowed = false

-- no literal that is too long, and where they are refused no dot and no hole
abbrev pub is_good : Dots → TokenKind → Bool
is_good d kind.LongNumber = false
is_good d (kind.Dot n) = not (is_refused d)
is_good d kind.Hole = not (is_refused d)
is_good d _ = true

-- the level behind tokens
abbrev pub after : ℕ → List TokenKind → ℕ
after n ks = fold level_behind n ks

-- from level n on, no token has a fault
abbrev pub Calm : Dots → ℕ → List TokenKind → Type 0
Calm d n [] = Unit {0}
Calm d n (k ∷ ks) = (is_good d k ≡ true) × (level_behind n k ≤ 1200) × Calm d (level_behind n k) ks

pub calm-append : (d : Dots) (n : ℕ) (x y : List TokenKind) → Calm d n x → Calm d (after n x) y → Calm d n (x ++ y)
calm-append d n [] y c e = e
calm-append d n (k ∷ x) y c e = (c.0, c.1, calm-append d (level_behind n k) x y c.2 e)

pub after-append : (n : ℕ) (x y : List TokenKind) → after n (x ++ y) ≡ after (after n x) y
after-append n [] y = refl
after-append n (k ∷ x) y = after-append (level_behind n k) x y

-- the token behind others
calm_at : (d : Dots) (n : ℕ) (x : List TokenKind) (k : TokenKind) (y : List TokenKind) → Calm d n (x ++ k ∷ y) →
    (is_good d k ≡ true) × (level_behind (after n x) k ≤ 1200)
calm_at d n [] k y c = (c.0, c.1)
calm_at d n (j ∷ x) k y c = calm_at d (level_behind n j) x k y c.2

kinds_of-append : (x y : List Token) → map (λ (t : Token). t.kind) (x ++ y) ≡ map (λ (t : Token). t.kind) x ++ map (λ (t : Token). t.kind) y
kinds_of-append [] y = refl
kinds_of-append (t ∷ x) y = ap (λ (l : List TokenKind). t.kind ∷ l) (kinds_of-append x y)

level_of : (n : ℕ) (tokens : List Token) → fold (λ n t. level_behind n t.kind) n tokens ≡ after n (map (λ t. t.kind) tokens)
level_of n [] = refl
level_of n (t ∷ tokens) = level_of (level_behind n t.kind) tokens

module _ (d : Dots) (tokens : List Token) (calm : Calm d 0 (map (λ t. t.kind) tokens)) where
  found : (before behind : List Token) (t : Token) → tokens ≡ before ++ t ∷ behind →
      (is_good d t.kind ≡ true) × (level_behind (bracket_level before) t.kind ≤ 1200)
  found before behind t e =
      let c = calm_at d 0 (map (λ t. t.kind) before) t.kind (map (λ t. t.kind) behind)
      (subst (Calm d 0) (ap (λ (l : List Token). map (λ t. t.kind) l) e ∙ kinds_of-append before (t ∷ behind)) calm) in
      (c.0, subst (λ (n : ℕ). level_behind n t.kind ≤ 1200) (sym (level_of 0 before)) c.1)

  pub no_literal : (at : ℕ) → ¬ FirstAt IsLong tokens at
  no_literal at f = let w : false ≡ true = sym (ap (is_good d) f.is) ∙ (found f.before f.behind f.token f.tokens_are).0 in absurd cc

  pub no_nesting : (at : ℕ) → ¬ FirstAt OpensTooDeep tokens at
  no_nesting at f =
      let le = (found f.before f.behind f.token f.tokens_are).1 in
      let up : level_behind (bracket_level f.before) f.token.kind ≡ bracket_level f.before + 1 =
      ap (λ (b : Bool). cond b (bracket_level f.before + 1) (cond (closes f.token.kind) (bracket_level f.before - 1) (bracket_level f.before))) f.is.1 in
      absurd (omega (arith, le, up, f.is.0))

-- the lexemes of good tokens are permitted
permitted-append : (d : Dots) (x y : List Lexeme) → Permitted d x → Permitted d y → Permitted d (x ++ y)
permitted-append d [] y h g = g
permitted-append d (k ∷ x) y h g = (h.0, permitted-append d x y h.1 g)

by_mark : (d : Dots) (n : ℕ) (m : Mark) → Permitted d (lexeme_of n (kind.Mark m))
by_mark Refused n mark.Forall = (refl, tt)
by_mark Allowed n mark.Forall = (refl, tt)
by_mark Refused n _ = (refl, tt)
by_mark Allowed n _ = (refl, tt)

one_permitted : (d : Dots) (n : ℕ) (k : TokenKind) → is_good d k ≡ true → Permitted d (lexeme_of n k)
one_permitted d n (kind.Mark m) h = by_mark d n m
one_permitted Refused n (kind.Word x) h = (refl, tt)
one_permitted Allowed n (kind.Word x) h = (refl, tt)
one_permitted Refused n kind.True h = (refl, tt)
one_permitted Allowed n kind.True h = (refl, tt)
one_permitted Refused n kind.False h = (refl, tt)
one_permitted Allowed n kind.False h = (refl, tt)
one_permitted Refused n (kind.Number m) h = (refl, tt)
one_permitted Allowed n (kind.Number m) h = (refl, tt)
one_permitted d n kind.LongNumber h = absurd cc
one_permitted Refused n (kind.Dot m) h = absurd cc
one_permitted Allowed n (kind.Dot m) h = (refl, tt)
one_permitted Refused n kind.Hole h = absurd cc
one_permitted Allowed n kind.Hole h = (refl, tt)
one_permitted d n kind.End h = tt

pub all_permitted : (d : Dots) (n bracket_level : ℕ) (tokens : List Token) → Calm d bracket_level (map (λ t. t.kind) tokens) →
    Permitted d (lexemes_from n tokens)
all_permitted d n bracket_level [] c = tt
all_permitted d n bracket_level (t ∷ tokens) c =
    permitted-append d (lexeme_of n t.kind) (lexemes_from (n + 1) tokens) (one_permitted d n t.kind c.0)
    (all_permitted d (n + 1) (level_behind bracket_level t.kind) tokens c.2)

-- Where `most` levels are left, the text leads from `a` levels above to `b`.
pub record Moves (d : Dots) (most a b : ℕ) (text : List Piece) : Type 0 where
  pub go : (n m : ℕ) → m ≡ n + a → n + most ≤ 1200 → Calm d m (kinds text) × (after m (kinds text) ≡ n + b)

pub kinds-append : (x y : List Piece) → kinds (x ++ y) ≡ kinds x ++ kinds y
kinds-append [] y = refl
kinds-append (one k ∷ x) y = ap (λ (l : List TokenKind). k ∷ l) (kinds-append x y)
kinds-append (space ∷ x) y = kinds-append x y

pub moves-append : {d : Dots} {most a b c : ℕ} (x y : List Piece) → Moves d most a b x → Moves d most b c y → Moves d most a c (x ++ y)
moves-append {d} x y f g = record {
  go = λ n m e h.
      let u = f.go n m e h in
      let v = g.go n (after m (kinds x)) u.1 h in
      rw (kinds-append x y) (calm-append d m (kinds x) (kinds y) u.0 v.0, after-append m (kinds x) (kinds y) ∙ v.1);
}

-- with more room, and from higher up
pub moves_more : {d : Dots} {few most a b : ℕ} (x : List Piece) → few ≤ most → Moves d few a b x → Moves d most a b x
moves_more x le f = record { go = λ n m e h. f.go n m e (omega arith) }

pub moves_up : {d : Dots} {most : ℕ} (x : List Piece) → Moves d most 0 0 x → Moves d (most + 1) 1 1 x
moves_up x f = record { go = λ n m e h. let w = f.go (n + 1) m (omega arith) (omega arith) in (w.0, w.1 ∙ omega arith) }

pub no_moves : {d : Dots} {most a : ℕ} → Moves d most a a []
no_moves = record { go = λ n m e h. (tt, e) }

-- a token that changes no level
abbrev pub is_flat : Dots → TokenKind → Bool
is_flat d k = is_good d k && (not (opens k) && not (closes k))

abbrev pub piece_is_flat : Dots → Piece → Bool
piece_is_flat d (one k) = is_flat d k
piece_is_flat d space = true

-- flat pieces
abbrev pub flat : Dots → List Piece → Bool
flat d text = list_all (piece_is_flat d) text

not_true : (b : Bool) → not b ≡ true → b ≡ false
not_true true h = absurd cc
not_true false h = refl

flat_level : (d : Dots) (n : ℕ) (k : TokenKind) → is_flat d k ≡ true → (is_good d k ≡ true) × (level_behind n k ≡ n)
flat_level d n k h =
    let w = and_parts (is_good d k) (not (opens k) && not (closes k)) h in
    let v = and_parts (not (opens k)) (not (closes k)) w.1 in (
      w.0,
      ap (λ (b : Bool). cond b (n + 1) (cond (closes k) (n - 1) n)) (not_true (opens k) v.0)
          ∙ ap (λ (b : Bool). cond b (n - 1) n) (not_true (closes k) v.1),
    )

pub flat_moves : {d : Dots} {most a : ℕ} (text : List Piece) → a ≤ most → flat d text ≡ true → Moves d most a a text
flat_moves [] le h = no_moves
flat_moves {d} {most} {a} (one k ∷ text) le h = record {
  go = λ n m e g.
      let w = and_parts (is_flat d k) (flat d text) h in
      let v = flat_level d m k w.0 in
      let r = (flat_moves {d = d} {most = most} {a = a} text le w.1).go n (level_behind m k) (v.1 ∙ e) g in
      ((v.0, omega (arith, v.1, e), r.0), r.1);
}
flat_moves (space ∷ text) le h = record { go = λ n m e g. (flat_moves text le h).go n m e g }

-- flat pieces and then an opening bracket
abbrev pub leads : Dots → List Piece → Bool
leads d [] = false
leads d (space ∷ text) = leads d text
leads d (one k ∷ []) = is_good d k && opens k
leads d (one k ∷ (p ∷ text)) = is_flat d k && leads d (p ∷ text)

pub leads_moves : {d : Dots} {most : ℕ} (text : List Piece) → 1 ≤ most → leads d text ≡ true → Moves d most 0 1 text
leads_moves [] le h = absurd cc
leads_moves (space ∷ text) le h = record { go = λ n m e g. (leads_moves text le h).go n m e g }
leads_moves {d} (one k ∷ []) le h = record {
  go = λ n m e g.
      let w = and_parts (is_good d k) (opens k) h in
      let up : level_behind m k ≡ m + 1 = ap (λ (b : Bool). cond b (m + 1) (cond (closes k) (m - 1) m)) w.1 in
      ((w.0, omega (arith, up, e), tt), omega (arith, up, e));
}
leads_moves {d} (one k ∷ (p ∷ text)) le h = record {
  go = λ n m e g.
      let w = and_parts (is_flat d k) (leads d (p ∷ text)) h in
      let v = flat_level d m k w.0 in
      let r = (leads_moves (p ∷ text) le w.1).go n (level_behind m k) (v.1 ∙ e) g in
      ((v.0, omega (arith, v.1, e), r.0), r.1);
}

-- a closing bracket and then flat pieces
abbrev pub trails : Dots → List Piece → Bool
trails d [] = false
trails d (space ∷ text) = false
trails d (one k ∷ text) = (is_good d k && (not (opens k) && closes k)) && flat d text

pub trails_moves : {d : Dots} {most : ℕ} (text : List Piece) → 1 ≤ most → trails d text ≡ true → Moves d most 1 0 text
trails_moves [] le h = absurd cc
trails_moves (space ∷ text) le h = absurd cc
trails_moves {d} {most} (one k ∷ text) le h = record {
  go = λ n m e g.
      let w = and_parts (is_good d k && (not (opens k) && closes k)) (flat d text) h in
      let v = and_parts (is_good d k) (not (opens k) && closes k) w.0 in
      let u = and_parts (not (opens k)) (closes k) v.1 in
      let down : level_behind m k ≡ m - 1 = ap (λ (b : Bool). cond b (m + 1) (cond (closes k) (m - 1) m)) (not_true (opens k) u.0)
      ∙ ap (λ (b : Bool). cond b (m - 1) m) u.1 in
      let same : level_behind m k ≡ n + 0 = omega (arith, down, e) in
      let r = (flat_moves {d = d} {most = most} {a = 0} text (omega arith) w.1).go n (level_behind m k) same g in
      ((v.0, omega (arith, same), r.0), r.1);
}
