-- What one more token shows.
use Rattle.std.proofs.Common.{◌≡◌, ℕ, ◌+◌, ◌-◌, ◌≤◌, Bool, true, false, cond, IsTrue, List, [], ◌∷◌, ◌++◌, length, refl, sym, ap, subst, ◌∙◌}
use Rattle.std.proofs.Common.{append_assoc, arith, rules, inl, inr, Option, Some, None}
use Rattle.std.specs.Prelude.{◌↔◌}
use Rattle.std.proofs.lemmas.Bool.{cases_lt}
use Rattle.std.proofs.lemmas.List.{length-append, map-append}
use Rattle.std.proofs.lemmas.List.Sums.{fold-append}
use Rattle.dlk_grammar.specs.declared.token.Token.{Token}
use Rattle.dlk_grammar.specs.declared.token.TokenKind.{TokenKind}
use Rattle.dlk_grammar.specs.Readings.{FirstAt, OpensTooDeep, opens, closes, bracket_level, level_behind}
use Rattle.dlk_lex.specs.Noted.{NoneIn, FirstOf, starts_of}

pub none_yet : (Is : List Token → TokenKind → Type 0) → NoneIn Is []
none_yet Is = record { none = λ front after t e is. absurd (omega (arith, ap length e, length-append front (t ∷ after))) }

-- a token of some tokens with one more behind them: it is that one, or one of them
data Stand (before front : List Token) (t u : Token) : Type 0 where
  last : before ≡ front → t ≡ u → Stand before front t u
  sooner : (rest : List Token) → before ≡ front ++ u ∷ rest → Stand before front t u

stand : (before front after : List Token) (t u : Token) → before ++ t ∷ [] ≡ front ++ u ∷ after → Stand before front t u
stand [] [] after t u e = last refl (cc)
stand [] (z ∷ front) after t u e = absurd (omega (arith, ap length e, length-append front (u ∷ after)))
stand (x ∷ before) [] after t u e = sooner before (cc)
stand (x ∷ before) (z ∷ front) after t u e = go (stand before front after t u (cc))
  where
    first : x ≡ z
    first = cc

    go : Stand before front t u → Stand (x ∷ before) (z ∷ front) t u
    go (last f g) = last (cc) g
    go (sooner rest f) = sooner rest (cc)

module _ (Is : List Token → TokenKind → Type 0) (seen : List Token) (t : Token) where
  -- one more token without the property
  pub more : NoneIn Is seen → ¬ Is seen t.kind → NoneIn Is (seen ++ t ∷ [])
  more h not = record { none = λ front after u e is. at front u is (stand seen front after t u e) }
    where
      at : (front : List Token) (u : Token) → Is front u.kind → Stand seen front t u → ⊥
      at front u is (last f g) = not (subst (λ x. Is x t.kind) (sym f) (subst (λ (x : Token). Is front x.kind) (sym g) is))
      at front u is (sooner rest f) = h.none front rest u f is

  -- the first token with the property stays the first
  pub still_first : (at : ℕ) → FirstAt Is seen at → FirstAt Is (seen ++ t ∷ []) at
  still_first at f = record {
    before = f.before;
    token = f.token;
    behind = f.behind ++ t ∷ [];
    tokens_are = ap (λ l. l ++ t ∷ []) f.tokens_are ∙ append_assoc f.before (f.token ∷ f.behind) (t ∷ []);
    is = f.is;
    first = f.first;
    place = f.place;
  }

  pub first_here : NoneIn Is seen → Is seen t.kind → FirstAt Is (seen ++ t ∷ []) t.at
  first_here h is = record { before = seen; token = t; behind = []; tokens_are = refl; is = is; first = h.none; place = refl }

  pub first_still : (o : Option ℕ) (at : ℕ) → o ≡ Some at → FirstOf Is seen o → FirstAt Is (seen ++ t ∷ []) at
  first_still (Some k) at e h = still_first at (subst (FirstAt Is seen) (cc) h)
  first_still None at e h = absurd cc

  pub first_now : (o : Option ℕ) → o ≡ None → Is seen t.kind → FirstOf Is seen o → FirstAt Is (seen ++ t ∷ []) t.at
  first_now (Some k) e is h = absurd cc
  first_now None e is h = first_here h is

  pub none_more : (o : Option ℕ) → o ≡ None → ¬ Is seen t.kind → FirstOf Is seen o → NoneIn Is (seen ++ t ∷ [])
  none_more (Some at) e not h = absurd cc
  none_more None e not h = more h not

pub starts_more : (seen : List Token) (t : Token) (starts new : List ℕ) → starts ≡ starts_of seen → new ≡ starts ++ t.at ∷ [] → new ≡ starts_of (seen ++ t ∷ [])
starts_more seen t starts new e f = f ∙ ap (λ l. l ++ t.at ∷ []) e ∙ sym (map-append (λ (x : Token). x.at) seen (t ∷ []))

-- the level behind one more token
pub level_more : (seen : List Token) (t : Token) → bracket_level (seen ++ t ∷ []) ≡ level_behind (bracket_level seen) t.kind
level_more seen t = fold-append (λ n u. level_behind n u.kind) 0 seen (t ∷ [])

-- what a test that is true or false says
pub holds_from : {P : Type 0} {b : Bool} → IsTrue b ↔ P → b ≡ true → P
holds_from h e = h.0 (search (rules, e))

pub fails_from : {P : Type 0} {b : Bool} → IsTrue b ↔ P → b ≡ false → ¬ P
fails_from h e p = absurd (search (rules, e, h.1 p))

pub not_deep : (before : List Token) (n : ℕ) (k : TokenKind) → n ≡ bracket_level before → ¬ ((n ≡ 1200) × (opens k ≡ true)) → ¬ OpensTooDeep before k
not_deep before n k e h d = h (e ∙ d.0, d.1)

-- the level stays low
pub low_more : (n : ℕ) (k : TokenKind) → n ≤ 1200 → ¬ ((n ≡ 1200) × (opens k ≡ true)) → level_behind n k ≤ 1200
low_more n k h not = by_tests n (opens k) (closes k) h not
  where
    by_tests : (n : ℕ) (b c : Bool) → n ≤ 1200 → ¬ ((n ≡ 1200) × (b ≡ true)) → cond b (n + 1) (cond c (n - 1) n) ≤ 1200
    by_tests n true c h not = elim (cases_lt n 1200) [ inl l ↦ omega arith | inr g ↦ absurd (not (omega arith, refl)) ]
    by_tests n false true h not = omega arith
    by_tests n false false h not = h
