-- A text stops at one place, and lexemes that say something stop nowhere.
use Rattle.std.proofs.Common.{◌≡◌, ℕ, ◌≤◌, inl, inr, List, [], ◌∷◌, ◌++◌, length, refl, sym, ap, subst, ◌∙◌, arith, append_assoc, length-append}
use Rattle.std.proofs.lemmas.List.{append-nil, append_cancel_left}
use Rattle.dlk_grammar.specs.declared.token.Dots.{Dots}
use Rattle.dlk_grammar.specs.Lexemes.{Lexeme}
use Rattle.dlk_grammar.specs.Readings.{Says, Begins, Stops, stops-token, stops-end}
use Rattle.dlk_grammar.proofs.Lists.{either_front}

module _ {P : Type 0} (d : Dots) (G : List Lexeme → P → Type 0) where
  -- fronts of a text are closed under fronts
  begins_front : (s r : List Lexeme) → Begins d G (s ++ r) → Begins d G s
  begins_front s r b = record { more = r ++ b.more; said = b.said; text = subst (λ (z : List Lexeme). Says d G z b.said) (append_assoc s r b.more) b.text }

  said_begins : (s r : List Lexeme) (p : P) → Says d G (s ++ r) p → Begins d G s
  said_begins s r p w = record { more = r; said = p; text = w }

  pub said_nowhere : {s : List Lexeme} {i : ℕ} (p : P) → Says d G s p → Stops d G s i → ⊥
  said_nowhere p w (stops-token {s = s} k r b never) =
      never (said_begins (s ++ k ∷ []) r p (subst (λ (z : List Lexeme). Says d G z p) (sym (append_assoc s (k ∷ []) r)) w))
  said_nowhere p w (stops-end b never) = never p w

  pub stops_within : {s : List Lexeme} {i : ℕ} → Stops d G s i → i ≤ length s
  stops_within (stops-token {s = s} k r b never) = omega (arith, length-append s (k ∷ r))
  stops_within (stops-end b never) = omega arith

  -- the tokens before the place, and those from it on
  record StopsAt (s : List Lexeme) (i : ℕ) : Type 0 where
    front : List Lexeme
    behind : List Lexeme
    parts : s ≡ front ++ behind
    place : i ≡ length front
    begins : Begins d G front
    never : (k : Lexeme) (r : List Lexeme) → Begins d G (front ++ k ∷ r) → (q : List Lexeme) → behind ≡ k ∷ q → ⊥

  stops_at : {s : List Lexeme} {i : ℕ} → Stops d G s i → StopsAt s i
  stops_at (stops-token {s = s} k r b never) = record {
    front = s;
    behind = k ∷ r;
    parts = refl;
    place = refl;
    begins = b;
    never = λ j q c z e.
        let same : k ≡ j = cc in
        let at : s ++ j ∷ q ≡ (s ++ k ∷ []) ++ q = sym (ap (λ (l : Lexeme). (s ++ l ∷ []) ++ q) same ∙ append_assoc s (j ∷ []) q) in
        never (begins_front (s ++ k ∷ []) q (subst (Begins d G) at c));
  }
  stops_at (stops-end {s = s} b never) = record { front = s; behind = []; parts = sym (append-nil s); place = refl; begins = b; never = λ k r c q e. absurd cc }

  -- no later front of the tokens begins a text
  not_later : {s : List Lexeme} {i j : ℕ} (a : StopsAt s i) (b : StopsAt s j) (q : List Lexeme) → b.front ≡ a.front ++ q → q ≡ []
  not_later a b [] e = refl
  not_later a b (k ∷ q) e =
      let at : a.front ++ a.behind ≡ a.front ++ (k ∷ (q ++ b.behind)) =
      sym a.parts ∙ b.parts ∙ ap (λ (z : List Lexeme). z ++ b.behind) e ∙ append_assoc a.front (k ∷ q) b.behind in
      absurd (a.never k q (subst (Begins d G) e b.begins) (q ++ b.behind) (append_cancel_left a.front a.behind (k ∷ (q ++ b.behind)) at))

  pub one_stop : {s : List Lexeme} {i j : ℕ} → Stops d G s i → Stops d G s j → i ≡ j
  one_stop x y =
      let a = stops_at x in
      let b = stops_at y in
      elim (either_front a.front b.front a.behind b.behind (sym a.parts ∙ b.parts)) [
        | inl w ↦ omega (arith, a.place, b.place, ap length w.1, length-append a.front w.0, ap length (not_later a b w.0 w.1))
        | inr w ↦ omega (arith, a.place, b.place, ap length w.1, length-append b.front w.0, ap length (not_later b a w.0 w.1))
      ]
