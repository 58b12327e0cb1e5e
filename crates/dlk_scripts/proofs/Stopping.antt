-- A text stops at one place, and a text that says a script stops nowhere.
use Rattle.std.proofs.Common.{◌≡◌, ℕ, inl, inr, List, [], ◌∷◌, ◌++◌, length, refl, sym, ap, subst, ◌∙◌, arith, append_assoc, length-append}
use Rattle.std.proofs.lemmas.List.{append-nil, append_cancel_left}
use Rattle.dlk_scripts.specs.Scripts.{Script}
use Rattle.dlk_scripts.specs.Texts.{IsScript, Begins, Stops, stops-byte, stops-end}
use Rattle.dlk_grammar.proofs.Lists.{either_front}

-- fronts of a text are closed under fronts
begins_front : (s r : List ℕ) → Begins (s ++ r) → Begins s
begins_front s r b = record { more = r ++ b.more; script = b.script; says = subst (λ (z : List ℕ). IsScript z b.script) (append_assoc s r b.more) b.says }

said_begins : (s r : List ℕ) (t : Script) → IsScript (s ++ r) t → Begins s
said_begins s r t w = record { more = r; script = t; says = w }

pub said_nowhere : {s : List ℕ} {i : ℕ} (t : Script) → IsScript s t → Stops s i → ⊥
said_nowhere t w (stops-byte {s = s} k r b never) =
    never (said_begins (s ++ k ∷ []) r t (subst (λ (z : List ℕ). IsScript z t) (sym (append_assoc s (k ∷ []) r)) w))
said_nowhere t w (stops-end b never) = never t w

-- the bytes before the place, and those from it on
record StopsAt (s : List ℕ) (i : ℕ) : Type 0 where
  front : List ℕ
  behind : List ℕ
  parts : s ≡ front ++ behind
  place : i ≡ length front
  begins : Begins front
  never : (k : ℕ) (r : List ℕ) → Begins (front ++ k ∷ r) → (q : List ℕ) → behind ≡ k ∷ q → ⊥

stops_at : {s : List ℕ} {i : ℕ} → Stops s i → StopsAt s i
stops_at (stops-byte {s = s} k r b never) = record {
  front = s;
  behind = k ∷ r;
  parts = refl;
  place = refl;
  begins = b;
  never = λ j q c z e.
      let same : k ≡ j = cc in
      let at : s ++ j ∷ q ≡ (s ++ k ∷ []) ++ q = sym (ap (λ (l : ℕ). (s ++ l ∷ []) ++ q) same ∙ append_assoc s (j ∷ []) q) in
      never (begins_front (s ++ k ∷ []) q (subst Begins at c));
}
stops_at (stops-end {s = s} b never) = record { front = s; behind = []; parts = sym (append-nil s); place = refl; begins = b; never = λ k r c q e. absurd cc }

-- no later front of the bytes begins a text
not_later : {s : List ℕ} {i j : ℕ} (a : StopsAt s i) (b : StopsAt s j) (q : List ℕ) → b.front ≡ a.front ++ q → q ≡ []
not_later a b [] e = refl
not_later a b (k ∷ q) e =
    let at : a.front ++ a.behind ≡ a.front ++ (k ∷ (q ++ b.behind)) =
    sym a.parts ∙ b.parts ∙ ap (λ (z : List ℕ). z ++ b.behind) e ∙ append_assoc a.front (k ∷ q) b.behind in
    absurd (a.never k q (subst Begins e b.begins) (q ++ b.behind) (append_cancel_left a.front a.behind (k ∷ (q ++ b.behind)) at))

pub one_stop_at : {s : List ℕ} {i j : ℕ} → Stops s i → Stops s j → i ≡ j
one_stop_at x y =
    let a = stops_at x in
    let b = stops_at y in
    elim (either_front a.front b.front a.behind b.behind (sym a.parts ∙ b.parts)) [
      | inl w ↦ omega (arith, a.place, b.place, ap length w.1, length-append a.front w.0, ap length (not_later a b w.0 w.1))
      | inr w ↦ omega (arith, a.place, b.place, ap length w.1, length-append b.front w.0, ap length (not_later b a w.0 w.1))
    ]
