-- The front of a text before the first space.
use Rattle.std.proofs.Common.{◌≡◌, ◌≢◌, ℕ, ◌+◌, ◌-◌, not, List, [], ◌∷◌, ◌++◌, length, take, drop, get_or, Some, None, refl, sym, ap, subst, ◌∙◌}
use Rattle.std.proofs.Common.{append-nil, ◌⊎◌, inl, inr, arith, add-one, length-drop}
use Rattle.std.specs.Prelude.{◌==◌}
use Rattle.std.specs.List.{list_all, position}
use Rattle.std.proofs.lemmas.Bool.{cases_Bool, and_from, eqb-true}
use Rattle.std.proofs.lemmas.List.{take-append-drop, take_all}
use Rattle.std.proofs.lemmas.List.Quantifiers.{position-Some}
use Rattle.std.proofs.Math.Seq.{drop-cons}
use Rattle.dlk_lines.specs.Parts.{Lacks}
use Rattle.dlk_lines.proofs.Cuts.{cut_there, cut_nowhere}
use Rattle.dlk_nodes.specs.Parts.{IsBehind, Front}

-- a text without such a byte
lacks_or_cut : (byte : ℕ) (text : List ℕ) → Lacks text byte ⊎ ((front : List ℕ) × (rest : List ℕ) × (text ≡ front ++ byte ∷ rest))
lacks_or_cut byte [] = inl refl
lacks_or_cut byte (c ∷ text) = elim (cases_Bool (c == byte)) [
  | inl same ↦ inr ([], text, ap (λ b. b ∷ text) (eqb-true c byte same))
  | inr other ↦ elim (lacks_or_cut byte text) [
    | inl none ↦ inl (and_from (not (c == byte)) (list_all (λ b. not (b == byte)) text) (ap not other) none)
    | inr cut ↦ inr (c ∷ cut.0, cut.1, ap (λ l. c ∷ l) cut.2)
  ]
]

pub uncut_lacks : (byte : ℕ) (text : List ℕ) → ((front rest : List ℕ) → text ≢ front ++ byte ∷ rest) → Lacks text byte
uncut_lacks byte text none = elim (lacks_or_cut byte text) [ inl lack ↦ lack | inr cut ↦ absurd (none cut.0 cut.1 cut.2) ]

-- the front before the first space
pub front_none : (text : List ℕ) → position (λ b. b == 32) text ≡ None → Front text text []
front_none text none = record { text_is = sym (append-nil text); first = uncut_lacks 32 text (cut_nowhere text 32 none); behind = tt }

pub front_some : (text : List ℕ) (place : ℕ) → position (λ b. b == 32) text ≡ Some place →
    Front text (take place text) (take (length text - place) (drop place text))
front_some text place there =
    let h = position-Some (λ b. b == 32) text place 0 there in
    let same : get_or text place 0 ≡ 32 = eqb-true _ 32 h.1 in
    let behind : drop place text ≡ 32 ∷ drop (place + 1) text = rw (drop-cons text place 0 h.0, same, add-one) refl in
    let all : take (length text - place) (drop place text) ≡ drop place text = take_all (length text - place) (drop place text) (omega (
      arith,
      length-drop place text,
    )) in
    record {
      text_is = sym (ap (λ l. take place text ++ l) all ∙ take-append-drop place text);
      first = (cut_there text 32 place there).first;
      behind = subst IsBehind (sym (all ∙ behind)) refl;
    }
