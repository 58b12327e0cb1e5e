-- Texts that are cut at a byte.
use Rattle.std.proofs.Common.{◌≡◌, ◌≢◌, ℕ, ◌+◌, ◌-◌, ◌<◌, Bool, true, false, not, List, [], ◌∷◌, ◌++◌, length, take, drop, get_or, Some, None, refl}
use Rattle.std.proofs.Common.{sym, ap, ◌∙◌, inl, inr, arith, add-one, length-append, length-take, length-drop, append_assoc}
use Rattle.std.specs.Prelude.{◌==◌, IsTrue, codes}
use Rattle.std.specs.List.{list_all, position, position_or_len}
use Rattle.std.proofs.lemmas.Bool.{cases_Bool, cases_lt, and_parts, and_from, both_ways, eqb-true, lt-ltb, cond-true}
use Rattle.std.proofs.lemmas.Option.{none-some}
use Rattle.std.proofs.lemmas.List.{take-append-drop, take_all, get_or-take, append_cancel_right}
use Rattle.std.proofs.lemmas.List.Quantifiers.{position-Some}
use Rattle.std.proofs.lemmas.List.Sums.{list_all-from_AllPass, fails_before_first}
use Rattle.std.proofs.lemmas.Bool.Decides.{Decides-eqb}
use Rattle.std.proofs.Math.Seq.{drop-cons, get_or-append_seam}
use Rattle.dlk_tree.specs.Names.{is_letter, is_name_byte, is_name}
use Rattle.dlk_lines.specs.Parts.{Lacks, CutAt, Bracketed}

-- a byte that isn't this one
differs : (b byte : ℕ) → b ≢ byte → not (b == byte) ≡ true
differs b byte other = elim (cases_Bool (b == byte)) [ inl same ↦ absurd (other (eqb-true b byte same)) | inr differ ↦ ap not differ ]

-- bytes that pass a test that this one fails
pub lacks_if : (p : ℕ → Bool) (byte : ℕ) → p byte ≡ false → (text : List ℕ) → IsTrue (list_all p text) → Lacks text byte
lacks_if p byte fails [] all = refl
lacks_if p byte fails (b ∷ bs) all =
    let h = and_parts (p b) (list_all p bs) all in
    let other : b ≢ byte = λ same. both_ways (p b) (ap p same ∙ fails) h.0 in
    and_from _ _ (differs b byte other) (lacks_if p byte fails bs h.1)

-- such a text doesn't begin with the byte
first_differs : (b byte : ℕ) (bs : List ℕ) → Lacks (b ∷ bs) byte → b ≢ byte
first_differs b byte bs lacks same =
    let h = and_parts (not (b == byte)) (list_all (λ c. not (c == byte)) bs) lacks in
    both_ways (not (b == byte)) (ap not ((Decides-eqb b byte).1 same)) h.0

-- a text is cut at most one way
same_cut : (byte : ℕ) (front start rest behind : List ℕ) → Lacks front byte → Lacks start byte → front ++ byte ∷ rest ≡ start ++ byte ∷ behind →
    (front ≡ start) × (rest ≡ behind)
same_cut byte [] [] rest behind a b e = (refl, cc)
same_cut byte [] (c ∷ cs) rest behind a b e = absurd (first_differs c byte cs b (cc))
same_cut byte (c ∷ cs) [] rest behind a b e = absurd (first_differs c byte cs a (cc))
same_cut byte (c ∷ cs) (d ∷ ds) rest behind a b e =
    let head : c ≡ d = cc in
    let tail : cs ++ byte ∷ rest ≡ ds ++ byte ∷ behind = cc in
    let more = same_cut byte cs ds rest behind (and_parts _ _ a).1 (and_parts _ _ b).1 tail in
    (λ i. head i ∷ more.0 i, more.1)

pub one_cut : (text : List ℕ) (byte : ℕ) (front start rest behind : List ℕ) → CutAt text byte front rest → CutAt text byte start behind →
    (front ≡ start) × (rest ≡ behind)
one_cut text byte front start rest behind a b = same_cut byte front start rest behind a.first b.first (sym a.text_is ∙ b.text_is)

-- the cut at the first place of the byte
pub cut_there : (text : List ℕ) (byte place : ℕ) → position (λ b. b == byte) text ≡ Some place → CutAt text byte (take place text) (drop (place + 1) text)
cut_there text byte place there =
    let h = position-Some (λ b. b == byte) text place 0 there in
    let same : get_or text place 0 ≡ byte = eqb-true _ byte h.1 in
    let behind : drop place text ≡ byte ∷ drop (place + 1) text = rw (drop-cons text place 0 h.0, same, add-one) refl in
    record {
      text_is = sym (take-append-drop place text) ∙ ap (λ l. take place text ++ l) behind;
      first = list_all-from_AllPass (λ b. not (b == byte)) (take place text) (λ k d lt.
          let before : k < place = omega (arith, length-take place text, lt) in
          ap (λ b. not (b == byte)) (get_or-take place text k d before) ∙ ap not ((position-Some (λ b. b == byte) text place d there).2 k before));
    }

-- as slices have it
pub cut_sliced : (text : List ℕ) (byte place : ℕ) → position (λ b. b == byte) text ≡ Some place →
    CutAt text byte (take place text) (take (length text - (place + 1)) (drop (place + 1) text))
cut_sliced text byte place there =
    rw (take_all (length text - (place + 1)) (drop (place + 1) text) (omega (arith, length-drop (place + 1) text))) (cut_there text byte place there)

pub cut_nowhere : (text : List ℕ) (byte : ℕ) → position (λ b. b == byte) text ≡ None → (front rest : List ℕ) → text ≢ front ++ byte ∷ rest
cut_nowhere text byte none front rest is =
    let p : ℕ → Bool = λ b. b == byte in
    let there : p (get_or text (length front) 0) ≡ true =
    ap (λ l. p (get_or l (length front) 0)) is ∙ ap p (get_or-append_seam front byte rest 0) ∙ (Decides-eqb byte byte).1 refl in
    let inside : length front < length text = rw is (omega (arith, length-append front (byte ∷ rest))) in
    elim (cases_lt (position_or_len p text) (length text)) [
      | inl less ↦ absurd (none-some _ (sym none ∙ cond-true _ _ _ (lt-ltb _ _ less)))
      | inr all ↦ absurd (both_ways (p (get_or text (length front) 0)) (fails_before_first p text (length front) 0 (omega arith)) there)
    ]

-- brackets: the cut at the first one, and what stands before the last byte
pub bracketed_cut : (text word rest arguments : List ℕ) → CutAt text 40 word rest → rest ≡ arguments ++ codes ")" → Bracketed text word arguments
bracketed_cut text word rest arguments cut is = record {
  text_is = cut.text_is ∙ ap (λ l. word ++ 40 ∷ l) is ∙ simp append_assoc;
  first = cut.first;
}

pub cut_bracketed : (text word arguments : List ℕ) → Bracketed text word arguments → CutAt text 40 word (arguments ++ codes ")")
cut_bracketed text word arguments brackets = record { text_is = brackets.text_is ∙ simp append_assoc; first = brackets.first }

-- a text has at most one word before its brackets, and one text in them
pub one_bracketed : (text word begin arguments inside : List ℕ) → Bracketed text word arguments → Bracketed text begin inside →
    (word ≡ begin) × (arguments ≡ inside)
one_bracketed text word begin arguments inside a b =
    let same = one_cut text 40 word begin _ _ (cut_bracketed text word arguments a) (cut_bracketed text begin inside b) in
    (same.0, append_cancel_right arguments inside (codes ")") same.1)

-- names have no space
pub lacks_name : (name : List ℕ) → IsTrue (is_name name) → Lacks name 32
lacks_name [] real = refl
lacks_name (b ∷ bs) real =
    let word = and_parts (is_letter b) (list_all is_name_byte bs) (and_parts _ _ (and_parts _ _ real).0).0 in
    lacks_if is_name_byte 32 refl (b ∷ bs) (and_from (is_name_byte b) (list_all is_name_byte bs) (letter_in_name b word.0) word.1)
  where
    letter_in_name : (c : ℕ) → is_letter c ≡ true → is_name_byte c ≡ true
    letter_in_name c letter = rw letter refl
