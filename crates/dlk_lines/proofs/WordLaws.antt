-- The words of rules.
use Rattle.std.proofs.Common.{◌≡◌, ℕ, zero, suc, ◌<◌, ◌≤◌, true, List, [], ◌∷◌, refl, inl, inr, arith}
use Rattle.std.specs.Prelude.{IsTrue}
use Rattle.std.specs.List.{list_all}
use Rattle.std.specs.Str.{IsAscii, IsUtf8}
use Rattle.std.proofs.lemmas.Bool.{cases_Bool, and_parts, leb-true}
use Rattle.std.proofs.lemmas.Str.{IsUtf8-from_ascii}
use Rattle.dlk_tree.specs.Names.{is_between, is_letter}
use Rattle.dlk_calculus.specs.Rules.{Rule, Close, word_of}
use Rattle.dlk_lines.specs.Parts.{Lacks}
use Rattle.dlk_lines.proofs.Cuts.{lacks_if}

-- the words are of letters
letters : (rule : Rule) → IsTrue (list_all is_letter (word_of rule))
letters (Close i j) = refl
letters _ = refl

pub word_lacks : (rule : Rule) → Lacks (word_of rule) 40
word_lacks rule = lacks_if is_letter 40 refl (word_of rule) (letters rule)

pub ascii : (word : List ℕ) → IsTrue (list_all is_letter word) → IsAscii word
ascii [] all = λ i. omega arith
ascii (b ∷ bs) all =
    let h = and_parts (is_letter b) (list_all is_letter bs) all in
    elim_index (letter_low b h.0) (ascii bs h.1)
  where
    letter_low : (c : ℕ) → is_letter c ≡ true → c < 128
    letter_low c letter =
        elim (cases_Bool (is_between 65 90 c)) [
          | inl upper ↦ let high : c ≤ 90 = leb-true c 90 (and_parts _ _ upper).1 in omega arith
          | inr other ↦
              let lower : is_between 97 122 c ≡ true = rw other at letter in
              let high : c ≤ 122 = leb-true c 122 (and_parts _ _ lower).1 in omega arith
        ]

    elim_index : b < 128 → IsAscii bs → IsAscii (b ∷ bs)
    elim_index low more zero = low
    elim_index low more (suc i) = more i

pub letters_utf8 : (word : List ℕ) → IsTrue (list_all is_letter word) → IsUtf8 word
letters_utf8 word all = IsUtf8-from_ascii word (ascii word all)
