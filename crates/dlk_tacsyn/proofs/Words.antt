-- The rows of names: those of a text, and those of each doer.
use Rattle.std.proofs.Common.{◌≡◌, ◌≢◌, ℕ, zero, suc, ◌<◌, ◌≤◌, Bool, true, false, List, [], ◌∷◌, Option, Some, None, refl, sym, ap, ◌∙◌, ◌⊎◌, inl, inr, arith}
use Rattle.std.specs.Prelude.{option_map, IsTrue, ◌||◌, ◌==◌, if◌then◌else◌, bytes_eq, codes}
use Rattle.std.specs.Str.{IsAscii, IsUtf8}
use Rattle.std.specs.List.{list_all}
use Rattle.std.proofs.lemmas.Bool.{and_parts, leb-true, or_cases}
use Rattle.std.proofs.lemmas.Option.{none-some, same_Some}
use Rattle.std.proofs.lemmas.Slice.Eq.{bytes_eq-Decides}
use Rattle.std.proofs.lemmas.Str.{IsUtf8-from_ascii}
use Rattle.dlk_tree.specs.Names.{is_between, is_letter, is_name_byte, is_word, is_name}
use Rattle.dlk_tree.specs.declared.op.Op.TheVariants.{True}
use Rattle.dlk_calculus.specs.Notation.{leaf}
use Rattle.dlk_calculus.specs.Rules.{Rule, word_of}
use Rattle.dlk_rules.specs.declared.rule.RuleWord.{RuleWord}
use Rattle.dlk_rules.specs.declared.rule.RuleWord.TheVariants as word
use Rattle.dlk_rules.specs.Steps.{Template, WantsPlace, WantsTwoPlaces, WantsPlaceAndFormula, WantsFormula, WantsPlaceAndName, template}
use Rattle.dlk_rules.specs.Words.{text_made, text_of, wanted, named}
use Rattle.dlk_rules.proofs.WordLaws.{found_word}
use Rattle.dlk_tacsyn.specs.declared.kind.Kind.TheVariants.{FixedPlace, AnyPlace, QuotedFormula, QuotedTerm, AName, QuotedExtra}
use Rattle.dlk_tacsyn.specs.Rows.{Row, wants, is_bare, is_use, is_at_place, is_with_formula, kinds_of, Doer, Elaborator, Library, Run, Entry}
use Rattle.dlk_tacsyn.specs.Rows.{rule_entry, entry_of, row_if, row_by, row_found, row_of, library_row_of, derive_row_of, text_row_of}

-- some rule has the word
some_rule : Template → Rule
some_rule (WantsPlace make) = make 0
some_rule (WantsTwoPlaces make) = make 0 0
some_rule (WantsPlaceAndFormula make) = make 0 (leaf True)
some_rule (WantsFormula make) = make (leaf True)
some_rule (WantsPlaceAndName make) = make 0 []

word_made : (made : Template) → word_of (some_rule made) ≡ text_made made
unfolding some_rule
word_made (WantsPlace make) = refl
word_made (WantsTwoPlaces make) = refl
word_made (WantsPlaceAndFormula make) = refl
word_made (WantsFormula make) = refl
word_made (WantsPlaceAndName make) = refl

unnamed : (name : List ℕ) → ((rule : Rule) → word_of rule ≢ name) → named name ≡ None
unnamed name none = by (named name) refl
  where
    by : (found : Option RuleWord) → named name ≡ found → named name ≡ None
    by None e = e
    by (Some w) e =
        absurd (none (some_rule (template w)) (word_made (template w) ∙ found_word name (Some w) (sym e)))

row_of_word : (w : RuleWord) → row_found (rule_entry (text_of w)) ≡ Some (wants (kinds_of (wanted w)))
row_of_word word.Close = refl
row_of_word _ = refl

row_of_none : (o : Option RuleWord) → o ≡ None → row_found (option_map (λ w. record { by = Elaborator; row = wants (kinds_of (wanted w)) }) o) ≡ None
row_of_none None e = refl
row_of_none (Some w) e = absurd (none-some w (sym e))

-- ---- names in a text

pub text_bare : (name : List ℕ) → is_bare name ≡ true → text_row_of name ≡ Some (wants [])
unfolding text_row_of
text_bare name bare = simp (bare)

module _ (name : List ℕ) (bare : is_bare name ≡ false) where
  pub text_generalized : bytes_eq name (codes "G") ≡ true → text_row_of name ≡ Some (wants (AnyPlace ∷ []))
  unfolding text_row_of
  text_generalized same = simp (bare, same)

  module _ (no_generalize : bytes_eq name (codes "G") ≡ false) where
    pub text_box_cut : bytes_eq name (codes "boxCut") ≡ true → text_row_of name ≡ Some (wants (QuotedFormula ∷ AnyPlace ∷ []))
    unfolding text_row_of
    text_box_cut same = simp (bare, no_generalize, same)

    module _ (no_cut : bytes_eq name (codes "boxCut") ≡ false) where
      pub text_use : is_use name ≡ true → text_row_of name ≡ Some (record { wanted = AName ∷ AnyPlace ∷ []; optional = Some QuotedExtra })
      unfolding text_row_of
      text_use uses = simp (bare, no_generalize, no_cut, uses)

      module _ (no_use : is_use name ≡ false) where
        pub text_prop : bytes_eq name (codes "prop") ≡ true → text_row_of name ≡ Some (wants [])
        unfolding text_row_of
        text_prop same = simp (bare, no_generalize, no_cut, no_use, same)

        module _ (no_prop : bytes_eq name (codes "prop") ≡ false) where
          pub text_at_place : is_at_place name ≡ true → text_row_of name ≡ Some (wants (FixedPlace ∷ []))
          unfolding text_row_of
          text_at_place at = simp (bare, no_generalize, no_cut, no_use, no_prop, at)

          module _ (no_place : is_at_place name ≡ false) where
            pub text_with_formula : is_with_formula name ≡ true → text_row_of name ≡ Some (wants (QuotedFormula ∷ FixedPlace ∷ []))
            unfolding text_row_of
            text_with_formula takes = simp (bare, no_generalize, no_cut, no_use, no_prop, no_place, takes)

            module _ (no_formula : is_with_formula name ≡ false) where
              pub text_ghost : bytes_eq name (codes "dG") ≡ true →
                  text_row_of name ≡ Some (wants (AName ∷ QuotedTerm ∷ QuotedTerm ∷ FixedPlace ∷ []))
              unfolding text_row_of
              text_ghost same = simp (bare, no_generalize, no_cut, no_use, no_prop, no_place, no_formula, same)

              module _ (no_ghost : bytes_eq name (codes "dG") ≡ false) where
                pub text_derive : bytes_eq name (codes "derive") ≡ true → text_row_of name ≡ Some (wants (FixedPlace ∷ []))
                unfolding text_row_of
                text_derive same = simp (bare, no_generalize, no_cut, no_use, no_prop, no_place, no_formula, no_ghost, same)

                pub text_other : bytes_eq name (codes "derive") ≡ false → text_row_of name ≡ row_found (rule_entry name)
                unfolding text_row_of
                text_other other = simp (bare, no_generalize, no_cut, no_use, no_prop, no_place, no_formula, no_ghost, other)

-- the row of a rule's word
pub rule_named : (name : List ℕ) (w : RuleWord) → text_of w ≡ name → row_found (rule_entry name) ≡ Some (wants (kinds_of (wanted w)))
rule_named name w same = ap (λ n. row_found (rule_entry n)) (sym same) ∙ row_of_word w

pub rule_unnamed : (name : List ℕ) → ((rule : Rule) → word_of rule ≢ name) → row_found (rule_entry name) ≡ None
rule_unnamed name none = row_of_none (named name) (unnamed name none)

-- a name in a text is of one of the three
pub some_row : (name : List ℕ) (row : Row) → text_row_of name ≡ Some row →
    (row_of name ≡ Some row) ⊎ ((library_row_of name ≡ Some row) ⊎ (derive_row_of name ≡ Some row))
unfolding text_row_of row_of library_row_of derive_row_of
some_row name row is = by (entry_of name) is
  where
    of : (doer : Doer) (found : Row) → Some found ≡ Some row →
        (row_if Elaborator doer found ≡ Some row) ⊎ ((row_if Library doer found ≡ Some row) ⊎ (row_if Run doer found ≡ Some row))
    of Elaborator found e = inl e
    of Library found e = inr (inl e)
    of Run found e = inr (inr e)

    by : (o : Option Entry) → row_found o ≡ Some row →
        (row_by Elaborator o ≡ Some row) ⊎ ((row_by Library o ≡ Some row) ⊎ (row_by Run o ≡ Some row))
    by None e = absurd (none-some row e)
    by (Some found) e = of found.by found.row e

-- ---- one column

-- a row of another is passed over, where nothing is wanted of its name
skipped : (doer other : Doer) → ((row : Row) → row_if doer other row ≡ None) → (goal : Option Row) (is : Bool) (row : Row) (rest : Option Entry) →
    (is ≡ true → goal ≡ None) → row_by doer rest ≡ goal → row_by doer (if is then Some (record { by = other; row = row }) else rest) ≡ goal
skipped doer other unlike goal true row rest none there = unlike row ∙ sym (none refl)
skipped doer other unlike goal false row rest none there = there

-- and so is one of another name
missed : (doer : Doer) (goal : Option Row) (is : Bool) (found rest : Option Entry) → is ≡ false → row_by doer rest ≡ goal →
    row_by doer (if is then found else rest) ≡ goal
missed doer goal is found rest e there = ap (λ t. row_by doer (if t then found else rest)) e ∙ there

-- the rows of rules are the elaborator's
rules_own : (o : Option RuleWord) → row_by Elaborator (option_map (λ word. record { by = Elaborator; row = wants (kinds_of (wanted word)) }) o)
    ≡ option_map (λ word. wants (kinds_of (wanted word))) o
rules_own None = refl
rules_own (Some word) = refl

rules_skipped : (doer : Doer) → ((row : Row) → row_if doer Elaborator row ≡ None) → (o : Option RuleWord) →
    row_by doer (option_map (λ word. record { by = Elaborator; row = wants (kinds_of (wanted word)) }) o) ≡ None
rules_skipped doer unlike None = refl
rules_skipped doer unlike (Some word) = unlike (wants (kinds_of (wanted word)))

-- a word that is no rule's
no_word : (name word : List ℕ) → named word ≡ None → bytes_eq name word ≡ true → option_map (λ v. wants (kinds_of (wanted v))) (named name) ≡ None
no_word name word none same =
    ap (λ n. option_map (λ v. wants (kinds_of (wanted v))) (named n)) ((bytes_eq-Decides name word).0 same)
    ∙ ap (option_map (λ v. wants (kinds_of (wanted v)))) none

no_place_word : (name : List ℕ) → is_at_place name ≡ true → option_map (λ v. wants (kinds_of (wanted v))) (named name) ≡ None
no_place_word name is =
    elim (or_cases (bytes_eq name (codes "dW") || bytes_eq name (codes "dI")) (bytes_eq name (codes "step")) is) [
      | inl first ↦ elim (or_cases (bytes_eq name (codes "dW")) (bytes_eq name (codes "dI")) first) [
        | inl same ↦ no_word name (codes "dW") refl same
        | inr same ↦ no_word name (codes "dI") refl same
      ]
      | inr same ↦ no_word name (codes "step") refl same
    ]

no_formula_word : (name : List ℕ) → is_with_formula name ≡ true → option_map (λ v. wants (kinds_of (wanted v))) (named name) ≡ None
no_formula_word name is =
    elim (or_cases (bytes_eq name (codes "loop")) (bytes_eq name (codes "dC")) is) [
      | inl same ↦ no_word name (codes "loop") refl same
      | inr same ↦ no_word name (codes "dC") refl same
    ]

-- what a name that is none of the others wants of the elaborator, it wants as a rule's
pub row_rule : (name : List ℕ) → is_bare name ≡ false → bytes_eq name (codes "G") ≡ false → bytes_eq name (codes "boxCut") ≡ false →
    is_use name ≡ false → row_of name ≡ option_map (λ v. wants (kinds_of (wanted v))) (named name)
unfolding row_of
row_rule name bare no_generalize no_cut no_use =
    let goal : Option Row = option_map (λ v. wants (kinds_of (wanted v))) (named name) in
    let library = skipped Elaborator Library (λ row. refl) goal in
    missed Elaborator goal (is_bare name) _ _ bare
    (missed Elaborator goal (bytes_eq name (codes "G")) _ _ no_generalize
    (missed Elaborator goal (bytes_eq name (codes "boxCut")) _ _ no_cut
    (missed Elaborator goal (is_use name) _ _ no_use
    (library (bytes_eq name (codes "prop")) _ _ (no_word name (codes "prop") refl)
    (library (is_at_place name) _ _ (no_place_word name)
    (library (is_with_formula name) _ _ (no_formula_word name)
    (library (bytes_eq name (codes "dG")) _ _ (no_word name (codes "dG") refl)
    (skipped Elaborator Run (λ row. refl) goal (bytes_eq name (codes "derive")) _ _ (no_word name (codes "derive") refl) (rules_own (named name))))))))))

-- no name but these is in the library
pub library_none : (name : List ℕ) → bytes_eq name (codes "prop") ≡ false → is_at_place name ≡ false → is_with_formula name ≡ false →
    bytes_eq name (codes "dG") ≡ false → library_row_of name ≡ None
unfolding library_row_of
library_none name no_prop no_place no_formula no_ghost =
    let own = skipped Library Elaborator (λ row. refl) None in
    own (is_bare name) _ _ (λ e. refl)
    (own (bytes_eq name (codes "G")) _ _ (λ e. refl)
    (own (bytes_eq name (codes "boxCut")) _ _ (λ e. refl)
    (own (is_use name) _ _ (λ e. refl)
    (missed Library None (bytes_eq name (codes "prop")) _ _ no_prop
    (missed Library None (is_at_place name) _ _ no_place
    (missed Library None (is_with_formula name) _ _ no_formula
    (missed Library None (bytes_eq name (codes "dG")) _ _ no_ghost
    (skipped Library Run (λ row. refl) None (bytes_eq name (codes "derive")) _ _ (λ e. refl) (rules_skipped Library (λ row. refl) (named name))))))))))

-- the run plans for `derive` alone
derive_none : (name : List ℕ) → bytes_eq name (codes "derive") ≡ false → derive_row_of name ≡ None
unfolding derive_row_of
derive_none name other =
    let own = skipped Run Elaborator (λ row. refl) None in
    let library = skipped Run Library (λ row. refl) None in
    own (is_bare name) _ _ (λ e. refl)
    (own (bytes_eq name (codes "G")) _ _ (λ e. refl)
    (own (bytes_eq name (codes "boxCut")) _ _ (λ e. refl)
    (own (is_use name) _ _ (λ e. refl)
    (library (bytes_eq name (codes "prop")) _ _ (λ e. refl)
    (library (is_at_place name) _ _ (λ e. refl)
    (library (is_with_formula name) _ _ (λ e. refl)
    (library (bytes_eq name (codes "dG")) _ _ (λ e. refl)
    (missed Run None (bytes_eq name (codes "derive")) _ _ other (rules_skipped Run (λ row. refl) (named name))))))))))

derive_row : derive_row_of (codes "derive") ≡ Some (wants (FixedPlace ∷ []))
unfolding derive_row_of
derive_row = refl

pub derive_found : (name : List ℕ) (row : Row) → derive_row_of name ≡ Some row → (bytes_eq name (codes "derive") ≡ true) × (row ≡ wants (FixedPlace ∷ []))
derive_found name row is = by (bytes_eq name (codes "derive")) refl
  where
    by : (same : Bool) → bytes_eq name (codes "derive") ≡ same → (bytes_eq name (codes "derive") ≡ true) × (row ≡ wants (FixedPlace ∷ []))
    by true e = (e, same_Some _ _ (sym is ∙ ap derive_row_of ((bytes_eq-Decides name (codes "derive")).0 e) ∙ derive_row))
    by false e = absurd (none-some row (sym (derive_none name e) ∙ is))

-- names are texts
between_low : (low high c : ℕ) → high < 128 → is_between low high c ≡ true → c < 128
between_low low high c small h = let most : c ≤ high = leb-true c high (and_parts _ _ h).1 in omega arith

letter_low : (c : ℕ) → is_letter c ≡ true → c < 128
letter_low c h = elim (or_cases (is_between 65 90 c) (is_between 97 122 c) h) [
  | inl upper ↦ between_low 65 90 c (omega arith) upper
  | inr lower ↦ between_low 97 122 c (omega arith) lower
]

byte_low : (c : ℕ) → is_name_byte c ≡ true → c < 128
byte_low c h = elim (or_cases (is_letter c || is_between 48 57 c) (c == 95) h) [
  | inl other ↦ elim (or_cases (is_letter c) (is_between 48 57 c) other) [
    | inl letter ↦ letter_low c letter
    | inr digit ↦ between_low 48 57 c (omega arith) digit
  ]
  | inr same ↦ let e : c ≡ 95 = grind (arith) in omega arith
]

ascii_front : (b : ℕ) (bs : List ℕ) → b < 128 → IsAscii bs → IsAscii (b ∷ bs)
ascii_front b bs low more zero = low
ascii_front b bs low more (suc i) = more i

ascii_bytes : (bs : List ℕ) → IsTrue (list_all is_name_byte bs) → IsAscii bs
ascii_bytes [] all = λ i. omega arith
ascii_bytes (b ∷ bs) all =
    let h = and_parts (is_name_byte b) (list_all is_name_byte bs) all in
    ascii_front b bs (byte_low b h.0) (ascii_bytes bs h.1)

ascii_word : (bs : List ℕ) → is_word bs ≡ true → IsAscii bs
ascii_word [] h = λ i. omega arith
ascii_word (b ∷ bs) h = let both = and_parts (is_letter b) (list_all is_name_byte bs) h in ascii_front b bs (letter_low b both.0) (ascii_bytes bs both.1)

pub name_utf8 : (name : List ℕ) → IsTrue (is_name name) → IsUtf8 name
name_utf8 name h = IsUtf8-from_ascii name (ascii_word name (and_parts _ _ (and_parts _ _ h).0).0)
