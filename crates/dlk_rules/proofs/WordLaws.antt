-- A rule is its word and its arguments, and a word has arguments of one shape.
use Rattle.std.proofs.Common.{◌≡◌, ◌≢◌, ℕ, Bool, true, List, [], ◌∷◌, Option, Some, None, refl, sym, ap, ◌∙◌, inl, inr}
use Rattle.std.specs.Prelude.{option_map, option_and_then, find, IfSome, IfNone}
use Rattle.std.specs.Str.{bytes_eq}
use Rattle.std.proofs.lemmas.Bool.{cases_Bool, cond-true, cond-false}
use Rattle.std.proofs.lemmas.Option.{none-some, same_Some}
use Rattle.std.proofs.lemmas.Slice.Eq.{bytes_eq-Decides}
use Rattle.dlk_calculus.specs.Rules.{Rule, Close, Arguments, OnePlace, TwoPlaces, PlaceAndFormula, OneFormula, PlaceAndName, word_of, arguments_of}
use Rattle.dlk_rules.specs.declared.rule.RuleWord.{RuleWord}
use Rattle.dlk_rules.specs.declared.rule.RuleWord.TheVariants as word
use Rattle.dlk_rules.specs.Steps.{Template, WantsPlace, WantsTwoPlaces, WantsPlaceAndFormula, WantsFormula, WantsPlaceAndName, template}
use Rattle.dlk_rules.specs.Words.{shape_of, text_made, text_of, wanted_by, wanted, rule_words, named}

-- a template with arguments of its shape
abbrev filled : Template → Arguments → Option Rule
filled (WantsPlace make) (OnePlace i) = Some (make i)
filled (WantsTwoPlaces make) (TwoPlaces i k) = Some (make i k)
filled (WantsPlaceAndFormula make) (PlaceAndFormula i h) = Some (make i h)
filled (WantsFormula make) (OneFormula h) = Some (make h)
filled (WantsPlaceAndName make) (PlaceAndName i y) = Some (make i y)
filled _ _ = None

abbrev called : List ℕ → Arguments → Option Rule
called text arguments = option_and_then (λ w. filled (template w) arguments) (named text)

-- a rule is found by its word and its arguments
rule_called : (rule : Rule) → called (word_of rule) (arguments_of rule) ≡ Some rule
rule_called (Close i j) = refl
rule_called _ = refl

-- and their shape by its word
shape_named : (rule : Rule) → option_map wanted (named (word_of rule)) ≡ Some (shape_of (arguments_of rule))
shape_named (Close i j) = refl
shape_named _ = refl

pub word_named : (w : RuleWord) → named (text_of w) ≡ Some w
word_named word.Close = refl
word_named _ = refl

pub one_rule : (r s : Rule) → word_of r ≡ word_of s → arguments_of r ≡ arguments_of s → r ≡ s
one_rule r s e a = same_Some r s (sym (rule_called r) ∙ (λ n. called (e n) (a n)) ∙ rule_called s)

pub one_shape : (r s : Rule) → word_of r ≡ word_of s → shape_of (arguments_of r) ≡ shape_of (arguments_of s)
one_shape r s e = same_Some _ _ (sym (shape_named r) ∙ ap (λ text. option_map wanted (named text)) e ∙ shape_named s)

pub shape_wanted : (w : RuleWord) (rule : Rule) → word_of rule ≡ text_of w → shape_of (arguments_of rule) ≡ wanted w
shape_wanted w rule e = same_Some _ _ (sym (shape_named rule) ∙ ap (λ text. option_map wanted (named text)) e ∙ ap (option_map wanted) (word_named w))

-- a word and arguments
record Parts : Type 0 where
  word : List ℕ
  arguments : Arguments

abbrev parts_of : Rule → Parts
parts_of rule = record { word = word_of rule; arguments = arguments_of rule }

-- those of what a template makes of arguments of its shape
abbrev parts_made : Template → Arguments → Option Parts
parts_made (WantsPlace make) (OnePlace i) = Some (record { word = text_made (WantsPlace make); arguments = OnePlace i })
parts_made (WantsTwoPlaces make) (TwoPlaces i k) = Some (record { word = text_made (WantsTwoPlaces make); arguments = TwoPlaces i k })
parts_made (WantsPlaceAndFormula make) (PlaceAndFormula i h) = Some (record { word = text_made (WantsPlaceAndFormula make); arguments = PlaceAndFormula i h })
parts_made (WantsFormula make) (OneFormula h) = Some (record { word = text_made (WantsFormula make); arguments = OneFormula h })
parts_made (WantsPlaceAndName make) (PlaceAndName i y) = Some (record { word = text_made (WantsPlaceAndName make); arguments = PlaceAndName i y })
parts_made _ _ = None

made_of_parts : (w : RuleWord) (a : Arguments) → option_map parts_of (filled (template w) a) ≡ parts_made (template w) a
made_of_parts word.Close (OnePlace i) = refl
made_of_parts word.Close _ = refl
made_of_parts _ (OnePlace i) = refl
made_of_parts _ _ = refl

fitting : (t : Template) (a : Arguments) → wanted_by t ≡ shape_of a → parts_made t a ≡ Some (record { word = text_made t; arguments = a })
fitting (WantsPlace make) (OnePlace i) e = refl
fitting (WantsTwoPlaces make) (TwoPlaces i k) e = refl
fitting (WantsPlaceAndFormula make) (PlaceAndFormula i h) e = refl
fitting (WantsFormula make) (OneFormula h) e = refl
fitting (WantsPlaceAndName make) (PlaceAndName i y) e = refl
fitting _ _ e = cc

-- a word and arguments of the shape that it wants are those of a rule
pub rule_made : (w : RuleWord) (a : Arguments) → wanted w ≡ shape_of a → (made : Rule) × (word_of made ≡ text_of w) × (arguments_of made ≡ a)
rule_made w a e = go (filled (template w) a) (made_of_parts w a ∙ fitting (template w) a e)
  where
    go : (o : Option Rule) → option_map parts_of o ≡ Some (record { word = text_of w; arguments = a }) →
        (made : Rule) × (word_of made ≡ text_of w) × (arguments_of made ≡ a)
    go None same = absurd (none-some (record { word = text_of w; arguments = a }) same)
    go (Some made) same =
        let parts : parts_of made ≡ record { word = text_of w; arguments = a } = same_Some _ _ same in
        (made, ap (λ (p : Parts). p.word) parts, ap (λ (p : Parts). p.arguments) parts)

-- what is found passes the test
passes : (p : RuleWord → Bool) (ws : List RuleWord) (w : RuleWord) → find p ws ≡ Some w → p w ≡ true
passes p [] w e = absurd (none-some w e)
passes p (v ∷ vs) w e =
    elim (cases_Bool (p v)) [
      | inl same ↦ let found : v ≡ w = same_Some v w (sym (cond-true (p v) (Some v) (find p vs) same) ∙ e) in ap p (sym found) ∙ same
      | inr other ↦ passes p vs w (sym (cond-false (p v) (Some v) (find p vs) other) ∙ e)
    ]

-- the word that is found is the text, and where none is found no rule has it
pub found_word : (text : List ℕ) (found : Option RuleWord) → found ≡ named text → IfSome found (λ w. text_of w ≡ text)
found_word text None e = tt
found_word text (Some w) e = (bytes_eq-Decides (text_of w) text).0 (passes (λ v. bytes_eq (text_of v) text) rule_words w (sym e))

pub no_such_word : (text : List ℕ) (found : Option RuleWord) → found ≡ named text → IfNone found ((rule : Rule) → word_of rule ≢ text)
no_such_word text (Some w) e = tt
no_such_word text None e = λ rule same.
    none-some (shape_of (arguments_of rule)) (ap (option_map wanted) e ∙ ap (λ t. option_map wanted (named t)) (sym same) ∙ shape_named rule)

-- where a text is none of the words, no rule has it
pub no_rule_named : (text : List ℕ) → ((w : RuleWord) → text_of w ≢ text) → (rule : Rule) → word_of rule ≢ text
no_rule_named text none rule same = go (named (word_of rule)) refl
  where
    go : (o : Option RuleWord) → o ≡ named (word_of rule) → ⊥
    go None e = no_such_word (word_of rule) None e rule refl
    go (Some w) e = none w (found_word (word_of rule) (Some w) e ∙ same)
