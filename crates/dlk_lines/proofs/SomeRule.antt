-- Whether a text is a rule is decided, where it is decided of texts of formulas.
use Rattle.std.proofs.Common.{◌≡◌, ℕ, List, Option, Some, None, refl, sym, subst, ◌∙◌}
use Rattle.dlk_tree.specs.Names.{is_name}
use Rattle.dlk_tree.specs.Trees.{Tree}
use Rattle.dlk_calculus.specs.Rules.{Rule, Arguments, OnePlace, TwoPlaces, PlaceAndFormula, OneFormula, PlaceAndName}
use Rattle.dlk_calculus.proofs.Decide.{is_true}
use Rattle.dlk_rules.specs.declared.arguments.Shape.{Shape}
use Rattle.dlk_rules.specs.declared.arguments.Shape.TheVariants as shape
use Rattle.dlk_rules.specs.declared.rule.RuleWord.{RuleWord}
use Rattle.dlk_rules.specs.Words.{shape_of, text_of, wanted, named}
use Rattle.dlk_rules.proofs.WordLaws.{rule_made, found_word, no_such_word}
use Rattle.dlk_lines.specs.Spelled.{Spelling, IsFormulaText}
use Rattle.dlk_lines.specs.Lines.{IsArguments, one_place, one_formula, IsRule}
use Rattle.dlk_lines.specs.Parts.{Bracketed}
use Rattle.dlk_lines.proofs.Forms.{argument_parts, two_places_are, place_and_formula_are, place_and_name_are, no_place_behind, no_formula_behind}
use Rattle.dlk_lines.proofs.Forms.{no_name_behind, Lack, lacking, made_rule, no_brackets, no_word, no_arguments}
use Rattle.dlk_lines.proofs.SomeParts.{number_decided, number_then_decided, bracketed_decided}

module _ (w : Spelling) (formula_decided : (text : List ℕ) → Dec ((h : Tree) × IsFormulaText w text h)) where
  abbrev Decided : List ℕ → Shape → Type 0
  Decided text s = Dec ((a : Arguments) × (s ≡ shape_of a) × IsArguments w text a)

  lacks : (text : List ℕ) (s : Shape) → Lack w text s → Decided text s
  lacks text s lack = no (λ h. lacking w text s lack h.0 h.1 h.2)

  arguments_decided : (text : List ℕ) (s : Shape) → Decided text s
  arguments_decided text shape.OnePlace = elim (number_decided text) [
    | yes n ↦ yes (OnePlace n.0, refl, one_place n.1)
    | no n ↦ lacks text shape.OnePlace (λ i is. n (i, is))
  ]
  arguments_decided text shape.TwoPlaces = elim (number_then_decided text 44 refl) [
    | no n ↦ lacks text shape.TwoPlaces (λ i k is. let p = argument_parts w text (TwoPlaces i k) is in n (i, p.0, p.1))
    | yes first ↦ elim (number_decided first.1) [
      | yes second ↦ yes (TwoPlaces first.0 second.0, refl, two_places_are w text first.1 first.0 second.0 first.2 second.1)
      | no n ↦ lacks text shape.TwoPlaces (no_place_behind w text first.1 first.0 first.2 (λ k is. n (k, is)))
    ]
  ]
  arguments_decided text shape.PlaceAndFormula = elim (number_then_decided text 44 refl) [
    | no n ↦ lacks text shape.PlaceAndFormula (λ i h is. let p = argument_parts w text (PlaceAndFormula i h) is in n (i, p.0, p.1))
    | yes first ↦ elim (formula_decided first.1) [
      | yes second ↦ yes (PlaceAndFormula first.0 second.0, refl, place_and_formula_are w text first.1 first.0 second.0 first.2 second.1)
      | no n ↦ lacks text shape.PlaceAndFormula (no_formula_behind w text first.1 first.0 first.2 (λ h is. n (h, is)))
    ]
  ]
  arguments_decided text shape.OneFormula = elim (formula_decided text) [
    | yes h ↦ yes (OneFormula h.0, refl, one_formula h.1)
    | no n ↦ lacks text shape.OneFormula (λ h is. n (h, is))
  ]
  arguments_decided text shape.PlaceAndName = elim (number_then_decided text 44 refl) [
    | no n ↦ lacks text shape.PlaceAndName (λ i y is. let p = argument_parts w text (PlaceAndName i y) is in n (i, y, p.0))
    | yes first ↦ elim (is_true (is_name first.1)) [
      | yes name ↦ yes (PlaceAndName first.0 first.1, refl, place_and_name_are w text first.1 first.0 first.2 name)
      | no n ↦ lacks text shape.PlaceAndName (no_name_behind w text first.1 first.0 first.2 n)
    ]
  ]

  pub rule_decided : (text : List ℕ) → Dec ((made : Rule) × IsRule w text made)
  rule_decided text = elim (bracketed_decided text) [
    | no n ↦ no (λ h. no_brackets w text (λ word arguments brackets. n (word, arguments, brackets)) h.0 h.1)
    | yes b ↦ by_word b.0 b.1 b.2 (named b.0) refl
  ]
    where
      by_word : (word arguments : List ℕ) → Bracketed text word arguments → (found : Option RuleWord) → found ≡ named word →
          Dec ((made : Rule) × IsRule w text made)
      by_word word arguments brackets None e = no (λ h. no_word w text word arguments brackets (no_such_word word None e) h.0 h.1)
      by_word word arguments brackets (Some of) e =
          let same : text_of of ≡ word = found_word word (Some of) e in
          elim (arguments_decided arguments (wanted of)) [
            | yes a ↦
                let made = rule_made of a.0 a.1 in
                yes (made.0, made_rule w text word arguments made.0 brackets (made.1 ∙ same) (subst (IsArguments w arguments) (sym made.2) a.2))
            | no n ↦ no (λ h. no_arguments w text word arguments of (wanted of) brackets same refl (λ a s is. n (a, s, is)) h.0 h.1)
          ]
