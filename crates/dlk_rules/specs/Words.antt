-- The words and the arguments of rules.
use Rattle.std.specs.Prelude.{◌≡◌, ℕ, List, [], ◌∷◌, Option, find, bytes_eq}
use Rattle.dlk_tree.specs.declared.op.Op.TheVariants.{True}
use Rattle.dlk_tree.specs.Trees.{Tree}
use Rattle.dlk_store.specs.Stores.{IsId, tree}
use Rattle.dlk_calculus.specs.Notation.{leaf}
use Rattle.dlk_calculus.specs.Places.{IsPlace}
use Rattle.dlk_calculus.specs.Rules.{Arguments as TreeArguments, OnePlace, TwoPlaces, PlaceAndFormula, OneFormula, PlaceAndName, word_of, arguments_of}
use Rattle.dlk_rules.specs.declared.arguments.Side.{Side}
use Rattle.dlk_rules.specs.declared.arguments.Side.TheVariants.{Left, Right}
use Rattle.dlk_rules.specs.declared.arguments.Shape.{Shape}
use Rattle.dlk_rules.specs.declared.arguments.Shape.TheVariants as shape
use Rattle.dlk_rules.specs.declared.arguments.Arguments.{Arguments}
use Rattle.dlk_rules.specs.declared.arguments.Arguments.TheVariants as args
use Rattle.dlk_rules.specs.declared.rule.Rule.{Rule}
use Rattle.dlk_rules.specs.declared.rule.RuleWord.{RuleWord}
use Rattle.dlk_rules.specs.declared.rule.RuleWord.TheVariants as rule_word
use Rattle.dlk_rules.specs.Steps.{rule_at, RuleIsKnown, Template, WantsPlace, WantsTwoPlaces, WantsPlaceAndFormula, WantsFormula, WantsPlaceAndName, template}

-- the shape of arguments
abbrev pub shape_of : TreeArguments → Shape
shape_of (OnePlace i) = shape.OnePlace
shape_of (TwoPlaces i k) = shape.TwoPlaces
shape_of (PlaceAndFormula i h) = shape.PlaceAndFormula
shape_of (OneFormula h) = shape.OneFormula
shape_of (PlaceAndName i y) = shape.PlaceAndName

-- the arguments over the trees of their ids, where a name is found by this
abbrev pub arguments_at : {N : Type 0} → (N → List ℕ) → List Tree → Arguments N → TreeArguments
arguments_at name trees (args.OnePlace i) = OnePlace i
arguments_at name trees (args.TwoPlaces i k) = TwoPlaces i k
arguments_at name trees (args.PlaceAndFormula i h) = PlaceAndFormula i (tree trees h)
arguments_at name trees (args.OneFormula h) = OneFormula (tree trees h)
arguments_at name trees (args.PlaceAndName i y) = PlaceAndName i (name y)

-- their shape
abbrev pub shape_in : Arguments (List ℕ) → Shape
shape_in arguments = shape_of (arguments_at (λ y. y) [] arguments)

-- their ids are those of the store
abbrev pub ArgumentsAreKnown : {N : Type 0} → List Tree → Arguments N → Type 0
ArgumentsAreKnown trees (args.OnePlace i) = Unit {0}
ArgumentsAreKnown trees (args.TwoPlaces i k) = Unit {0}
ArgumentsAreKnown trees (args.PlaceAndFormula i h) = IsId trees h
ArgumentsAreKnown trees (args.OneFormula h) = IsId trees h
ArgumentsAreKnown trees (args.PlaceAndName i y) = Unit {0}

-- the word of each rule that a template makes
abbrev pub text_made : Template → List ℕ
text_made (WantsPlace make) = word_of (make 0)
text_made (WantsTwoPlaces make) = word_of (make 0 0)
text_made (WantsPlaceAndFormula make) = word_of (make 0 (leaf True))
text_made (WantsFormula make) = word_of (make (leaf True))
text_made (WantsPlaceAndName make) = word_of (make 0 [])

abbrev pub text_of : RuleWord → List ℕ
text_of word = text_made (template word)

-- the shape of the arguments of each rule that a template makes
abbrev pub wanted_by : Template → Shape
wanted_by (WantsPlace make) = shape.OnePlace
wanted_by (WantsTwoPlaces make) = shape.TwoPlaces
wanted_by (WantsPlaceAndFormula make) = shape.PlaceAndFormula
wanted_by (WantsFormula make) = shape.OneFormula
wanted_by (WantsPlaceAndName make) = shape.PlaceAndName

abbrev pub wanted : RuleWord → Shape
wanted word = wanted_by (template word)

-- the formulas of a side
abbrev pub formulas_of : Side → List Tree → List Tree → List Tree
formulas_of Left A S = A
formulas_of Right A S = S

-- each place among the arguments is one of these formulas
abbrev pub ArePlaces : List Tree → TreeArguments → Type 0
ArePlaces formulas (OnePlace i) = IsPlace formulas i
ArePlaces formulas (TwoPlaces i k) = IsPlace formulas i × IsPlace formulas k
ArePlaces formulas (PlaceAndFormula i h) = IsPlace formulas i
ArePlaces formulas (OneFormula h) = Unit {0}
ArePlaces formulas (PlaceAndName i y) = IsPlace formulas i

-- the words, each once
abbrev pub rule_words : List RuleWord
rule_words =
    rule_word.Close ∷ rule_word.CloseTrue ∷ rule_word.CloseFalse ∷ rule_word.NotL ∷ rule_word.NotR ∷ rule_word.AndL ∷ rule_word.AndR ∷ rule_word.OrL ∷
    rule_word.OrR ∷ rule_word.ImplyL ∷ rule_word.ImplyR ∷ rule_word.EquivL ∷ rule_word.EquivR ∷ rule_word.Cut ∷ rule_word.CutL ∷ rule_word.CutR ∷
    rule_word.HideL ∷ rule_word.HideR ∷ rule_word.CoHideR ∷ rule_word.ExchangeL ∷ rule_word.ExchangeR ∷ rule_word.SkolemL ∷ rule_word.SkolemR ∷
    rule_word.BoundL ∷ rule_word.BoundR ∷ rule_word.EquivifyR ∷ rule_word.CommuteEquivL ∷ rule_word.CommuteEquivR ∷ []

-- the word that a text is, if it is one
abbrev pub named : List ℕ → Option RuleWord
named text = find (λ w. bytes_eq (text_of w) text) rule_words

-- the rule has this word and these arguments, and is known where they are
pub record IsCall (trees : List Tree) (word : RuleWord) (arguments : Arguments (List ℕ)) (rule : Rule) : Type 0 where
  pub word_is : word_of (rule_at trees rule) ≡ text_of word
  pub arguments_are : arguments_of (rule_at trees rule) ≡ arguments_at (λ y. y) trees arguments
  pub known : ArgumentsAreKnown trees arguments → RuleIsKnown trees rule
