-- The places of a rule are on the side of its word, and each word but `close` has a side or wants a formula alone.
use Rattle.std.proofs.Common.{◌≡◌, ℕ, List, Option, Some, None, refl, sym, ap, subst, ◌∙◌, ◌⊎◌, inl, inr}
use Rattle.std.specs.Prelude.{◌↔◌, option_and_then}
use Rattle.std.proofs.lemmas.Option.{none-some}
use Rattle.dlk_tree.specs.Trees.{Tree}
use Rattle.dlk_calculus.specs.Places.{IsPlace}
use Rattle.dlk_calculus.specs.Rules.{Rule, Close, Cut, Arguments, OnePlace, TwoPlaces, PlaceAndFormula, OneFormula, PlaceAndName, figure, word_of, arguments_of}
use Rattle.dlk_rules.specs.declared.arguments.Shape.TheVariants as shape
use Rattle.dlk_rules.specs.declared.arguments.Side.{Side}
use Rattle.dlk_rules.specs.declared.arguments.Side.TheVariants.{Left, Right}
use Rattle.dlk_rules.specs.declared.rule.RuleWord.{RuleWord}
use Rattle.dlk_rules.specs.declared.rule.RuleWord.TheVariants as word
use Rattle.dlk_rules.specs.Steps.{side_of}
use Rattle.dlk_rules.specs.Words.{text_of, wanted, named, formulas_of, ArePlaces}
use Rattle.dlk_rules.proofs.WordLaws.{word_named}

-- the side of the word that a text is, if it has one
abbrev side_named : List ℕ → Option Side
side_named text = option_and_then side_of (named text)

-- the places of the rule are those of the side that its word has
abbrev AreOn : Rule → Option Side → Type 0
AreOn rule None = Unit {0}
AreOn rule (Some side) = (A S : List Tree) → (figure rule A S).places ↔ ArePlaces (formulas_of side A S) (arguments_of rule)

are_on : (rule : Rule) → AreOn rule (side_named (word_of rule))
are_on (Close i j) = tt
are_on (Cut h) = tt
are_on _ = λ A S. ((λ p. p), (λ p. p))

pub places_on_side : (word : RuleWord) (side : Side) (rule : Rule) → side_of word ≡ Some side → word_of rule ≡ text_of word →
    (A S : List Tree) → (figure rule A S).places ↔ ArePlaces (formulas_of side A S) (arguments_of rule)
places_on_side word side rule on same =
    let found : side_named (word_of rule) ≡ Some side = ap side_named same ∙ ap (option_and_then side_of) (word_named word) ∙ on in
    subst (AreOn rule) found (are_on rule)

-- each place among the arguments has this
abbrev pub EachPlace : (ℕ → Type 0) → Arguments → Type 0
EachPlace P (OnePlace i) = P i
EachPlace P (TwoPlaces i k) = P i × P k
EachPlace P (PlaceAndFormula i h) = P i
EachPlace P (OneFormula h) = Unit {0}
EachPlace P (PlaceAndName i y) = P i

-- what the places of both sides have, each place of a rule has
module _ (P : ℕ → Type 0) (A S : List Tree) (left : (i : ℕ) → IsPlace A i → P i) (right : (j : ℕ) → IsPlace S j → P j) where
  one_place : (side : Side) (i : ℕ) → IsPlace (formulas_of side A S) i → P i
  one_place Left i is = left i is
  one_place Right j is = right j is

  abbrev AreOnSide : Option Side → Arguments → Type 0
  AreOnSide None a = ⊥
  AreOnSide (Some side) a = ArePlaces (formulas_of side A S) a

  side_places : (side : Option Side) (a : Arguments) → AreOnSide side a → EachPlace P a
  side_places None a is = absurd is
  side_places (Some side) (OnePlace i) is = one_place side i is
  side_places (Some side) (TwoPlaces i k) is = (one_place side i is.0, one_place side k is.1)
  side_places (Some side) (PlaceAndFormula i h) is = one_place side i is
  side_places (Some side) (OneFormula h) is = tt
  side_places (Some side) (PlaceAndName i y) is = one_place side i is

  pub each_place : (rule : Rule) → (figure rule A S).places → EachPlace P (arguments_of rule)
  each_place (Close i j) is = (left i is.0, right j is.1)
  each_place (Cut h) is = tt
  each_place rule is = side_places (side_named (word_of rule)) (arguments_of rule) is

-- a word without a side is `close`, or wants a formula alone
pub no_side : (w : RuleWord) → side_of w ≡ None → (w ≡ word.Close) ⊎ (wanted w ≡ shape.OneFormula)
no_side word.Close e = inl refl
no_side word.Cut e = inr refl
no_side _ e = absurd (none-some _ (sym e))
