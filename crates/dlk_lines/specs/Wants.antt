-- Which texts want memory. Each other one that says nothing is refused before any memory is taken. What may be wrong with a text that wants it
-- comes behind the parts that are said here.
use Rattle.std.specs.Prelude.{◌≡◌, ℕ, List, IsTrue, codes}
use Rattle.dlk_tree.specs.Names.{is_name}
use Rattle.dlk_rules.specs.declared.arguments.Shape.{Shape}
use Rattle.dlk_rules.specs.declared.arguments.Shape.TheVariants as shape
use Rattle.dlk_rules.specs.declared.rule.RuleWord.{RuleWord}
use Rattle.dlk_rules.specs.Words.{text_of, wanted}
use Rattle.dlk_lines.specs.Parts.{CutAt, NumberThen, Bracketed, FactGoal}

-- a number, the byte that ends it, and whatever comes then
abbrev pub BeginsWithNumber : List ℕ → ℕ → Type 0
BeginsWithNumber text stop = (n : ℕ) × (rest : List ℕ) × NumberThen text stop n rest

-- a place, a comma and a name
abbrev pub IsPlaceAndName : List ℕ → Type 0
IsPlaceAndName text = (place : ℕ) × (y : List ℕ) × NumberThen text 44 place y × IsTrue (is_name y)

-- arguments of this shape: places alone want none
abbrev pub ArgumentsWant : Shape → List ℕ → Type 0
ArgumentsWant shape.OnePlace text = ⊥
ArgumentsWant shape.TwoPlaces text = ⊥
ArgumentsWant shape.PlaceAndFormula text = BeginsWithNumber text 44
ArgumentsWant shape.OneFormula text = Unit {0}
ArgumentsWant shape.PlaceAndName text = IsPlaceAndName text

-- the word of a rule, and arguments in brackets
pub record RuleWants (text : List ℕ) : Type 0 where
  pub word : RuleWord
  pub arguments : List ℕ
  pub text_is : Bracketed text (text_of word) arguments
  pub arguments_want : ArgumentsWant (wanted word) arguments

-- a fact, a goal and a rule
pub record ApplyWants (text : List ℕ) : Type 0 where
  pub fact : ℕ
  pub goal : ℕ
  pub behind_goal : List ℕ
  pub numbers : FactGoal text fact goal behind_goal
  pub rule_wants : RuleWants behind_goal

-- a fact and two texts, of which the first is a name
pub record RenameWants (text : List ℕ) : Type 0 where
  pub fact : ℕ
  pub names : List ℕ
  pub x : List ℕ
  pub y : List ℕ
  pub fact_is : NumberThen text 32 fact names
  pub names_are : CutAt names 32 x y
  pub first_name : IsTrue (is_name x)

-- the word of a step, and what stands behind it: a merge wants none
pub data StepWants (word rest : List ℕ) : Type 0 where
  start : word ≡ codes "start" → StepWants word rest
  use_axiom : word ≡ codes "axiom" → IsTrue (is_name rest) → StepWants word rest
  use_rule : word ≡ codes "rule" → IsTrue (is_name rest) → StepWants word rest
  leaf : word ≡ codes "leaf" → StepWants word rest
  apply : word ≡ codes "apply" → ApplyWants rest → StepWants word rest
  substitute : word ≡ codes "subst" → BeginsWithNumber rest 32 → StepWants word rest
  rename : word ≡ codes "rename" → RenameWants rest → StepWants word rest

-- the same before they are told apart
pub record StepTextWants (text : List ℕ) : Type 0 where
  pub word : List ℕ
  pub rest : List ℕ
  pub text_is : CutAt text 32 word rest
  pub step_wants : StepWants word rest

-- a number and a step
pub record LineWants (line : List ℕ) : Type 0 where
  pub number : ℕ
  pub rest : List ℕ
  pub number_is : NumberThen line 32 number rest
  pub step_wants : StepTextWants rest
