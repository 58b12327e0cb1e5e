-- The step of a line is a proper one.
use Rattle.std.proofs.Common.{ℕ, List}
use Rattle.dlk_calculus.specs.Pairs.{Pair, AreWellMade}
use Rattle.dlk_calculus.specs.Rules.{Rule, Arguments, arguments_of, AreProper, IsProperRule}
use Rattle.dlk_calculus.specs.Steps.{Step, IsProper}
use Rattle.dlk_lines.specs.Spelled.{Spelling, ArePairsText}
use Rattle.dlk_lines.specs.Lines.{IsArguments, one_place, two_places, place_and_formula, one_formula, place_and_name, IsRule, rule}
use Rattle.dlk_lines.specs.Lines.{IsStep, start, use_axiom, use_rule, leaf, apply, merge, substitute, rename, IsStepLine, numbered}

arguments_proper : (w : Spelling) (text : List ℕ) (arguments : Arguments) → IsArguments w text arguments → AreProper arguments
arguments_proper w _ _ (one_place i) = tt
arguments_proper w _ _ (two_places i k) = tt
arguments_proper w _ _ (place_and_formula text i h) = tt
arguments_proper w _ _ (one_formula h) = tt
arguments_proper w _ _ (place_and_name y i real) = real

rule_proper : (w : Spelling) (text : List ℕ) (made : Rule) → IsRule w text made → IsProperRule made
rule_proper w _ _ (rule {arguments} made are) = arguments_proper w arguments (arguments_of made) are

module _ (w : Spelling) (well_made : (text : List ℕ) (pairs : List Pair) → ArePairsText w text pairs → AreWellMade pairs) where
  step_proper : (text : List ℕ) (step : Step) → IsStep w text step → IsProper step
  step_proper _ _ (start text s) = tt
  step_proper _ _ (use_axiom name) = tt
  step_proper _ _ (use_rule name) = tt
  step_proper _ _ (leaf text s) = tt
  step_proper _ _ (apply {r = text} {rule = made} f g is) = rule_proper w text made is
  step_proper _ _ (merge f g b) = tt
  step_proper _ _ (substitute {pairs} text f t) = well_made text pairs t
  step_proper _ _ (rename f x y) = (x, y)

  pub line_proper : (text : List ℕ) (number : ℕ) (step : Step) → IsStepLine w text number step → IsProper step
  line_proper _ _ _ (numbered {text} {step} n s) = step_proper text step s
