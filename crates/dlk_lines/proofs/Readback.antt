-- The written form of a step's line is read as that line, where its parts are.
use Rattle.std.proofs.Common.{ℕ}
use Rattle.dlk_calculus.specs.Rules.{Rule, Arguments, OnePlace, TwoPlaces, PlaceAndFormula, OneFormula, PlaceAndName, arguments_of}
use Rattle.dlk_calculus.specs.Steps.{Step, Start, UseAxiom, UseRule, Leaf, Apply, Merge, Substitute, Rename}
use Rattle.dlk_lines.specs.Numbers.{IsLineNumber}
use Rattle.dlk_lines.specs.Spelled.{Spelling}
use Rattle.dlk_lines.specs.Laws.{AreRead, IsRead}
use Rattle.dlk_lines.specs.Lines.{IsArguments, one_place, two_places, place_and_name, place_and_formula, one_formula, IsRule, rule}
use Rattle.dlk_lines.specs.Lines.{IsStep, start, use_axiom, use_rule, leaf, apply, merge, substitute, rename, IsStepLine, numbered}
use Rattle.dlk_lines.specs.Written.{formula_text, sequent_text, pairs_text, arguments_text, rule_text, step_text, line_text}
use Rattle.dlk_lines.proofs.NumberText.{number_read}

arguments_read : (w : Spelling) (arguments : Arguments) → AreRead w arguments → IsArguments w (arguments_text w arguments) arguments
arguments_read w (OnePlace i) h = one_place (number_read i h)
arguments_read w (TwoPlaces i k) h = two_places (number_read i h.0) (number_read k h.1)
arguments_read w (PlaceAndFormula i f) h = place_and_formula (formula_text w f) (number_read i h.0) h.1
arguments_read w (OneFormula f) h = one_formula h
arguments_read w (PlaceAndName i y) h = place_and_name y (number_read i h.0) h.1

-- a rule is read from its word and its arguments
rule_read : (w : Spelling) (r : Rule) → AreRead w (arguments_of r) → IsRule w (rule_text w r) r
rule_read w r h = rule r (arguments_read w (arguments_of r) h)

-- a step is read from its word and what it wants behind it
pub step_read : (w : Spelling) (step : Step) → IsRead w step → IsStep w (step_text w step) step
step_read w (Start s) h = start (sequent_text w s) h
step_read w (UseAxiom name) h = use_axiom h
step_read w (UseRule name) h = use_rule h
step_read w (Leaf s) h = leaf (sequent_text w s) h
step_read w (Apply fact goal r) h = apply (number_read fact h.0) (number_read goal h.1) (rule_read w r h.2)
step_read w (Merge fact goal by) h = merge (number_read fact h.0) (number_read goal h.1) (number_read by h.2)
step_read w (Substitute fact pairs) h = substitute (pairs_text w pairs) (number_read fact h.0) h.1
step_read w (Rename fact x y) h = rename {x = x} {y = y} (number_read fact h.0) h.1 h.2

pub line_read : (w : Spelling) (number : ℕ) (step : Step) → IsLineNumber number → IsRead w step → IsStepLine w (line_text w number step) number step
line_read w number step n h = numbered (number_read number n) (step_read w step h)
