-- The step lines of a proof-term file, one case a form. How the trees of a step are spelled is a parameter.
use Rattle.std.specs.Prelude.{ℕ, IsTrue, List, ◌++◌, codes}
use Rattle.dlk_tree.specs.Names.{is_name}
use Rattle.dlk_tree.specs.Trees.{Tree}
use Rattle.dlk_calculus.specs.Sequents.{Sequent}
use Rattle.dlk_calculus.specs.Rules.{Rule, Arguments, OnePlace, TwoPlaces, PlaceAndFormula, OneFormula, PlaceAndName, word_of, arguments_of}
use Rattle.dlk_calculus.specs.Pairs.{Pair}
use Rattle.dlk_calculus.specs.Steps.{Step, Start, UseAxiom, UseRule, Leaf, Apply, Merge, Substitute, Rename}
use Rattle.dlk_lines.specs.Numbers.{IsNumber}
use Rattle.dlk_lines.specs.Spelled.{Spelling, IsSequentText, ArePairsText, IsFormulaText}

-- IsArguments spelling text arguments: what stands in the brackets behind the word of a rule
pub data IsArguments (spelling : Spelling) : List ℕ → Arguments → Type 0 where
  one_place : {i : List ℕ} {at : ℕ} → IsNumber i at → IsArguments spelling i (OnePlace at)
  two_places : {i k : List ℕ} {first second : ℕ} → IsNumber i first → IsNumber k second → IsArguments spelling (i ++ codes "," ++ k) (TwoPlaces first second)
  place_and_formula : {i : List ℕ} {at : ℕ} {h : Tree} (text : List ℕ) → IsNumber i at → IsFormulaText spelling text h →
      IsArguments spelling (i ++ codes "," ++ text) (PlaceAndFormula at h)
  one_formula : {text : List ℕ} {h : Tree} → IsFormulaText spelling text h → IsArguments spelling text (OneFormula h)
  place_and_name : {i : List ℕ} {at : ℕ} (y : List ℕ) → IsNumber i at → IsTrue (is_name y) → IsArguments spelling (i ++ codes "," ++ y) (PlaceAndName at y)

-- IsRule spelling text rule: the word of the rule, and its arguments in brackets
pub data IsRule (spelling : Spelling) : List ℕ → Rule → Type 0 where
  rule : {arguments : List ℕ} (made : Rule) → IsArguments spelling arguments (arguments_of made) →
      IsRule spelling (word_of made ++ codes "(" ++ arguments ++ codes ")") made

-- IsStep spelling text step: the word of the step, and what it wants behind it
pub data IsStep (spelling : Spelling) : List ℕ → Step → Type 0 where
  start : {s : Sequent} (sequent : List ℕ) → IsSequentText spelling sequent s → IsStep spelling (codes "start " ++ sequent) (Start s)
  use_axiom : {name : List ℕ} → IsTrue (is_name name) → IsStep spelling (codes "axiom " ++ name) (UseAxiom name)
  use_rule : {name : List ℕ} → IsTrue (is_name name) → IsStep spelling (codes "rule " ++ name) (UseRule name)
  leaf : {s : Sequent} (sequent : List ℕ) → IsSequentText spelling sequent s → IsStep spelling (codes "leaf " ++ sequent) (Leaf s)
  apply : {f g r : List ℕ} {fact goal : ℕ} {rule : Rule} → IsNumber f fact → IsNumber g goal → IsRule spelling r rule →
      IsStep spelling (codes "apply " ++ f ++ codes " " ++ g ++ codes " " ++ r) (Apply fact goal rule)
  merge : {f g b : List ℕ} {fact goal by : ℕ} → IsNumber f fact → IsNumber g goal → IsNumber b by →
      IsStep spelling (codes "merge " ++ f ++ codes " " ++ g ++ codes " " ++ b) (Merge fact goal by)
  -- the text of the pairs may be empty, and stands behind a space even so
  substitute : {f : List ℕ} {fact : ℕ} {pairs : List Pair} (text : List ℕ) → IsNumber f fact → ArePairsText spelling text pairs →
      IsStep spelling (codes "subst " ++ f ++ codes " " ++ text) (Substitute fact pairs)
  rename : {f x y : List ℕ} {fact : ℕ} → IsNumber f fact → IsTrue (is_name x) → IsTrue (is_name y) →
      IsStep spelling (codes "rename " ++ f ++ codes " " ++ x ++ codes " " ++ y) (Rename fact x y)

-- IsStepLine spelling text number step: a step with its number before it
pub data IsStepLine (spelling : Spelling) : List ℕ → ℕ → Step → Type 0 where
  numbered : {n text : List ℕ} {number : ℕ} {step : Step} → IsNumber n number → IsStep spelling text step →
      IsStepLine spelling (n ++ codes " " ++ text) number step
