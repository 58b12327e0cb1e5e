-- How many nodes a writer looks at, at most: in full each node of a formula once, and each node of a replacement twice; by the numbers of nodes
-- none.
use Rattle.std.specs.Prelude.{ℕ, ◌+◌, ◌*◌, sum_by, List}
use Rattle.dlk_tree.specs.Trees.{Tree, size}
use Rattle.dlk_calculus.specs.Pairs.{Pair}
use Rattle.dlk_calculus.specs.Sequents.{Sequent}
use Rattle.dlk_calculus.specs.Rules.{Rule, Arguments, OnePlace, TwoPlaces, PlaceAndFormula, OneFormula, PlaceAndName, arguments_of}
use Rattle.dlk_calculus.specs.Steps.{Step, Start, UseAxiom, UseRule, Leaf, Apply, Merge, Substitute, Rename}
use Rattle.dlk_lines.specs.Spelled.{Spelling, InFull, ByNodes}

abbrev pub sequent_looks : Spelling → Sequent → ℕ
sequent_looks InFull s = sum_by size s.ante + sum_by size s.succ
sequent_looks (ByNodes nodes) s = 0

abbrev pub pairs_looks : Spelling → List Pair → ℕ
pairs_looks InFull pairs = 2 * sum_by (λ p. size p.by) pairs
pairs_looks (ByNodes nodes) pairs = 0

abbrev pub formula_looks : Spelling → Tree → ℕ
formula_looks InFull h = size h
formula_looks (ByNodes nodes) h = 0

abbrev pub arguments_looks : Spelling → Arguments → ℕ
arguments_looks w (OnePlace i) = 0
arguments_looks w (TwoPlaces i k) = 0
arguments_looks w (PlaceAndFormula i h) = formula_looks w h
arguments_looks w (OneFormula h) = formula_looks w h
arguments_looks w (PlaceAndName i y) = 0

abbrev pub rule_looks : Spelling → Rule → ℕ
rule_looks w rule = arguments_looks w (arguments_of rule)

abbrev pub step_looks : Spelling → Step → ℕ
step_looks w (Start s) = sequent_looks w s
step_looks w (UseAxiom name) = 0
step_looks w (UseRule name) = 0
step_looks w (Leaf s) = sequent_looks w s
step_looks w (Apply fact goal rule) = rule_looks w rule
step_looks w (Merge fact goal by) = 0
step_looks w (Substitute fact pairs) = pairs_looks w pairs
step_looks w (Rename fact x y) = 0
