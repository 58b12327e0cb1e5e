-- The written form of step lines: one space between the parts of a line, canonical texts, and no line feed.
use Rattle.std.specs.Prelude.{ℕ, suc, if◌then◌else◌, List, [], ◌∷◌, ◌++◌, map, codes}
use Rattle.std.specs.List.{join_by}
use Rattle.std.specs.Fmt.{decimal}
use Rattle.dlk_tree.specs.Trees.{Tree}
use Rattle.dlk_tree.specs.TreeTests.{tree_eq}
use Rattle.dlk_calculus.specs.Pairs.{Pair}
use Rattle.dlk_calculus.specs.Sequents.{Sequent}
use Rattle.dlk_calculus.specs.Rules.{Rule, Arguments, OnePlace, TwoPlaces, PlaceAndFormula, OneFormula, PlaceAndName, word_of, arguments_of}
use Rattle.dlk_calculus.specs.Steps.{Step, Start, UseAxiom, UseRule, Leaf, Apply, Merge, Substitute, Rename}
use Rattle.dlk_grammar.specs.Shown.{spell, shown, shown_sequent}
use Rattle.dlk_grammar.specs.Symbols.{shown_symbol, shown_pairs}
use Rattle.dlk_lines.specs.Spelled.{Spelling, InFull, ByNodes}

-- a word with arguments in brackets
abbrev pub call : List ℕ → List ℕ → List ℕ
call word arguments = word ++ codes "(" ++ arguments ++ codes ")"

-- two arguments
abbrev pub both : List ℕ → List ℕ → List ℕ
both first second = first ++ codes "," ++ second

-- where the node of the tree stands, counted from 0
abbrev pub place_of : List Tree → Tree → ℕ
place_of [] t = 0
place_of (n ∷ nodes) t = if tree_eq t n then 0 else suc (place_of nodes t)

-- the number of the tree's node
abbrev pub number_text : List Tree → Tree → List ℕ
number_text nodes t = decimal (suc (place_of nodes t))

-- numbers of nodes, each behind a space
abbrev pub numbers_text : List Tree → List Tree → List ℕ
numbers_text nodes [] = []
numbers_text nodes (t ∷ ts) = codes " " ++ number_text nodes t ++ numbers_text nodes ts

-- and each before a space
abbrev pub numbers_before : List Tree → List Tree → List ℕ
numbers_before nodes [] = []
numbers_before nodes (t ∷ ts) = number_text nodes t ++ codes " " ++ numbers_before nodes ts

abbrev pub pair_text : List Tree → Pair → List ℕ
pair_text nodes p = spell (shown_symbol p.sym) ++ codes "~>" ++ number_text nodes p.by

abbrev pub sequent_text : Spelling → Sequent → List ℕ
sequent_text InFull s = spell (shown_sequent s)
sequent_text (ByNodes nodes) s = numbers_before nodes s.ante ++ codes "==>" ++ numbers_text nodes s.succ

abbrev pub pairs_text : Spelling → List Pair → List ℕ
pairs_text InFull pairs = spell (shown_pairs pairs)
pairs_text (ByNodes nodes) pairs = join_by (pair_text nodes) (codes ",") pairs

abbrev pub formula_text : Spelling → Tree → List ℕ
formula_text InFull h = spell (shown h)
formula_text (ByNodes nodes) h = codes "#" ++ number_text nodes h

abbrev pub arguments_text : Spelling → Arguments → List ℕ
arguments_text w (OnePlace i) = decimal i
arguments_text w (TwoPlaces i k) = both (decimal i) (decimal k)
arguments_text w (PlaceAndFormula i h) = both (decimal i) (formula_text w h)
arguments_text w (OneFormula h) = formula_text w h
arguments_text w (PlaceAndName i y) = both (decimal i) y

-- a rule by its word and its arguments
abbrev pub rule_text : Spelling → Rule → List ℕ
rule_text w rule = call (word_of rule) (arguments_text w (arguments_of rule))

-- a step by its word and what it wants behind it
abbrev pub step_text : Spelling → Step → List ℕ
step_text w (Start s) = codes "start " ++ sequent_text w s
step_text w (UseAxiom name) = codes "axiom " ++ name
step_text w (UseRule name) = codes "rule " ++ name
step_text w (Leaf s) = codes "leaf " ++ sequent_text w s
step_text w (Apply fact goal rule) = codes "apply " ++ decimal fact ++ codes " " ++ decimal goal ++ codes " " ++ rule_text w rule
step_text w (Merge fact goal by) = codes "merge " ++ decimal fact ++ codes " " ++ decimal goal ++ codes " " ++ decimal by
step_text w (Substitute fact pairs) = codes "subst " ++ decimal fact ++ codes " " ++ pairs_text w pairs
step_text w (Rename fact x y) = codes "rename " ++ decimal fact ++ codes " " ++ x ++ codes " " ++ y

-- the line of a step and its number
abbrev pub line_text : Spelling → ℕ → Step → List ℕ
line_text w number step = decimal number ++ codes " " ++ step_text w step

-- the formulas and the replacements of a step, in the order written

abbrev pub trees_in : Sequent → List Tree
trees_in s = s.ante ++ s.succ

abbrev pub replacements_in : List Pair → List Tree
replacements_in pairs = map (λ p. p.by) pairs

abbrev pub formulas_in : Arguments → List Tree
formulas_in (OnePlace i) = []
formulas_in (TwoPlaces i k) = []
formulas_in (PlaceAndFormula i h) = h ∷ []
formulas_in (OneFormula h) = h ∷ []
formulas_in (PlaceAndName i y) = []

abbrev pub trees_of : Step → List Tree
trees_of (Start s) = trees_in s
trees_of (UseAxiom name) = []
trees_of (UseRule name) = []
trees_of (Leaf s) = trees_in s
trees_of (Apply fact goal rule) = formulas_in (arguments_of rule)
trees_of (Merge fact goal by) = []
trees_of (Substitute fact pairs) = replacements_in pairs
trees_of (Rename fact x y) = []
