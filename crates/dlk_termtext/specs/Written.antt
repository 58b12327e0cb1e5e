-- The written form of lines, and which lines are read from it.
use Rattle.std.specs.Prelude.{ℕ, IsTrue, List, All}
use Rattle.dlk_tree.specs.Names.{is_name}
use Rattle.dlk_tree.specs.Trees.{Tree}
use Rattle.dlk_calculus.specs.Sequents.{Sequent, IsFormula, IsSequent}
use Rattle.dlk_calculus.specs.Rules.{Rule, Arguments, OnePlace, TwoPlaces, PlaceAndFormula, OneFormula, PlaceAndName, arguments_of}
use Rattle.dlk_calculus.specs.Steps.{Step, Start, UseAxiom, UseRule, Leaf, Apply, Merge, Substitute, Rename}
use Rattle.dlk_readback.specs.Readable.{IsWithinLimits, IsReadablePair}
use Rattle.dlk_lines.specs.Numbers.{IsLineNumber}
use Rattle.dlk_lines.specs.Spelled.{InFull}
use Rattle.dlk_lines.specs.Written.{line_text as text_of_line}

-- the line of a step and its number, with canonical texts
abbrev pub line_text : ℕ → Step → List ℕ
line_text number step = text_of_line InFull number step

-- Which lines are read from their written form.

-- a formula within the limits
pub record IsReadableFormula (h : Tree) : Type 0 where
  pub is_formula : IsFormula h
  pub limits : IsWithinLimits h

-- a sequent with each formula within the limits
pub record IsReadableSequent (s : Sequent) : Type 0 where
  pub is_sequent : IsSequent s
  pub ante : All IsWithinLimits s.ante
  pub succ : All IsWithinLimits s.succ

-- the places, the formula and the name of a rule are read
abbrev pub AreWritable : Arguments → Type 0
AreWritable (OnePlace i) = IsLineNumber i
AreWritable (TwoPlaces i k) = IsLineNumber i × IsLineNumber k
AreWritable (PlaceAndFormula i h) = IsLineNumber i × IsReadableFormula h
AreWritable (OneFormula h) = IsReadableFormula h
AreWritable (PlaceAndName i y) = IsLineNumber i × IsTrue (is_name y)

abbrev pub IsWritableRule : Rule → Type 0
IsWritableRule rule = AreWritable (arguments_of rule)

-- the numbers, the formulas and the names of a step are read
abbrev pub IsWritable : Step → Type 0
IsWritable (Start s) = IsReadableSequent s
IsWritable (UseAxiom name) = IsTrue (is_name name)
IsWritable (UseRule name) = IsTrue (is_name name)
IsWritable (Leaf s) = IsReadableSequent s
IsWritable (Apply fact goal rule) = IsLineNumber fact × IsLineNumber goal × IsWritableRule rule
IsWritable (Merge fact goal by) = IsLineNumber fact × IsLineNumber goal × IsLineNumber by
IsWritable (Substitute fact pairs) = IsLineNumber fact × All IsReadablePair pairs
IsWritable (Rename fact x y) = IsLineNumber fact × IsTrue (is_name x) × IsTrue (is_name y)
