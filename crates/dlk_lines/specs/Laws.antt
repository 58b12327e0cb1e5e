-- What the laws of step lines ask of a spelling.
use Rattle.std.specs.Prelude.{◌≡◌, ℕ, List, ◌⊎◌, IsTrue}
use Rattle.dlk_tree.specs.Names.{is_name}
use Rattle.dlk_tree.specs.Trees.{Tree}
use Rattle.dlk_calculus.specs.Pairs.{Pair}
use Rattle.dlk_calculus.specs.Sequents.{Sequent}
use Rattle.dlk_calculus.specs.Rules.{Arguments, OnePlace, TwoPlaces, PlaceAndFormula, OneFormula, PlaceAndName, arguments_of}
use Rattle.dlk_calculus.specs.Steps.{Step, Start, UseAxiom, UseRule, Leaf, Apply, Merge, Substitute, Rename}
use Rattle.dlk_lines.specs.Numbers.{IsLineNumber}
use Rattle.dlk_lines.specs.Spelled.{Spelling, IsSequentText, ArePairsText, IsFormulaText}
use Rattle.dlk_lines.specs.Written.{sequent_text, pairs_text, formula_text}

-- a text says at most one sequent, one formula and one list of pairs
pub record SaysOne (spelling : Spelling) : Type 0 where
  pub one_sequent : (text : List ℕ) (s t : Sequent) → IsSequentText spelling text s → IsSequentText spelling text t → s ≡ t
  pub one_formula : (text : List ℕ) (g h : Tree) → IsFormulaText spelling text g → IsFormulaText spelling text h → g ≡ h
  pub one_list : (text : List ℕ) (a b : List Pair) → ArePairsText spelling text a → ArePairsText spelling text b → a ≡ b

-- a text says one of each, or it says none
pub record SaysOrNot (spelling : Spelling) : Type 0 where
  pub some_sequent : (text : List ℕ) → ((s : Sequent) × IsSequentText spelling text s) ⊎ ((s : Sequent) → ¬ IsSequentText spelling text s)
  pub some_formula : (text : List ℕ) → ((h : Tree) × IsFormulaText spelling text h) ⊎ ((h : Tree) → ¬ IsFormulaText spelling text h)
  pub some_list : (text : List ℕ) → ((pairs : List Pair) × ArePairsText spelling text pairs) ⊎ ((pairs : List Pair) → ¬ ArePairsText spelling text pairs)

-- the numbers of arguments are those of lines, their name is a name, and the text of their formula says it
abbrev pub AreRead : Spelling → Arguments → Type 0
AreRead w (OnePlace i) = IsLineNumber i
AreRead w (TwoPlaces i k) = IsLineNumber i × IsLineNumber k
AreRead w (PlaceAndFormula i h) = IsLineNumber i × IsFormulaText w (formula_text w h) h
AreRead w (OneFormula h) = IsFormulaText w (formula_text w h) h
AreRead w (PlaceAndName i y) = IsLineNumber i × IsTrue (is_name y)

-- and so are those of a step, and the texts of its trees say them
abbrev pub IsRead : Spelling → Step → Type 0
IsRead w (Start s) = IsSequentText w (sequent_text w s) s
IsRead w (UseAxiom name) = IsTrue (is_name name)
IsRead w (UseRule name) = IsTrue (is_name name)
IsRead w (Leaf s) = IsSequentText w (sequent_text w s) s
IsRead w (Apply fact goal rule) = IsLineNumber fact × IsLineNumber goal × AreRead w (arguments_of rule)
IsRead w (Merge fact goal by) = IsLineNumber fact × IsLineNumber goal × IsLineNumber by
IsRead w (Substitute fact pairs) = IsLineNumber fact × ArePairsText w (pairs_text w pairs) pairs
IsRead w (Rename fact x y) = IsLineNumber fact × IsTrue (is_name x) × IsTrue (is_name y)
