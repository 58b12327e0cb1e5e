-- The written form of a line is read as that line.
use Rattle.std.proofs.Common.{ℕ, subst}
use Rattle.dlk_tree.specs.Trees.{Tree}
use Rattle.dlk_tree.specs.declared.op.Sort.{Sort}
use Rattle.dlk_calculus.specs.Sequents.{Sequent}
use Rattle.dlk_calculus.specs.Rules.{Arguments, OnePlace, TwoPlaces, PlaceAndFormula, OneFormula, PlaceAndName, arguments_of}
use Rattle.dlk_calculus.specs.Steps.{Step, Start, UseAxiom, UseRule, Leaf, Apply, Merge, Substitute, Rename}
use Rattle.dlk_grammar.specs.declared.token.Dots.TheVariants.{Refused}
use Rattle.dlk_grammar.specs.Texts.{TreeText}
use Rattle.dlk_readback.specs.Readable.{form_of}
use Rattle.dlk_readback.proofs.Whole.{tree_text}
use Rattle.dlk_readback.proofs.Turned.{sequent_text as sequent_read}
use Rattle.dlk_readback.proofs.Paired.{pairs_text as pairs_read}
use Rattle.dlk_lines.specs.Numbers.{IsLineNumber}
use Rattle.dlk_lines.specs.Spelled.{InFull, IsFormulaText, IsSequentText}
use Rattle.dlk_lines.specs.Laws.{AreRead, IsRead}
use Rattle.dlk_lines.specs.Written.{formula_text, sequent_text}
use Rattle.dlk_lines.proofs.Readback.{line_read as step_line_read}
use Rattle.dlk_termtext.specs.Lines.{IsLine, Numbered, of_step}
use Rattle.dlk_termtext.specs.Written.{line_text, IsReadableFormula, IsReadableSequent, AreWritable, IsWritable}

formula_read : (h : Tree) → IsReadableFormula h → IsFormulaText InFull (formula_text InFull h) h
formula_read h r =
    let f = r.is_formula in
    subst (λ (s : Sort). TreeText (form_of s) Refused (formula_text InFull h) h) f.sort_is
    (tree_text Refused h (record { well_made = f.well_made; limits = r.limits; permitted = (f.no_dot, f.no_hole) }))

arguments_read : (arguments : Arguments) → AreWritable arguments → AreRead InFull arguments
arguments_read (OnePlace i) h = h
arguments_read (TwoPlaces i k) h = h
arguments_read (PlaceAndFormula i f) h = (h.0, formula_read f h.1)
arguments_read (OneFormula f) h = formula_read f h
arguments_read (PlaceAndName i y) h = h

the_sequent : (s : Sequent) → IsReadableSequent s → IsSequentText InFull (sequent_text InFull s) s
the_sequent s h = sequent_read s h.is_sequent h.ante h.succ

-- the parts of a step are read
step_read : (step : Step) → IsWritable step → IsRead InFull step
step_read (Start s) h = the_sequent s h
step_read (UseAxiom name) h = h
step_read (UseRule name) h = h
step_read (Leaf s) h = the_sequent s h
step_read (Apply fact goal r) h = (h.0, h.1, arguments_read (arguments_of r) h.2)
step_read (Merge fact goal by) h = h
step_read (Substitute fact pairs) h = (h.0, pairs_read pairs h.1)
step_read (Rename fact x y) h = h

pub line_read : (number : ℕ) (step : Step) → IsLineNumber number → IsWritable step → IsLine (line_text number step) (Numbered number step)
line_read number step n h = of_step (step_line_read InFull number step n (step_read step h))
