-- The machine of each form of a tree.
use Rattle.dlk_tree.specs.declared.op.Sort.TheVariants.{Term, Formula, Program}
use Rattle.dlk_grammar.specs.declared.token.Form.{Form}
use Rattle.dlk_grammar.specs.declared.token.Form.TheVariants as form
use Rattle.dlk_grammar.specs.Phrases.{Phrase}
use Rattle.dlk_machine.specs.Machine.{State}
use Rattle.dlk_machine.specs.Parse.{Machine, reader}
use Rattle.dlk_machine.specs.Expressions.{ExpressionState, expression_reader}

abbrev pub FormState : Form → Type 0
FormState form.Formula = State
FormState form.Term = State
FormState form.Program = State
FormState form.Expression = ExpressionState

abbrev pub machine_of : (wanted : Form) → Machine (FormState wanted) Phrase
machine_of form.Formula = reader Formula
machine_of form.Term = reader Term
machine_of form.Program = reader Program
machine_of form.Expression = expression_reader
