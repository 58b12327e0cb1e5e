-- The machine of an expression: a formula, a program, or a term that is no formula.
use Rattle.std.specs.Prelude.{ℕ, true, false, [], Option, Some, None}
use Rattle.dlk_tree.specs.declared.op.Sort.TheVariants.{Term, Formula, Program}
use Rattle.dlk_grammar.specs.Lexemes.{Word, Lexeme, Name, OpenBrace, Prime, Gets, Query, Semi}
use Rattle.dlk_grammar.specs.Phrases.{Phrase, Variable}
use Rattle.dlk_machine.specs.Machine.{◌>>=◌, Done, Bare, Is, State, Wants, Has, Starts, StartsPrime, step, ended}
use Rattle.dlk_machine.specs.Parse.{Machine, or_else}

-- A name, and a name with a prime, leave open what is read.
pub data ExpressionState : Type 0 where
  Unread : ExpressionState
  FirstName : ℕ → Word → ExpressionState
  FirstPrime : Word → ExpressionState
  AsFormula : State → ExpressionState
  AsProgram : State → ExpressionState

abbrev pub as_formula : State → Lexeme → Option ExpressionState
as_formula x k = step Formula x k >>= λ y. Some (AsFormula y)

abbrev pub as_program : State → Lexeme → Option ExpressionState
as_program x k = step Program x k >>= λ y. Some (AsProgram y)

abbrev pub expression_step : ExpressionState → Lexeme → Option ExpressionState
expression_step Unread (Name n x) = Some (FirstName n x)
expression_step Unread Query = as_program (Wants []) Query
expression_step Unread (OpenBrace n) = as_program (Wants []) (OpenBrace n)
expression_step Unread k = as_formula (Wants []) k
expression_step (FirstName n x) Prime = Some (FirstPrime x)
expression_step (FirstName n x) Semi = as_program (Starts [] x) Semi
expression_step (FirstName n x) Gets = as_program (Starts [] x) Gets
expression_step (FirstName n x) k = as_formula (Has [] (Is Term (Variable x false) (Bare n x))) k
expression_step (FirstPrime x) Gets = as_program (StartsPrime [] x) Gets
expression_step (FirstPrime x) k = as_formula (Has [] (Is Term (Variable x true) Done)) k
expression_step (AsFormula x) k = as_formula x k
expression_step (AsProgram x) k = as_program x k

abbrev pub term_or_formula : State → Option Phrase
term_or_formula x = or_else (ended Formula x) (ended Term x) (λ t. Some t)

abbrev pub expression_ended : ExpressionState → Option Phrase
expression_ended Unread = None
expression_ended (FirstName n x) = term_or_formula (Has [] (Is Term (Variable x false) (Bare n x)))
expression_ended (FirstPrime x) = term_or_formula (Has [] (Is Term (Variable x true) Done))
expression_ended (AsFormula x) = term_or_formula x
expression_ended (AsProgram x) = ended Program x

-- The reader of an expression.
abbrev pub expression_reader : Machine ExpressionState Phrase
expression_reader = record { start = Unread; step = expression_step; ended = expression_ended }
