-- How the readers of trees and sequents show the machines' states, and what comes of them.
use Rattle.std.specs.Prelude.{◌≡◌, ℕ, List, [], ◌++◌, Option, Some, None}
use Rattle.std.specs.Global.{Vec}
use Rattle.dlk_tree.specs.declared.op.Sort.{Sort}
use Rattle.dlk_tree.specs.declared.op.Sort.TheVariants.{Term, Formula, Program}
use Rattle.dlk_grammar.specs.declared.token.Dots.{Dots}
use Rattle.dlk_grammar.specs.declared.token.Dots.TheVariants.{Refused}
use Rattle.dlk_grammar.specs.declared.token.Form.{Form}
use Rattle.dlk_grammar.specs.declared.token.Form.TheVariants as form
use Rattle.dlk_grammar.specs.Lexemes.{Lexeme}
use Rattle.dlk_grammar.specs.Phrases.{Phrase, Phrases, none, snoc}
use Rattle.dlk_grammar.specs.Erased.{count}
use Rattle.dlk_grammar.specs.Grammar.{Sides, Turned}
use Rattle.dlk_machine.specs.Machine.{◌>>=◌, State, ended}
use Rattle.dlk_machine.specs.Forms.{FormState, machine_of}
use Rattle.dlk_machine.specs.Expressions.{ExpressionState, Unread, FirstName, FirstPrime, AsFormula, AsProgram}
use Rattle.dlk_machine.specs.Sequents.{Side, LeftSide, RightSide, SequentState, Fresh, Reading, sequent_reader}
use Rattle.dlk_reader.specs.Codes.{postfix, postfix_all}
use Rattle.dlk_reader.specs.Outcomes.{Outcome}
use Rattle.dlk_reader.specs.Shows.{IsOpen, Shows}
use Rattle.dlk_reader.specs.declared.code.Code.{Code}
use Rattle.dlk_reader.specs.declared.parts.Mode.{Mode}
use Rattle.dlk_reader.specs.declared.stack.Stack.{Stack}
use Rattle.dlk_forms.specs.declared.expressions.Place.{Place}
use Rattle.dlk_forms.specs.declared.expressions.Place.TheVariants as place
use Rattle.dlk_forms.specs.declared.sides.SidesReader.{SidesReader}
use Rattle.dlk_forms.specs.declared.sides.SidesSoFar.{SidesSoFar}
use Rattle.dlk_forms.specs.declared.sides.SidesCode.{SidesCode}
use Rattle.dlk_forms.specs.declared.trees.TreeReader.{TreeReader}
use Rattle.dlk_forms.specs.Parsing.{Comes}

-- where the beginning of an expression leaves open what is read
pub record ShowsFirst (k : Stack) (p q : Place) : Type 0 where
  pub place : p ≡ q
  pub lists : IsOpen k [] []

-- what is read is a tree of a sort
pub record ShowsOf (sort : Sort) (k : Stack) (p : Place) (x : State) : Type 0 where
  pub mode : Mode
  pub place : p ≡ place.Of sort mode
  pub shows : Shows k mode x

-- what is read is a formula or a term
pub record ShowsEither (k : Stack) (p : Place) (x : State) : Type 0 where
  pub mode : Mode
  pub place : p ≡ place.Either mode
  pub shows : Shows k mode x

abbrev pub ShowsExpression : Stack → Place → ExpressionState → Type 0
ShowsExpression k p Unread = ShowsFirst k p place.Unread
ShowsExpression k p (FirstName n x) = ShowsFirst k p (place.FirstName n x)
ShowsExpression k p (FirstPrime x) = ShowsFirst k p (place.FirstPrime x)
ShowsExpression k p (AsFormula x) = ShowsEither k p x
ShowsExpression k p (AsProgram x) = ShowsOf Program k p x

abbrev pub ShowsPlace : (wanted : Form) → Stack → Place → FormState wanted → Type 0
ShowsPlace form.Formula k p x = ShowsOf Formula k p x
ShowsPlace form.Term k p x = ShowsOf Term k p x
ShowsPlace form.Program k p x = ShowsOf Program k p x
ShowsPlace form.Expression k p x = ShowsExpression k p x

-- the formulas of the left side, when the right one is read
abbrev pub left_number : Side → Option ℕ
left_number LeftSide = None
left_number (RightSide l) = Some (count l)

abbrev pub left_code : Side → List Code
left_code LeftSide = []
left_code (RightSide l) = postfix_all l

-- the formulas of a side so far
pub record KeepsSide (r : SidesSoFar) (w : Side) (l : Phrases) : Type 0 where
  pub left : r.left ≡ left_number w
  pub number : r.number ≡ count l
  pub done : r.done.items ≡ left_code w ++ postfix_all l

-- the formulas of a side where the one that is read ends
abbrev pub finished : Phrases → State → Option Phrases
finished l x = ended Formula x >>= λ t. Some (snoc l t)

-- nothing is read of the next
pub record ShowsBetween (r : SidesSoFar) (w : Side) (l : Phrases) : Type 0 where
  pub side : KeepsSide r w l
  pub lists : IsOpen r.stack [] []

-- nothing of a side has been read
pub record ShowsFresh (r : SidesSoFar) (m : Option Mode) (w : Side) : Type 0 where
  pub mode : m ≡ None
  pub between : ShowsBetween r w none

-- the formulas of a side so far, and what is read of the next
pub record ShowsReading (r : SidesSoFar) (m : Mode) (w : Side) (l : Phrases) (x : State) : Type 0 where
  pub side : KeepsSide r w l
  pub shows : Shows r.stack m x

pub record ShowsInside (r : SidesSoFar) (m : Option Mode) (w : Side) (l : Phrases) (x : State) : Type 0 where
  pub mode : Mode
  pub mode_is : m ≡ Some mode
  pub reading : ShowsReading r mode w l x

abbrev pub ShowsSidesAt : SidesSoFar → Option Mode → SequentState → Type 0
ShowsSidesAt r m (Fresh w) = ShowsFresh r m w
ShowsSidesAt r m (Reading w l x) = ShowsInside r m w l x

-- the operators of the formulas of both sides in order, and how many there are of the left one
pub record IsSidesOf (c : SidesCode) (l m : Phrases) : Type 0 where
  pub left : c.left ≡ count l
  pub code : c.code.items ≡ postfix_all l ++ postfix_all m

-- both sides, of which the right one ends
abbrev pub both_of : Side → Phrases → Option Sides
both_of LeftSide l = None
both_of (RightSide l) m = Some (Turned l m)

abbrev pub IsCodeOf : SidesCode → Sides → Type 0
IsCodeOf c (Turned l m) = IsSidesOf c l m

abbrev pub tree_start : (wanted : Form) → FormState wanted
tree_start wanted = (machine_of wanted).start

abbrev pub tree_step : (wanted : Form) → FormState wanted → Lexeme → Option (FormState wanted)
tree_step wanted = (machine_of wanted).step

abbrev pub tree_ended : (wanted : Form) → FormState wanted → Option Phrase
tree_ended wanted = (machine_of wanted).ended

-- the state of a form's machine, where dots are allowed or refused
pub record ShowsTree (d : Dots) (wanted : Form) (r : TreeReader) (x : FormState wanted) : Type 0 where
  pub dots : r.dots ≡ d
  pub place : ShowsPlace wanted r.stack r.place x

abbrev pub ShowsSides : SidesReader → SequentState → Type 0
ShowsSides r x = ShowsSidesAt r.sides r.mode x

-- the operators of a tree
abbrev pub IsTreeCode : Vec Code → Phrase → Type 0
IsTreeCode code t = code.items ≡ postfix t

-- What comes of the readers, for each form and whether dots are allowed.
abbrev pub TreeComes : TreeReader → List Lexeme → Outcome (Vec Code) → Type 0
TreeComes r s o = (d : Dots) (wanted : Form) → Comes d (machine_of wanted) (ShowsTree d wanted) IsTreeCode r s o

abbrev pub SidesComes : SidesReader → List Lexeme → Outcome SidesCode → Type 0
SidesComes r s o = Comes Refused sequent_reader ShowsSides IsCodeOf r s o
