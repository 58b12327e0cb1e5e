-- Texts with what they say, and where a text stops.
use Rattle.std.specs.Prelude.{◌≡◌, refl, true, false, [], ◌∷◌, Some, Ok, Err, codes}
use Rattle.dlk_tree.specs.declared.op.Num.{Num}
use Rattle.dlk_tree.specs.declared.op.Sort.TheVariants as sort
use Rattle.dlk_grammar.specs.declared.token.Dots.TheVariants.{Refused, Allowed}
use Rattle.dlk_grammar.specs.declared.token.Infix.TheVariants.{Imply, And, Equal, AtLeast, Greater, Less, Add, Sub, Mul, Pow}
use Rattle.dlk_grammar.specs.Lexemes.{Word, Name, Number, Dot, Bang, True, Invariant, RoundBars, Open, Close, OpenBrace, CloseBrace, Prime, Gets}
use Rattle.dlk_grammar.specs.Lexemes.{Semi, Comma, Turnstile, Op}
use Rattle.dlk_grammar.specs.Phrases.{Everywhere, Literal, Variable, Negate, Truth, Holds, Not, Dia, Binary, Const, Assign, AssignAny, Then, Loop}
use Rattle.dlk_grammar.specs.Phrases.{System, Noted, none, snoc, Any, Evolve, Flow, no_items, add}
use Rattle.dlk_grammar.specs.Grammar.{Turned}
use Rattle.dlk_grammar.specs.Erased.{ills, lowest}
use Rattle.dlk_machine.specs.Parse.{parse, reader}
use Rattle.dlk_machine.specs.Sequents.{sequent_reader}
use Rattle.dlk_machine.specs.Expressions.{expression_reader}

abbrev x : Word
x = codes "x"

abbrev y : Word
y = codes "y"

abbrev c : Word
c = codes "c"

abbrev zero' : Num
zero' = record { digits = 0; scale = 0 }

abbrev two : Num
two = record { digits = 2; scale = 0 }

-- -x^2*y--x=0: the sign binds tighter than the product and looser than the power.
signs : parse Refused (reader sort.Formula)
    (Op Sub ∷ Name 1 x ∷ Op Pow ∷ Number two ∷ Op Mul ∷ Name 5 y ∷ Op Sub ∷ Op Sub ∷ Name 8 x ∷ Op Equal ∷ Number zero' ∷ [])
    ≡ Ok
    (Binary Equal (Binary Sub (Binary Mul (Negate (Binary Pow (Variable x false) (Literal two))) (Variable y false)) (Negate (Variable x false)))
    (Literal zero'))
signs = refl

-- !x=0&true
prefixes : parse Refused (reader sort.Formula) (Bang ∷ Name 1 x ∷ Op Equal ∷ Number zero' ∷ Op And ∷ True ∷ [])
    ≡ Ok (Binary And (Not (Binary Equal (Variable x false) (Literal zero'))) Truth)
prefixes = refl

-- {x'=y,c&x>0}*@invariant(x>0);
a_loop : parse Refused (reader sort.Program)
    (OpenBrace 0 ∷ Name 1 x ∷ Prime ∷ Op Equal ∷ Name 4 y ∷ Comma ∷ Name 6 c ∷ Op And ∷ Name 8 x ∷ Op Greater ∷ Number zero' ∷ CloseBrace
    ∷ Op Mul ∷ Invariant ∷ Open ∷ Name 15 x ∷ Op Greater ∷ Number zero' ∷ Close ∷ Semi ∷ [])
    ≡ Ok
    (Noted (Loop (System 0 (add (add no_items (Evolve x (Variable y false))) (Flow c Everywhere)) (Binary Greater (Variable x false) (Literal zero'))))
    (snoc none (Binary Greater (Variable x false) (Literal zero'))))
a_loop = refl

-- {x':=y;} is a program, and {x'=y} a system.
a_group : parse Refused (reader sort.Program) (OpenBrace 0 ∷ Name 1 x ∷ Prime ∷ Gets ∷ Name 4 y ∷ Semi ∷ CloseBrace ∷ [])
    ≡ Ok (Assign x true (Variable y false))
a_group = refl

a_system : parse Refused (reader sort.Program) (OpenBrace 0 ∷ Name 1 x ∷ Prime ∷ Op Equal ∷ Name 4 y ∷ CloseBrace ∷ [])
    ≡ Ok (System 0 (add no_items (Evolve x (Variable y false))) Truth)
a_system = refl

-- x:=*;{x:=*;}
anything : parse Refused (reader sort.Program) (Name 0 x ∷ Gets ∷ Op Mul ∷ Semi ∷ OpenBrace 5 ∷ Name 6 x ∷ Gets ∷ Op Mul ∷ Semi ∷ CloseBrace ∷ [])
    ≡ Ok (Then (AssignAny x) (AssignAny x))
anything = refl

-- x:=*y; stops at y, and x':=*; at the star
no_product : parse Refused (reader sort.Program) (Name 0 x ∷ Gets ∷ Op Mul ∷ Name 4 y ∷ Semi ∷ []) ≡ Err 3
no_product = refl

no_prime : parse Refused (reader sort.Program) (Name 0 x ∷ Prime ∷ Gets ∷ Op Mul ∷ Semi ∷ []) ≡ Err 3
no_prime = refl

-- {c;} and {c}
a_constant : parse Refused (reader sort.Program) (OpenBrace 0 ∷ Name 1 c ∷ Semi ∷ CloseBrace ∷ []) ≡ Ok (Const c)
a_constant = refl

a_flow : parse Refused (reader sort.Program) (OpenBrace 0 ∷ Name 1 c ∷ CloseBrace ∷ []) ≡ Ok (System 0 (add no_items (Flow c Everywhere)) Truth)
a_flow = refl

-- <{c}>y(||) & x<y
a_diamond : parse Refused (reader sort.Formula)
    (Op Less ∷ OpenBrace 1 ∷ Name 2 c ∷ CloseBrace ∷ Op Greater ∷ Name 5 y ∷ RoundBars ∷ Op And ∷ Name 8 x ∷ Op Less ∷ Name 10 y ∷ [])
    ≡ Ok (Binary And (Dia (System 1 (add no_items (Flow c Everywhere)) Truth) (Holds (Any y Everywhere))) (Binary Less (Variable x false) (Variable y false)))
a_diamond = refl

-- x>=0 & -> y>0 stops at the arrow.
a_stop : parse Refused (reader sort.Formula) (Name 0 x ∷ Op AtLeast ∷ Number zero' ∷ Op And ∷ Op Imply ∷ Name 5 y ∷ Op Greater ∷ Number zero' ∷ []) ≡ Err 4
a_stop = refl

-- A dot is refused where dots are refused.
a_dot : parse Refused (reader sort.Term) (Name 0 x ∷ Op Add ∷ Dot 0 ∷ []) ≡ Err 2
a_dot = refl

-- x' alone is a term, x':=y; a program.
an_expression : parse Refused expression_reader (Name 0 x ∷ Prime ∷ []) ≡ Ok (Variable x true)
an_expression = refl

an_assignment : parse Refused expression_reader (Name 0 x ∷ Prime ∷ Gets ∷ Name 3 y ∷ Semi ∷ []) ≡ Ok (Assign x true (Variable y false))
an_assignment = refl

-- x(||) alone is a formula, and x(||)+y a term.
a_unit_predicate : parse Allowed expression_reader (Name 0 x ∷ RoundBars ∷ []) ≡ Ok (Holds (Any x Everywhere))
a_unit_predicate = refl

-- ==> true
a_sequent : parse Refused sequent_reader (Turnstile ∷ True ∷ []) ≡ Ok (Turned none (snoc none Truth))
a_sequent = refl

-- {x'=0,x'=0} evolves a variable twice.
a_shape : lowest (ills (System 3 (add (add no_items (Evolve x (Literal zero'))) (Evolve x (Literal zero'))) Truth)) ≡ Some 3
a_shape = refl
