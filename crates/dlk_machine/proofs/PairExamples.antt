-- Texts of substitutions with what they say, and texts that are none, with where they stop.
use Rattle.std.specs.Prelude.{◌≡◌, refl, false, [], ◌∷◌, Ok, Err, codes}
use Rattle.dlk_tree.specs.declared.op.Num.{Num}
use Rattle.dlk_tree.specs.declared.op.Kind.TheVariants.{Func, Pred, Quant, Prog, Ode, UnitFunc, UnitPred}
use Rattle.dlk_grammar.specs.declared.token.Dots.TheVariants.{Allowed}
use Rattle.dlk_grammar.specs.declared.token.Infix.TheVariants.{And, Equal, AtLeast, Add}
use Rattle.dlk_grammar.specs.Lexemes.{Word, Name, Number, Dot, Blank, Bang, True, RoundBar, BarRound, RoundBars, BraceBar, BarBrace, Open, Close}
use Rattle.dlk_grammar.specs.Lexemes.{OpenBrace, CloseBrace, Prime, Gets, Semi, Comma, Becomes, Op}
use Rattle.dlk_grammar.specs.Phrases.{Everywhere, Except, Literal, Argument, Variable, Apply, Truth, Hole, Holds, Not, Binary, Assign, System, none}
use Rattle.dlk_grammar.specs.Phrases.{Call, Evolve, Flow, no_items, add}
use Rattle.dlk_grammar.specs.Erased.{symbol}
use Rattle.dlk_grammar.specs.Substitutions.{to}
use Rattle.dlk_machine.specs.Parse.{parse}
use Rattle.dlk_machine.specs.Pairs.{pairs_reader}

abbrev a : Word
a = codes "a"

abbrev c : Word
c = codes "c"

abbrev d : Word
d = codes "d"

abbrev f : Word
f = codes "f"

abbrev h : Word
h = codes "h"

abbrev p : Word
p = codes "p"

abbrev x : Word
x = codes "x"

abbrev y : Word
y = codes "y"

abbrev C : Word
C = codes "C"

-- the word that tells a function's left side
abbrev the_word : Word
the_word = codes "term"

abbrev one : Num
one = record { digits = 1; scale = 0 }

-- p(._0)~>._0>=1,f()~>x+1: a predicate's pair, and a function's, since x+1 is no formula.
two_pairs : parse Allowed pairs_reader
    (Name 0 p ∷ Open ∷ Dot 0 ∷ Close ∷ Becomes ∷ Dot 0 ∷ Op AtLeast ∷ Number one ∷ Comma
    ∷ Name 9 f ∷ Open ∷ Close ∷ Becomes ∷ Name 13 x ∷ Op Add ∷ Number one ∷ [])
    ≡ Ok
    (to (symbol Pred p 1 Everywhere) (Binary AtLeast (Argument 0) (Literal one))
    ∷ to (symbol Func f 0 Everywhere) (Binary Add (Variable x false) (Literal one)) ∷ [])
two_pairs = refl

-- f()~>h() is a predicate's, and term f()~>h() a function's.
a_predicate : parse Allowed pairs_reader (Name 0 f ∷ Open ∷ Close ∷ Becomes ∷ Name 4 h ∷ Open ∷ Close ∷ [])
    ≡ Ok (to (symbol Pred f 0 Everywhere) (Holds (Call 4 h none)) ∷ [])
a_predicate = refl

a_function : parse Allowed pairs_reader (Name 0 the_word ∷ Name 1 f ∷ Open ∷ Close ∷ Becomes ∷ Name 5 h ∷ Open ∷ Close ∷ [])
    ≡ Ok (to (symbol Func f 0 Everywhere) (Apply (Call 5 h none)) ∷ [])
a_function = refl

-- term()~>true and term term()~>1: the word is a name, too.
the_name : parse Allowed pairs_reader (Name 0 the_word ∷ Open ∷ Close ∷ Becomes ∷ True ∷ []) ≡ Ok (to (symbol Pred the_word 0 Everywhere) Truth ∷ [])
the_name = refl

the_word_and_name : parse Allowed pairs_reader (Name 0 the_word ∷ Name 1 the_word ∷ Open ∷ Close ∷ Becomes ∷ Number one ∷ [])
    ≡ Ok (to (symbol Func the_word 0 Everywhere) (Literal one) ∷ [])
the_word_and_name = refl

-- p(||)~>true,f(|y|)~>x: unit symbols.
units : parse Allowed pairs_reader (Name 0 p ∷ RoundBars ∷ Becomes ∷ True ∷ Comma ∷ Name 5 f ∷ RoundBar ∷ Name 7 y ∷ BarRound ∷ Becomes ∷ Name 10 x ∷ [])
    ≡ Ok (to (symbol UnitPred p 0 Everywhere) Truth ∷ to (symbol UnitFunc f 0 (Except y)) (Variable x false) ∷ [])
units = refl

-- a;~>x:=1;
a_program : parse Allowed pairs_reader (Name 0 a ∷ Semi ∷ Becomes ∷ Name 3 x ∷ Gets ∷ Number one ∷ Semi ∷ [])
    ≡ Ok (to (symbol Prog a 0 Everywhere) (Assign x false (Literal one)) ∷ [])
a_program = refl

-- C{_}~>!_
a_context : parse Allowed pairs_reader (Name 0 C ∷ OpenBrace 1 ∷ Blank ∷ CloseBrace ∷ Becomes ∷ Bang ∷ Blank ∷ [])
    ≡ Ok (to (symbol Quant C 0 Everywhere) (Not Hole) ∷ [])
a_context = refl

-- {c{|y|}}~>{x'=1,d}: the comma behind x'=1 ends an item, and no pair.
a_system : parse Allowed pairs_reader
    (OpenBrace 0 ∷ Name 1 c ∷ BraceBar ∷ Name 3 y ∷ BarBrace ∷ CloseBrace ∷ Becomes
    ∷ OpenBrace 7 ∷ Name 8 x ∷ Prime ∷ Op Equal ∷ Number one ∷ Comma ∷ Name 13 d ∷ CloseBrace ∷ [])
    ≡ Ok (to (symbol Ode c 0 (Except y)) (System 7 (add (add no_items (Evolve x (Literal one))) (Flow d Everywhere)) Truth) ∷ [])
a_system = refl

-- nothing
no_pairs : parse Allowed pairs_reader [] ≡ Ok []
no_pairs = refl

-- {c}~>{x'=1&true}: a system on the right has no domain.
with_domain : parse Allowed pairs_reader
    (OpenBrace 0 ∷ Name 1 c ∷ CloseBrace ∷ Becomes ∷ OpenBrace 4 ∷ Name 5 x ∷ Prime ∷ Op Equal ∷ Number one ∷ Op And ∷ True ∷ CloseBrace ∷ [])
    ≡ Err 9
with_domain = refl

-- {c}~>{d;}: it is no program in braces.
in_braces : parse Allowed pairs_reader (OpenBrace 0 ∷ Name 1 c ∷ CloseBrace ∷ Becomes ∷ OpenBrace 4 ∷ Name 5 d ∷ Semi ∷ CloseBrace ∷ []) ≡ Err 6
in_braces = refl

-- f(._1)~>x: the first dot is ._0.
other_dot : parse Allowed pairs_reader (Name 0 f ∷ Open ∷ Dot 1 ∷ Close ∷ Becomes ∷ Name 5 x ∷ []) ≡ Err 2
other_dot = refl

-- f(._0,._1,._2,._3,._4,._5,._6,._7,._0)~>x: at most eight dots, so no text goes on at the comma behind the eighth.
nine_dots : parse Allowed pairs_reader
    (Name 0 f ∷ Open ∷ Dot 0 ∷ Comma ∷ Dot 1 ∷ Comma ∷ Dot 2 ∷ Comma ∷ Dot 3 ∷ Comma ∷ Dot 4 ∷ Comma ∷ Dot 5 ∷ Comma ∷ Dot 6 ∷ Comma ∷ Dot 7 ∷ Comma
    ∷ Dot 0 ∷ Close ∷ Becomes ∷ Name 21 x ∷ [])
    ≡ Err 17
nine_dots = refl

-- term a;~>x:=1;: the word stands before a function's left side alone.
word_and_program : parse Allowed pairs_reader (Name 0 the_word ∷ Name 1 a ∷ Semi ∷ Becomes ∷ Name 4 x ∷ Gets ∷ Number one ∷ Semi ∷ []) ≡ Err 2
word_and_program = refl

-- p()~>true, lacks a pair.
open_list : parse Allowed pairs_reader (Name 0 p ∷ Open ∷ Close ∷ Becomes ∷ True ∷ Comma ∷ []) ≡ Err 6
open_list = refl
