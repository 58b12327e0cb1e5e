-- The machine of a pair of a substitution, and of its pairs with commas between.
use Rattle.std.specs.Prelude.{ℕ, ◌+◌, ◌==◌, nat_lt, Bool, true, false, List, [], ◌∷◌, ◌++◌, Option, Some, None, codes}
use Rattle.std.specs.Str.{bytes_eq}
use Rattle.dlk_tree.specs.declared.op.Kind.TheVariants.{Quant, Prog, Ode}
use Rattle.dlk_tree.specs.declared.op.Sym.{Sym}
use Rattle.dlk_tree.specs.declared.op.Sort.{Sort}
use Rattle.dlk_tree.specs.declared.op.Sort.TheVariants.{Term, Formula, Program}
use Rattle.dlk_grammar.specs.Erased.{symbol}
use Rattle.dlk_grammar.specs.Lexemes.{Word, Lexeme, Name, Dot, Blank, RoundBars, RoundBar, BarRound, BraceBar, BarBrace, Open, Close, OpenBrace}
use Rattle.dlk_grammar.specs.Lexemes.{CloseBrace, Semi, Comma, Becomes, Op}
use Rattle.dlk_grammar.specs.declared.token.Infix.TheVariants.{And}
use Rattle.dlk_grammar.specs.Phrases.{Everywhere, Except, Phrase, no_items}
use Rattle.dlk_grammar.specs.Substitutions.{Target, Over, Unit, function, predicate, most_dots, PairPhrase, to}
use Rattle.dlk_machine.specs.Machine.{◌>>=◌, when, Braced, Is, State, Wants, Has, WantsItem, step, ended}
use Rattle.dlk_machine.specs.Parse.{Machine, or_else}

-- what a left side wants on the right: a formula or else a term, a text of a sort, a system without a domain
pub data Right : Type 0 where
  EitherOf : Target → Right
  TextOf : Sort → Sym → Right
  SystemOf : Sym → Right

-- behind the word `term` a term, else a formula or a term
abbrev pub right_of : Bool → Target → Right
right_of true h = TextOf Term (function h)
right_of false h = EitherOf h

pub data PairState : Type 0 where
  Begins : PairState
  -- x, and term x
  LeftName : Word → PairState
  TermName : Word → PairState
  -- with whether the word `term` came: x (, the dots so far, a comma behind them, x (|, x (| y
  Calls : Bool → Word → PairState
  DotsOf : Bool → Word → ℕ → PairState
  DotWanted : Bool → Word → ℕ → PairState
  Bars : Bool → Word → PairState
  BarsName : Bool → Word → Word → PairState
  -- x { and x { _
  InContext : Word → PairState
  ContextHole : Word → PairState
  -- {, { x, { x {|, { x {| y, { x {| y |}
  FlowOpens : PairState
  FlowName : Word → PairState
  FlowBar : Word → PairState
  FlowBarName : Word → Word → PairState
  FlowExcept : Word → Word → PairState
  -- a whole left side; what is read of the right side
  LeftEnds : Right → PairState
  InRight : Right → State → PairState
  -- of a system: where its { is wanted, what is read of its items, and behind its }
  BraceWanted : Sym → PairState
  InSystem : Sym → State → PairState
  SystemEnds : Sym → Phrase → PairState

-- a function or a predicate behind its name
abbrev pub target_step : Bool → Word → Lexeme → Option PairState
target_step e x Open = Some (Calls e x)
target_step e x RoundBars = Some (LeftEnds (right_of e (Unit x Everywhere)))
target_step e x RoundBar = Some (Bars e x)
target_step e x _ = None

abbrev pub right_start : Right → PairState
right_start (EitherOf h) = InRight (EitherOf h) (Wants [])
right_start (TextOf g s) = InRight (TextOf g s) (Wants [])
right_start (SystemOf s) = BraceWanted s

-- the sort by which a right side is read; a formula's reader reads a term, too
abbrev pub right_sort : Right → Sort
right_sort (EitherOf h) = Formula
right_sort (TextOf g s) = g
right_sort (SystemOf s) = Program

-- a system without a domain, which is whole behind its brace
abbrev pub system_state : Sym → State → PairState
system_state s (Has [] (Is Program t Braced)) = SystemEnds s t
system_state s y = InSystem s y

abbrev pub pair_step : PairState → Lexeme → Option PairState
pair_step Begins (Name n x) = Some (LeftName x)
pair_step Begins (OpenBrace m) = Some FlowOpens
pair_step (LeftName x) (Name n y) = when (bytes_eq x (codes "term")) (Some (TermName y))
pair_step (LeftName x) (OpenBrace m) = Some (InContext x)
pair_step (LeftName x) Semi = Some (LeftEnds (TextOf Program (symbol Prog x 0 Everywhere)))
pair_step (LeftName x) k = target_step false x k
pair_step (TermName x) k = target_step true x k
pair_step (Calls e x) Close = Some (LeftEnds (right_of e (Over x 0)))
pair_step (Calls e x) (Dot n) = when (n == 0) (Some (DotsOf e x 1))
pair_step (DotsOf e x n) Comma = when (nat_lt n most_dots) (Some (DotWanted e x n))
pair_step (DotsOf e x n) Close = Some (LeftEnds (right_of e (Over x n)))
pair_step (DotWanted e x n) (Dot m) = when (m == n) (Some (DotsOf e x (n + 1)))
pair_step (Bars e x) (Name n y) = Some (BarsName e x y)
pair_step (BarsName e x y) BarRound = Some (LeftEnds (right_of e (Unit x (Except y))))
pair_step (InContext x) Blank = Some (ContextHole x)
pair_step (ContextHole x) CloseBrace = Some (LeftEnds (TextOf Formula (symbol Quant x 0 Everywhere)))
pair_step FlowOpens (Name n x) = Some (FlowName x)
pair_step (FlowName x) CloseBrace = Some (LeftEnds (SystemOf (symbol Ode x 0 Everywhere)))
pair_step (FlowName x) BraceBar = Some (FlowBar x)
pair_step (FlowBar x) (Name n y) = Some (FlowBarName x y)
pair_step (FlowBarName x y) BarBrace = Some (FlowExcept x y)
pair_step (FlowExcept x y) CloseBrace = Some (LeftEnds (SystemOf (symbol Ode x 0 (Except y))))
pair_step (LeftEnds w) Becomes = Some (right_start w)
pair_step (InRight w y) k = step (right_sort w) y k >>= λ z. Some (InRight w z)
pair_step (BraceWanted s) (OpenBrace m) = Some (InSystem s (WantsItem [] m no_items))
pair_step (InSystem s y) (Op And) = None
pair_step (InSystem s y) k = step Program y k >>= λ z. Some (system_state s z)
pair_step _ _ = None

abbrev pub right_ended : Right → State → Option PairPhrase
right_ended (EitherOf h) y = or_else (ended Formula y) (ended Term y >>= λ t. Some (to (function h) t)) (λ t. Some (to (predicate h) t))
right_ended (TextOf g s) y = ended g y >>= λ t. Some (to s t)
right_ended (SystemOf s) y = None

abbrev pub pair_ended : PairState → Option PairPhrase
pair_ended (InRight w y) = right_ended w y
pair_ended (SystemEnds s t) = Some (to s t)
pair_ended _ = None

-- The reader of a pair.
abbrev pub pair_reader : Machine PairState PairPhrase
pair_reader = record { start = Begins; step = pair_step; ended = pair_ended }

-- nothing has been read; or the pairs so far, and what is read of the next one
pub data PairsState : Type 0 where
  Fresh : PairsState
  Within : List PairPhrase → PairState → PairsState

abbrev pub within : List PairPhrase → PairState → Lexeme → Option PairsState
within l x k = pair_step x k >>= λ y. Some (Within l y)

-- At a comma a pair that is whole ends; each other token is the pair's.
abbrev pub pairs_step : PairsState → Lexeme → Option PairsState
pairs_step Fresh k = within [] Begins k
pairs_step (Within l x) Comma = or_else (pair_ended x) (within l x Comma) (λ p. Some (Within (l ++ p ∷ []) Begins))
pairs_step (Within l x) k = within l x k

abbrev pub pairs_ended : PairsState → Option (List PairPhrase)
pairs_ended Fresh = Some []
pairs_ended (Within l x) = pair_ended x >>= λ p. Some (l ++ p ∷ [])

-- The reader of a substitution.
abbrev pub pairs_reader : Machine PairsState (List PairPhrase)
pairs_reader = record { start = Fresh; step = pairs_step; ended = pairs_ended }
