-- Reading token by token, with a stack of what is still open.
use Rattle.std.specs.Prelude.{ℕ, zero, suc, Bool, true, false, cond, nat_lt, List, [], ◌∷◌, Option, Some, None, option_and_then, if◌then◌else◌}
use Rattle.dlk_grammar.specs.declared.token.Infix.{Infix}
use Rattle.dlk_grammar.specs.declared.token.Infix.TheVariants.{Equiv, Imply, Or, And, Equal, NotEqual, AtLeast, Greater, AtMost, Less, Add, Sub, Mul}
use Rattle.dlk_grammar.specs.declared.token.Infix.TheVariants.{Div, Pow, Choice}
use Rattle.dlk_grammar.specs.Lexemes.{Word, Lexeme, Name, Number, Dot, Blank, True, False, All, Exist, Invariant, RoundBars, RoundBar, BarRound}
use Rattle.dlk_grammar.specs.Lexemes.{BraceBar, BarBrace, Open, Close, OpenBox, CloseBox, OpenBrace, CloseBrace, Bang, Prime, Gets, Query, Semi}
use Rattle.dlk_grammar.specs.Lexemes.{Comma, Op}
use Rattle.dlk_grammar.specs.Phrases.{Everywhere, Except, Phrase, Literal, Argument, Variable, Apply, Negate, Diff, Truth, Falsity, Hole, Holds}
use Rattle.dlk_grammar.specs.Phrases.{Context, Not, DiffF, Forall, Exists, Box, Dia, Binary, Const, Assign, AssignAny, Test, Then, Loop, System}
use Rattle.dlk_grammar.specs.Phrases.{Noted, Phrases, none, snoc, Head, Call, Any, Evolve, Flow, Items, no_items, add}
use Rattle.dlk_tree.specs.declared.op.Sort.{Sort}
use Rattle.dlk_tree.specs.declared.op.Sort.TheVariants.{Term, Formula, Program}

infixl 10 ◌>>=◌
abbrev pub ◌>>=◌ : {A B : Type 0} → Option A → (A → Option B) → Option B
o >>= f = option_and_then f o

abbrev pub when : {A : Type 0} → Bool → Option A → Option A
when true x = x
when false x = None

-- An operator between two operands: one with a token, or none between two statements.
pub data Between : Type 0 where
  By : Infix → Between
  Next : Between

pub data Quantifier : Type 0 where
  ForAll : Quantifier
  ForSome : Quantifier

pub data Modality : Type 0 where
  InBox : Modality
  InDia : Modality

-- An operator before its operand.
pub data Prefix : Type 0 where
  Minus : Prefix
  Bang' : Prefix
  Bound : Quantifier → Word → Prefix
  Modal : Modality → Phrase → Prefix

-- What is closed by a token of its own.
pub data Holder : Type 0 where
  Round : Bool → Holder
  Args : ℕ → Word → Phrases → Holder
  InContext : Word → Holder
  In : Modality → Holder
  InBrace : Holder
  Assigns : Word → Bool → Holder
  Tests : Holder
  Evolves : ℕ → Items → Word → Holder
  Domain : ℕ → Items → Holder
  Notes : Phrase → Phrases → Holder

pub data Part : Type 0 where
  Left : Between → Phrase → Part
  Before : Prefix → Part
  Inside : Holder → Part

-- How tightly an operator binds, the least level of its right operand, and the sorts.
abbrev pub level : Between → ℕ
level (By Equiv) = 1
level (By Imply) = 2
level (By Or) = 3
level (By And) = 4
level (By Equal) = 6
level (By NotEqual) = 6
level (By AtLeast) = 6
level (By Greater) = 6
level (By AtMost) = 6
level (By Less) = 6
level (By Add) = 7
level (By Sub) = 7
level (By Mul) = 8
level (By Div) = 8
level (By Pow) = 10
level (By Choice) = 1
level Next = 2

abbrev pub right_level : Between → ℕ
right_level (By Equiv) = 1
right_level (By Imply) = 2
right_level (By Or) = 3
right_level (By And) = 4
right_level (By Equal) = 7
right_level (By NotEqual) = 7
right_level (By AtLeast) = 7
right_level (By Greater) = 7
right_level (By AtMost) = 7
right_level (By Less) = 7
right_level (By Add) = 8
right_level (By Sub) = 8
right_level (By Mul) = 9
right_level (By Div) = 9
right_level (By Pow) = 9
right_level (By Choice) = 1
right_level Next = 2

abbrev pub operand_sort : Between → Sort
operand_sort (By Equiv) = Formula
operand_sort (By Imply) = Formula
operand_sort (By Or) = Formula
operand_sort (By And) = Formula
operand_sort (By Choice) = Program
operand_sort (By _) = Term
operand_sort Next = Program

abbrev pub result_sort : Between → Sort
result_sort (By Add) = Term
result_sort (By Sub) = Term
result_sort (By Mul) = Term
result_sort (By Div) = Term
result_sort (By Pow) = Term
result_sort (By Choice) = Program
result_sort (By _) = Formula
result_sort Next = Program

abbrev pub binary : Between → Phrase → Phrase → Phrase
binary (By o) a b = Binary o a b
binary Next a b = Then a b

abbrev pub prefix_level : Prefix → ℕ
prefix_level Minus = 9
prefix_level _ = 5

abbrev pub prefix_sort : Prefix → Sort
prefix_sort Minus = Term
prefix_sort _ = Formula

abbrev pub unary : Prefix → Phrase → Phrase
unary Minus a = Negate a
unary Bang' a = Not a
unary (Bound ForAll x) a = Forall x a
unary (Bound ForSome x) a = Exists x a
unary (Modal InBox p) a = Box p a
unary (Modal InDia p) a = Dia p a

-- What may come right behind a piece, beside an operator.
pub data Tail : Type 0 where
  Done : Tail
  -- a lone name, with its place
  Bare : ℕ → Word → Tail
  -- a term or a formula in brackets
  Grouped : Tail
  -- a brace; with its star; with its invariants
  Braced : Tail
  Starred : Tail
  Annotated : Tail

-- What was read last: a tree of one sort, or a symbol with primes that is a term or a formula.
pub data Piece : Type 0 where
  Is : Sort → Phrase → Tail → Piece
  Symbol : Head → ℕ → Tail → Piece

pub data State : Type 0 where
  Wants : List Part → State
  Has : List Part → Piece → State
  -- after x ( and after x (| and after x (| y
  Calls : List Part → ℕ → Word → State
  Bars : List Part → Word → State
  BarsName : List Part → Word → Word → State
  -- after \forall or \exists
  Binds : List Part → Quantifier → State
  -- after x and after x ' and after x := and after x := * where a statement begins
  Starts : List Part → Word → State
  StartsPrime : List Part → Word → State
  StartsGets : List Part → Word → State
  StartsStar : List Part → Word → State
  -- after { and after { x and after { x ' where a program or a system may follow
  Opens : List Part → ℕ → State
  OpensName : List Part → ℕ → Word → State
  OpensPrime : List Part → ℕ → Word → State
  -- where an item is wanted, after x, after x ', after x {|, after x {| y, and where it is whole
  WantsItem : List Part → ℕ → Items → State
  ItemName : List Part → ℕ → Items → Word → State
  ItemPrime : List Part → ℕ → Items → Word → State
  ItemBar : List Part → ℕ → Items → Word → State
  ItemBarName : List Part → ℕ → Items → Word → Word → State
  ItemEnds : List Part → ℕ → Items → State
  -- after @invariant
  Invariants : List Part → Phrase → State

abbrev pub primes : ℕ → Phrase → Phrase
primes zero t = t
primes (suc n) t = Diff (primes n t)

abbrev pub formula_primes : ℕ → Phrase → Phrase
formula_primes zero t = t
formula_primes (suc n) t = DiffF (formula_primes n t)

-- The piece as a tree of a sort.
abbrev pub as_sort : Sort → Piece → Option Phrase
as_sort Term (Is Term t l) = Some t
as_sort Formula (Is Formula t l) = Some t
as_sort Program (Is Program t l) = Some t
as_sort Term (Symbol h n l) = Some (primes n (Apply h))
as_sort Formula (Symbol h n l) = Some (formula_primes n (Holds h))
as_sort _ _ = None

abbrev pub tail_of : Piece → Tail
tail_of (Is s t l) = l
tail_of (Symbol h n l) = l

abbrev pub with_tail : Tail → Piece → Piece
with_tail k (Is s t l) = Is s t k
with_tail k (Symbol h n l) = Symbol h n k

abbrev pub program_sort : Sort → Bool
program_sort Term = false
program_sort Formula = false
program_sort Program = true

abbrev pub is_program : Piece → Bool
is_program (Is s t l) = program_sort s
is_program (Symbol h n l) = false

-- The level that an open part wants.
abbrev pub wanted : Part → ℕ
wanted (Left o a) = right_level o
wanted (Before p) = prefix_level p
wanted (Inside h) = 0

-- Closes an open part with its operand.
abbrev pub join : Part → Piece → Option Piece
join (Left o a) p = as_sort (operand_sort o) p >>= λ b. Some (Is (result_sort o) (binary o a b) Done)
join (Before o) p = as_sort (prefix_sort o) p >>= λ b. Some (Is (prefix_sort o) (unary o b) Done)
join (Inside h) p = None

-- Closes the open parts that want more than a level.
abbrev pub reduce : ℕ → List Part → Piece → Option (List Part × Piece)
reduce n [] p = Some ([], p)
reduce n (e ∷ S) p = if nat_lt n (wanted e) then (join e p >>= λ q. reduce n S q) else Some (e ∷ S, p)

abbrev pub round_sort : Bool → Sort
round_sort true = Formula
round_sort false = Term

abbrev pub held_sort : Holder → Sort
held_sort (Round b) = round_sort b
held_sort (Args n x l) = Term
held_sort (InContext x) = Formula
held_sort (In m) = Program
held_sort InBrace = Program
held_sort (Assigns x b) = Term
held_sort Tests = Formula
held_sort (Evolves n l x) = Term
held_sort (Domain n l) = Formula
held_sort (Notes t l) = Formula

-- What is to stand under these open parts. Where a formula is to stand, it may begin with a term.
abbrev pub place : Sort → List Part → Sort
place g [] = g
place g (Left o a ∷ S) = operand_sort o
place g (Before o ∷ S) = prefix_sort o
place g (Inside h ∷ S) = held_sort h

abbrev pub allows : Sort → Sort → Bool
allows Term Term = true
allows Formula Term = true
allows Formula Formula = true
allows Program Program = true
allows _ _ = false

abbrev pub fits : Sort → Sort → List Part → Bool
fits g s S = allows (place g S) s

-- A token where an operand or a statement is wanted.
abbrev pub start_operand : Sort → List Part → Lexeme → Option State
start_operand g S (Name n x) = Some (Has S (Is Term (Variable x false) (Bare n x)))
start_operand g S (Number n) = Some (Has S (Is Term (Literal n) Done))
start_operand g S (Dot n) = Some (Has S (Is Term (Argument n) Done))
start_operand g S Open = Some (Wants (Inside (Round (fits g Formula S)) ∷ S))
start_operand g S (Op Sub) = Some (Wants (Before Minus ∷ S))
start_operand g S True = when (fits g Formula S) (Some (Has S (Is Formula Truth Done)))
start_operand g S False = when (fits g Formula S) (Some (Has S (Is Formula Falsity Done)))
start_operand g S Blank = when (fits g Formula S) (Some (Has S (Is Formula Hole Done)))
start_operand g S Bang = when (fits g Formula S) (Some (Wants (Before Bang' ∷ S)))
start_operand g S All = when (fits g Formula S) (Some (Binds S ForAll))
start_operand g S Exist = when (fits g Formula S) (Some (Binds S ForSome))
start_operand g S OpenBox = when (fits g Formula S) (Some (Wants (Inside (In InBox) ∷ S)))
start_operand g S (Op Less) = when (fits g Formula S) (Some (Wants (Inside (In InDia) ∷ S)))
start_operand g S _ = None

abbrev pub start_statement : List Part → Lexeme → Option State
start_statement S (Name n x) = Some (Starts S x)
start_statement S Query = Some (Wants (Inside Tests ∷ S))
start_statement S (OpenBrace n) = Some (Opens S n)
start_statement S _ = None

abbrev pub start : Sort → List Part → Lexeme → Option State
start g S k = cond (program_sort (place g S)) (start_statement S k) (start_operand g S k)

-- An operator after an operand.
abbrev pub after_operand : Sort → Between → List Part → Piece → Option (List Part)
after_operand g o S p = reduce (level o) S p >>= λ r. as_sort (operand_sort o) r.1 >>= λ a. when (fits g (result_sort o) r.0) (Some (Left o a ∷ r.0))

-- A token after whole items.
abbrev pub items_step : List Part → ℕ → Items → Lexeme → Option State
items_step S n l Comma = Some (WantsItem S n l)
items_step S n l (Op And) = Some (Wants (Inside (Domain n l) ∷ S))
items_step S n l CloseBrace = Some (Has S (Is Program (System n l Truth) Braced))
items_step S n l _ = None

-- A token that closes a holder, by the holder and what stands in it.
abbrev pub close : Lexeme → Holder → List Part → Piece → Option State
close k (Evolves n l x) S p = as_sort Term p >>= λ t. items_step S n (add l (Evolve x t)) k
close Close (Round b) S p = Some (Has S (with_tail Grouped p))
close Close (Args n x l) S p = as_sort Term p >>= λ t. Some (Has S (Symbol (Call n x (snoc l t)) 0 Done))
close Comma (Args n x l) S p = as_sort Term p >>= λ t. Some (Wants (Inside (Args n x (snoc l t)) ∷ S))
close CloseBrace (InContext x) S p = as_sort Formula p >>= λ t. Some (Has S (Is Formula (Context x t) Done))
close CloseBox (In InBox) S p = as_sort Program p >>= λ t. Some (Wants (Before (Modal InBox t) ∷ S))
close (Op Greater) (In InDia) S p = as_sort Program p >>= λ t. Some (Wants (Before (Modal InDia t) ∷ S))
close CloseBrace InBrace S p = as_sort Program p >>= λ t. Some (Has S (Is Program t Braced))
close Semi (Assigns x b) S p = as_sort Term p >>= λ t. Some (Has S (Is Program (Assign x b t) Done))
close Semi Tests S p = as_sort Formula p >>= λ t. Some (Has S (Is Program (Test t) Done))
close CloseBrace (Domain n l) S p = as_sort Formula p >>= λ t. Some (Has S (Is Program (System n l t) Braced))
close Close (Notes b l) S p = as_sort Formula p >>= λ t. Some (Has S (Is Program (Noted b (snoc l t)) Annotated))
close Comma (Notes b l) S p = as_sort Formula p >>= λ t. Some (Wants (Inside (Notes b (snoc l t)) ∷ S))
close _ _ S p = None

abbrev pub close_top : Lexeme → List Part → Piece → Option State
close_top k [] p = None
close_top k (Left o a ∷ S) p = None
close_top k (Before o ∷ S) p = None
close_top k (Inside h ∷ S) p = close k h S p

abbrev pub closing : Lexeme → List Part → Piece → Option State
closing k S p = reduce 0 S p >>= λ r. close_top k r.0 r.1

-- The token & ends the term of an item, or joins two formulas.
abbrev pub and_top : Sort → List Part → Piece → Option State
and_top g (Inside (Evolves n l x) ∷ S) p = close (Op And) (Evolves n l x) S p
and_top g S p = as_sort Formula p >>= λ a. when (fits g Formula S) (Some (Wants (Left (By And) a ∷ S)))

abbrev pub infix_after : Sort → Infix → List Part → Piece → Option State
infix_after g And S p = reduce 4 S p >>= λ r. and_top g r.0 r.1
infix_after g o S p = after_operand g (By o) S p >>= λ T. Some (Wants T)

-- What may come behind a lone name.
abbrev pub name_after : Sort → List Part → Lexeme → Tail → Option State
name_after g S Open (Bare n x) = Some (Calls S n x)
name_after g S RoundBars (Bare n x) = Some (Has S (Symbol (Any x Everywhere) 0 Done))
name_after g S RoundBar (Bare n x) = Some (Bars S x)
name_after g S (OpenBrace m) (Bare n x) = when (fits g Formula S) (Some (Wants (Inside (InContext x) ∷ S)))
name_after g S _ _ = None

abbrev pub primed : Piece → Piece
primed (Is Term t l) = Is Term (Diff t) Done
primed (Is Formula t l) = Is Formula (DiffF t) Done
primed (Is Program t l) = Is Program t l
primed (Symbol h n l) = Symbol h (suc n) Done

abbrev pub prime_after : List Part → Piece → Tail → Option State
prime_after S p (Bare n x) = Some (Has S (Is Term (Variable x true) Done))
prime_after S p Grouped = Some (Has S (primed p))
prime_after S p _ = None

-- A star, an invariant or a semicolon after a brace.
abbrev pub star_after : List Part → Piece → Option State
star_after S (Is s t Braced) = Some (Has S (Is s (Loop t) Starred))
star_after S _ = None

abbrev pub invariant_after : List Part → Piece → Option State
invariant_after S (Is s t Braced) = Some (Invariants S t)
invariant_after S (Is s t Starred) = Some (Invariants S t)
invariant_after S _ = None

abbrev pub semi_after : List Part → Piece → Option State
semi_after S (Is s t Braced) = Some (Has S (Is s t Done))
semi_after S (Is s t Starred) = Some (Has S (Is s t Done))
semi_after S (Is s t Annotated) = Some (Has S (Is s t Done))
semi_after S _ = None

abbrev pub next_after : Sort → List Part → Piece → Lexeme → Option State
next_after g S p k = after_operand g Next S p >>= λ T. start_statement T k

-- A token after a program, and after a term or a formula.
abbrev pub after_program : Sort → List Part → Piece → Lexeme → Option State
after_program g S p (Op Mul) = star_after S p
after_program g S p (Op Choice) = infix_after g Choice S p
after_program g S p (Op Greater) = closing (Op Greater) S p
after_program g S p Invariant = invariant_after S p
after_program g S p Semi = semi_after S p
after_program g S p CloseBox = closing CloseBox S p
after_program g S p CloseBrace = closing CloseBrace S p
after_program g S p (Name n x) = next_after g S p (Name n x)
after_program g S p Query = next_after g S p Query
after_program g S p (OpenBrace n) = next_after g S p (OpenBrace n)
after_program g S p _ = None

abbrev pub after_other : Sort → List Part → Piece → Lexeme → Option State
after_other g S p (Op o) = infix_after g o S p
after_other g S p Open = name_after g S Open (tail_of p)
after_other g S p RoundBars = name_after g S RoundBars (tail_of p)
after_other g S p RoundBar = name_after g S RoundBar (tail_of p)
after_other g S p (OpenBrace m) = name_after g S (OpenBrace m) (tail_of p)
after_other g S p Prime = prime_after S p (tail_of p)
after_other g S p Close = closing Close S p
after_other g S p CloseBrace = closing CloseBrace S p
after_other g S p Comma = closing Comma S p
after_other g S p Semi = closing Semi S p
after_other g S p _ = None

abbrev pub call_step : Sort → List Part → ℕ → Word → Lexeme → Option State
call_step g S n x Close = Some (Has S (Symbol (Call n x none) 0 Done))
call_step g S n x k = start_operand g (Inside (Args n x none) ∷ S) k

abbrev pub bars_step : List Part → Word → Lexeme → Option State
bars_step S x (Name n y) = Some (BarsName S x y)
bars_step S x _ = None

abbrev pub bars_name_step : List Part → Word → Word → Lexeme → Option State
bars_name_step S x y BarRound = Some (Has S (Symbol (Any x (Except y)) 0 Done))
bars_name_step S x y _ = None

abbrev pub bind_step : List Part → Quantifier → Lexeme → Option State
bind_step S q (Name n x) = Some (Wants (Before (Bound q x) ∷ S))
bind_step S q _ = None

-- A statement behind its name.
abbrev pub statement_step : List Part → Word → Lexeme → Option State
statement_step S x Semi = Some (Has S (Is Program (Const x) Done))
statement_step S x Gets = Some (StartsGets S x)
statement_step S x Prime = Some (StartsPrime S x)
statement_step S x _ = None

abbrev pub statement_prime_step : List Part → Word → Lexeme → Option State
statement_prime_step S x Gets = Some (Wants (Inside (Assigns x true) ∷ S))
statement_prime_step S x _ = None

abbrev pub statement_gets_step : Sort → List Part → Word → Lexeme → Option State
statement_gets_step g S x (Op Mul) = Some (StartsStar S x)
statement_gets_step g S x k = start_operand g (Inside (Assigns x false) ∷ S) k

abbrev pub statement_star_step : List Part → Word → Lexeme → Option State
statement_star_step S x Semi = Some (Has S (Is Program (AssignAny x) Done))
statement_star_step S x _ = None

-- An item behind its name.
abbrev pub item_name_step : List Part → ℕ → Items → Word → Lexeme → Option State
item_name_step S n l x Prime = Some (ItemPrime S n l x)
item_name_step S n l x BraceBar = Some (ItemBar S n l x)
item_name_step S n l x k = items_step S n (add l (Flow x Everywhere)) k

abbrev pub item_prime_step : List Part → ℕ → Items → Word → Lexeme → Option State
item_prime_step S n l x (Op Equal) = Some (Wants (Inside (Evolves n l x) ∷ S))
item_prime_step S n l x _ = None

abbrev pub items_begin : List Part → ℕ → Items → Lexeme → Option State
items_begin S n l (Name m x) = Some (ItemName S n l x)
items_begin S n l _ = None

abbrev pub item_bar_step : List Part → ℕ → Items → Word → Lexeme → Option State
item_bar_step S n l x (Name m y) = Some (ItemBarName S n l x y)
item_bar_step S n l x _ = None

abbrev pub item_bar_name_step : List Part → ℕ → Items → Word → Word → Lexeme → Option State
item_bar_name_step S n l x y BarBrace = Some (ItemEnds S n (add l (Flow x (Except y))))
item_bar_name_step S n l x y _ = None

-- Behind a brace stands a program or a system; its first name and a prime leave both open.
abbrev pub opens_step : List Part → ℕ → Lexeme → Option State
opens_step S n (Name m x) = Some (OpensName S n x)
opens_step S n k = start_statement (Inside InBrace ∷ S) k

abbrev pub opens_name_step : List Part → ℕ → Word → Lexeme → Option State
opens_name_step S n x Prime = Some (OpensPrime S n x)
opens_name_step S n x Semi = statement_step (Inside InBrace ∷ S) x Semi
opens_name_step S n x Gets = statement_step (Inside InBrace ∷ S) x Gets
opens_name_step S n x k = item_name_step S n no_items x k

abbrev pub opens_prime_step : List Part → ℕ → Word → Lexeme → Option State
opens_prime_step S n x Gets = statement_prime_step (Inside InBrace ∷ S) x Gets
opens_prime_step S n x k = item_prime_step S n no_items x k

abbrev pub invariants_step : List Part → Phrase → Lexeme → Option State
invariants_step S t Open = Some (Wants (Inside (Notes t none) ∷ S))
invariants_step S t _ = None

abbrev pub step : Sort → State → Lexeme → Option State
step g (Wants S) k = start g S k
step g (Has S p) k = cond (is_program p) (after_program g S p k) (after_other g S p k)
step g (Calls S n x) k = call_step g S n x k
step g (Bars S x) k = bars_step S x k
step g (BarsName S x y) k = bars_name_step S x y k
step g (Binds S q) k = bind_step S q k
step g (Starts S x) k = statement_step S x k
step g (StartsPrime S x) k = statement_prime_step S x k
step g (StartsGets S x) k = statement_gets_step g S x k
step g (StartsStar S x) k = statement_star_step S x k
step g (Opens S n) k = opens_step S n k
step g (OpensName S n x) k = opens_name_step S n x k
step g (OpensPrime S n x) k = opens_prime_step S n x k
step g (WantsItem S n l) k = items_begin S n l k
step g (ItemName S n l x) k = item_name_step S n l x k
step g (ItemPrime S n l x) k = item_prime_step S n l x k
step g (ItemBar S n l x) k = item_bar_step S n l x k
step g (ItemBarName S n l x y) k = item_bar_name_step S n l x y k
step g (ItemEnds S n l) k = items_step S n l k
step g (Invariants S t) k = invariants_step S t k

-- The tree, where nothing is open any more.
abbrev pub whole : Sort → List Part → Piece → Option Phrase
whole g [] p = as_sort g p
whole g (e ∷ S) p = None

abbrev pub ended : Sort → State → Option Phrase
ended g (Has S p) = reduce 0 S p >>= λ r. whole g r.0 r.1
ended g _ = None
