-- How a reader's lists show the machine's states: the open parts without their phrases, and the operators of all phrases in order.
use Rattle.std.specs.Prelude.{◌≡◌, ℕ, zero, suc, Bool, true, false, nat_lt, List, [], ◌∷◌, ◌++◌, Option, Some, None, Result, Ok, Err}
use Rattle.dlk_tree.specs.declared.op.Sort.{Sort}
use Rattle.dlk_tree.specs.declared.op.Sort.TheVariants.{Term, Formula}
use Rattle.dlk_tree.specs.declared.op.Kind.TheVariants.{UnitFunc, UnitPred}
use Rattle.dlk_tree.specs.declared.op.Op.{Op}
use Rattle.dlk_tree.specs.declared.op.Op.TheVariants as op
use Rattle.dlk_grammar.specs.Erased.{infix_op, ode_items, taboo, count}
use Rattle.dlk_grammar.specs.declared.token.Infix.TheVariants.{And, Greater, Mul}
use Rattle.dlk_grammar.specs.Lexemes.{Word, Lexeme, Name, Number, Dot, Blank, True, False, All, Exist, Invariant, RoundBars, RoundBar, BarRound}
use Rattle.dlk_grammar.specs.Lexemes.{BraceBar, BarBrace, Open, Close, OpenBox, CloseBox, OpenBrace, CloseBrace, Bang, Prime, Gets, Query, Semi}
use Rattle.dlk_grammar.specs.Lexemes.{Comma, Turnstile, Becomes, Swaps, Op as Operator}
use Rattle.dlk_grammar.specs.Phrases.{Space, Everywhere, Except, Phrase, Variable, Apply, Holds, Head, Call, Any, Items}
use Rattle.dlk_machine.specs.Machine.{◌>>=◌, when, as_sort, operand_sort, result_sort, fits, Between, By, Next, Quantifier, ForAll, ForSome, Modality}
use Rattle.dlk_machine.specs.Machine.{InBox, InDia, Prefix, Minus, Bang', Bound, Modal, Holder, Round, Args, InContext, In, InBrace, Assigns, Tests}
use Rattle.dlk_machine.specs.Machine.{Evolves, Domain, Notes, Part, Left, Before, Inside, Tail, Done, Bare, Grouped, Braced, Starred, Annotated}
use Rattle.dlk_machine.specs.Machine.{Piece, Is, Symbol, State, Wants, Has, Calls, Bars, BarsName, Binds, Starts, StartsPrime, StartsGets, StartsStar}
use Rattle.dlk_machine.specs.Machine.{Opens, OpensName, OpensPrime, WantsItem, ItemName, ItemPrime, ItemBar, ItemBarName, ItemEnds, Invariants}
use Rattle.dlk_machine.specs.Machine.{wanted}
use Rattle.dlk_reader.specs.Codes.{postfix, postfix_all, postfix_terms}
use Rattle.dlk_reader.specs.declared.code.Code.{Code}
use Rattle.dlk_reader.specs.declared.code.Code.TheVariants as code
use Rattle.dlk_reader.specs.declared.stop.LexemeFault.{LexemeFault}
use Rattle.dlk_reader.specs.declared.stop.LexemeFault.TheVariants.{Memory, Syntax}
use Rattle.dlk_reader.specs.Halves.{number_of}
use Rattle.dlk_reader.specs.declared.lexeme.Lexeme.{Lexeme as SeenLexeme}
use Rattle.dlk_reader.specs.declared.lexeme.Lexeme.TheVariants as lexeme
use Rattle.dlk_reader.specs.declared.parts.Between.{Between as BetweenPart}
use Rattle.dlk_reader.specs.declared.parts.Between.TheVariants as between
use Rattle.dlk_reader.specs.declared.parts.Quantifier.{Quantifier as QuantifierPart}
use Rattle.dlk_reader.specs.declared.parts.Quantifier.TheVariants as quantifier
use Rattle.dlk_reader.specs.declared.parts.Modality.{Modality as ModalityPart}
use Rattle.dlk_reader.specs.declared.parts.Modality.TheVariants as modality
use Rattle.dlk_reader.specs.declared.parts.Prefix.{Prefix as PrefixPart}
use Rattle.dlk_reader.specs.declared.parts.Prefix.TheVariants as prefix
use Rattle.dlk_reader.specs.declared.parts.Equations.{Equations}
use Rattle.dlk_reader.specs.declared.parts.Holder.{Holder as HolderPart}
use Rattle.dlk_reader.specs.declared.parts.Holder.TheVariants as holder
use Rattle.dlk_reader.specs.declared.parts.Part.{Part as OpenPart}
use Rattle.dlk_reader.specs.declared.parts.Part.TheVariants as part
use Rattle.dlk_reader.specs.declared.parts.Tail.TheVariants as tail
use Rattle.dlk_reader.specs.declared.parts.Head.{Head as HeadPart}
use Rattle.dlk_reader.specs.declared.parts.Head.TheVariants as head
use Rattle.dlk_reader.specs.declared.parts.Last.{Last}
use Rattle.dlk_reader.specs.declared.parts.Last.TheVariants as last
use Rattle.dlk_reader.specs.declared.parts.Mode.{Mode}
use Rattle.dlk_reader.specs.declared.parts.Mode.TheVariants as mode
use Rattle.dlk_reader.specs.declared.parts.Closer.{Closer}
use Rattle.dlk_reader.specs.declared.parts.Closer.TheVariants as closer
use Rattle.dlk_reader.specs.declared.stack.Stack.{Stack}

-- a lexeme of the code
abbrev pub seen : SeenLexeme → Lexeme
seen (lexeme.Name n x) = Name n x
seen (lexeme.Number n) = Number (number_of n)
seen (lexeme.Dot n) = Dot n
seen lexeme.Blank = Blank
seen lexeme.True = True
seen lexeme.False = False
seen lexeme.All = All
seen lexeme.Exist = Exist
seen lexeme.Invariant = Invariant
seen lexeme.RoundBars = RoundBars
seen lexeme.RoundBar = RoundBar
seen lexeme.BarRound = BarRound
seen lexeme.BraceBar = BraceBar
seen lexeme.BarBrace = BarBrace
seen lexeme.Open = Open
seen lexeme.Close = Close
seen lexeme.OpenBox = OpenBox
seen lexeme.CloseBox = CloseBox
seen (lexeme.OpenBrace n) = OpenBrace n
seen lexeme.CloseBrace = CloseBrace
seen lexeme.Bang = Bang
seen lexeme.Prime = Prime
seen lexeme.Gets = Gets
seen lexeme.Query = Query
seen lexeme.Semi = Semi
seen lexeme.Comma = Comma
seen lexeme.Turnstile = Turnstile
seen lexeme.Becomes = Becomes
seen lexeme.Swaps = Swaps
seen (lexeme.Op o) = Operator o

-- the name that a lexeme is
abbrev pub IsNameOf : Lexeme → Result Word LexemeFault → Type 0
IsNameOf (Name n x) result = result ≡ Ok x
IsNameOf _ result = result ≡ Err Syntax

-- the star, which behind `:=` stands for any value
abbrev pub is_star : SeenLexeme → Bool
is_star (lexeme.Op Mul) = true
is_star _ = false

-- the lexemes of one token
abbrev pub IsSeen : List Lexeme → Option SeenLexeme → Type 0
IsSeen s (Some k) = s ≡ seen k ∷ []
IsSeen s None = s ≡ []

-- The parts of the code, without their phrases.
abbrev pub between_of : Between → BetweenPart
between_of (By o) = between.By o
between_of Next = between.Next

-- what stands between two operands, of the code
abbrev pub said : BetweenPart → Between
said (between.By o) = By o
said between.Next = Next

abbrev pub quantifier_of : Quantifier → QuantifierPart
quantifier_of ForAll = quantifier.ForAll
quantifier_of ForSome = quantifier.ForSome

abbrev pub modality_of : Modality → ModalityPart
modality_of InBox = modality.InBox
modality_of InDia = modality.InDia

abbrev pub prefix_of : Prefix → PrefixPart
prefix_of Minus = prefix.Minus
prefix_of Bang' = prefix.Not
prefix_of (Bound q x) = prefix.Bound (quantifier_of q) x
prefix_of (Modal m p) = prefix.Modal (modality_of m)

abbrev pub equations_of : ℕ → Items → Equations
equations_of n l = record { at = n; items = ode_items l }

-- the variables on which a symbol may depend
abbrev pub space_of : Option Word → Space
space_of None = Everywhere
space_of (Some y) = Except y

abbrev pub holder_of : Holder → HolderPart
holder_of (Round b) = holder.Round b
holder_of (Args n x l) = holder.Args n x (count l)
holder_of (InContext x) = holder.InContext x
holder_of (In m) = holder.In (modality_of m)
holder_of InBrace = holder.InBrace
holder_of (Assigns x b) = holder.Assigns x b
holder_of Tests = holder.Tests
holder_of (Evolves n l x) = holder.Evolves (equations_of n l) x
holder_of (Domain n l) = holder.Domain (equations_of n l)
holder_of (Notes t l) = holder.Notes (count l)

abbrev pub shape : Part → OpenPart
shape (Left o a) = part.Left (between_of o)
shape (Before p) = part.Before (prefix_of p)
shape (Inside h) = part.Inside (holder_of h)

-- The operator of the tree that a part makes.
abbrev pub operator_of : Between → Op
operator_of (By o) = infix_op o
operator_of Next = op.Seq

abbrev pub operator_before : Prefix → Op
operator_before Minus = op.Neg
operator_before Bang' = op.Not
operator_before (Bound ForAll x) = op.Forall x
operator_before (Bound ForSome x) = op.Exists x
operator_before (Modal InBox p) = op.Box
operator_before (Modal InDia p) = op.Dia

-- The operators of the phrases that are read whole in a part.
abbrev pub prefix_code : Prefix → List Code
prefix_code Minus = []
prefix_code Bang' = []
prefix_code (Bound q x) = []
prefix_code (Modal m p) = postfix p

abbrev pub holder_code : Holder → List Code
holder_code (Round b) = []
holder_code (Args n x l) = postfix_all l
holder_code (InContext x) = []
holder_code (In m) = []
holder_code InBrace = []
holder_code (Assigns x b) = []
holder_code Tests = []
holder_code (Evolves n l x) = postfix_terms l
holder_code (Domain n l) = postfix_terms l
holder_code (Notes t l) = postfix t ++ (code.Notes ∷ postfix_all l)

abbrev pub part_code : Part → List Code
part_code (Left o a) = postfix a
part_code (Before p) = prefix_code p
part_code (Inside h) = holder_code h

-- The innermost open part stands at the end.
abbrev pub shapes : List Part → List OpenPart
shapes [] = []
shapes (e ∷ S) = shapes S ++ shape e ∷ []

abbrev pub stack_code : List Part → List Code
stack_code [] = []
stack_code (e ∷ S) = stack_code S ++ part_code e

-- What was read last. A lone name is a variable; its operator and that of a symbol aren't written yet.
abbrev pub head_of : Head → HeadPart
head_of (Call n x l) = head.Call n x (count l)
head_of (Any x s) = head.Any x (taboo s)

abbrev pub head_code : Head → List Code
head_code (Call n x l) = postfix_all l
head_code (Any x s) = []

abbrev pub last_tree : Sort → Tail → Last
last_tree s Done = last.Tree s tail.Done
last_tree s (Bare n x) = last.Name n x
last_tree s Grouped = last.Tree s tail.Grouped
last_tree s Braced = last.Tree s tail.Braced
last_tree s Starred = last.Tree s tail.Starred
last_tree s Annotated = last.Tree s tail.Annotated

abbrev pub last_symbol : HeadPart → ℕ → Tail → Last
last_symbol h n Done = last.Symbol h n tail.Done
last_symbol h n (Bare m x) = last.Name m x
last_symbol h n Grouped = last.Symbol h n tail.Grouped
last_symbol h n Braced = last.Symbol h n tail.Braced
last_symbol h n Starred = last.Symbol h n tail.Starred
last_symbol h n Annotated = last.Symbol h n tail.Annotated

abbrev pub last_of : Piece → Last
last_of (Is s t k) = last_tree s k
last_of (Symbol h n k) = last_symbol (head_of h) n k

abbrev pub tree_code : Phrase → Tail → List Code
tree_code t Done = postfix t
tree_code t (Bare n x) = []
tree_code t Grouped = postfix t
tree_code t Braced = postfix t
tree_code t Starred = postfix t
tree_code t Annotated = postfix t

abbrev pub piece_code : Piece → List Code
piece_code (Is s t k) = tree_code t k
piece_code (Symbol h n k) = head_code h

abbrev pub IsVariable : Tail → Piece → Type 0
IsVariable Done p = Unit {0}
IsVariable (Bare n x) p = p ≡ Is Term (Variable x false) (Bare n x)
IsVariable Grouped p = Unit {0}
IsVariable Braced p = Unit {0}
IsVariable Starred p = Unit {0}
IsVariable Annotated p = Unit {0}

abbrev pub tail_of : Piece → Tail
tail_of (Is s t k) = k
tail_of (Symbol h n k) = k

pub record IsLast (l : Last) (p : Piece) : Type 0 where
  pub same : l ≡ last_of p
  pub lone : IsVariable (tail_of p) p

-- The lists show these open parts, with code behind them.
pub record IsOpen (k : Stack) (S : List Part) (behind : List Code) : Type 0 where
  pub parts : k.parts.items ≡ shapes S
  pub out : k.out.items ≡ stack_code S ++ behind

pub record Keeps (k : Stack) (m n : Mode) (S : List Part) (behind : List Code) : Type 0 where
  pub mode : m ≡ n
  pub lists : IsOpen k S behind

pub record HasPiece (k : Stack) (m : Mode) (S : List Part) (p : Piece) : Type 0 where
  pub mode : m ≡ mode.Has (last_of p)
  pub lone : IsVariable (tail_of p) p
  pub lists : IsOpen k S (piece_code p)

-- What a reader's lists and its mode show.
abbrev pub Shows : Stack → Mode → State → Type 0
Shows k m (Wants S) = Keeps k m mode.Wants S []
Shows k m (Has S p) = HasPiece k m S p
Shows k m (Calls S n x) = Keeps k m (mode.Calls n x) S []
Shows k m (Bars S x) = Keeps k m (mode.Bars x) S []
Shows k m (BarsName S x y) = Keeps k m (mode.BarsName x y) S []
Shows k m (Binds S q) = Keeps k m (mode.Binds (quantifier_of q)) S []
Shows k m (Starts S x) = Keeps k m (mode.Starts x) S []
Shows k m (StartsPrime S x) = Keeps k m (mode.StartsPrime x) S []
Shows k m (StartsGets S x) = Keeps k m (mode.StartsGets x) S []
Shows k m (StartsStar S x) = Keeps k m (mode.StartsStar x) S []
Shows k m (Opens S n) = Keeps k m (mode.Opens n) S []
Shows k m (OpensName S n x) = Keeps k m (mode.OpensName n x) S []
Shows k m (OpensPrime S n x) = Keeps k m (mode.OpensPrime n x) S []
Shows k m (WantsItem S n l) = Keeps k m (mode.WantsItem (equations_of n l)) S (postfix_terms l)
Shows k m (ItemName S n l x) = Keeps k m (mode.ItemName (equations_of n l) x) S (postfix_terms l)
Shows k m (ItemPrime S n l x) = Keeps k m (mode.ItemPrime (equations_of n l) x) S (postfix_terms l)
Shows k m (ItemBar S n l x) = Keeps k m (mode.ItemBar (equations_of n l) x) S (postfix_terms l)
Shows k m (ItemBarName S n l x y) = Keeps k m (mode.ItemBarName (equations_of n l) x y) S (postfix_terms l)
Shows k m (ItemEnds S n l) = Keeps k m (mode.ItemEnds (equations_of n l)) S (postfix_terms l)
Shows k m (Invariants S t) = Keeps k m mode.Invariants S (postfix t)

-- a symbol as a formula where it holds, or as a term
abbrev pub symbol_of : Bool → Head → Phrase
symbol_of true h = Holds h
symbol_of false h = Apply h

abbrev pub unit_code : Bool → Word → Option Word → Code
unit_code true x y = code.Operator (op.UnitPred (record { kind = UnitPred; name = x; arity = 0; taboo = y }))
unit_code false x y = code.Operator (op.UnitFun (record { kind = UnitFunc; name = x; arity = 0; taboo = y }))

-- the operators of its primes
abbrev pub prime_code : Bool → Code
prime_code true = code.Operator op.DiffF
prime_code false = code.Operator op.Diff

abbrev pub primes_code : Bool → ℕ → List Code
primes_code b zero = []
primes_code b (suc n) = primes_code b n ++ prime_code b ∷ []

-- an operator behind its left operand, which is whole
abbrev pub left_opened : Sort → Between → List Part → Piece → Option (List Part)
left_opened g o S p = as_sort (operand_sort o) p >>= λ a. when (fits g (result_sort o) S) (Some (Left o a ∷ S))

-- two formulas joined by &
abbrev pub formulas_joined : Sort → List Part → Piece → Option State
formulas_joined g S p = as_sort Formula p >>= λ a. when (fits g Formula S) (Some (Wants (Left (By And) a ∷ S)))

-- What stands in a bracket may have any sort; what stands in another holder has one.
abbrev pub IsNoBracket : Holder → Type 0
IsNoBracket (Round b) = ⊥
IsNoBracket h = Unit {0}

abbrev pub closer_lexeme : Closer → Lexeme
closer_lexeme closer.Round = Close
closer_lexeme closer.Square = CloseBox
closer_lexeme closer.Brace = CloseBrace
closer_lexeme closer.Greater = Operator Greater
closer_lexeme closer.Comma = Comma
closer_lexeme closer.Semicolon = Semi

-- Nothing is open, and the phrase is whole.
pub record IsWhole (k : Stack) (t : Phrase) : Type 0 where
  pub parts : k.parts.items ≡ []
  pub out : k.out.items ≡ postfix t

-- What a call answered is what the definition gives, unless memory ran out.
abbrev pub Agrees : {X Y : Type 0} → (X → Y → Type 0) → Result X LexemeFault → Option Y → Type 0
Agrees shows (Ok x) (Some y) = shows x y
Agrees shows (Ok x) None = ⊥
Agrees shows (Err Memory) o = Unit {0}
Agrees shows (Err Syntax) (Some y) = ⊥
Agrees shows (Err Syntax) None = Unit {0}

-- the innermost open part, and what remains without it
abbrev pub Pops : List Part → Option OpenPart → List OpenPart → Type 0
Pops [] r items = (r ≡ None) × (items ≡ [])
Pops (e ∷ S) r items = (r ≡ Some (shape e)) × (items ≡ shapes S)

-- The last part is taken where it wants more than a level.
abbrev pub TakesIf : Bool → OpenPart → List OpenPart → Option OpenPart → List OpenPart → Type 0
TakesIf true x front r items = (r ≡ Some x) × (items ≡ front)
TakesIf false x front r items = (r ≡ None) × (items ≡ front ++ x ∷ [])

abbrev pub TakesAbove : ℕ → List Part → Option OpenPart → List OpenPart → Type 0
TakesAbove n [] r items = (r ≡ None) × (items ≡ [])
TakesAbove n (e ∷ S) r items = TakesIf (nat_lt n (wanted e)) (shape e) (shapes S) r items

-- The lists show these open parts, and this was read last.
pub record Stands (k : Stack) (l : Last) (S : List Part) (p : Piece) : Type 0 where
  pub last : IsLast l p
  pub lists : IsOpen k S (piece_code p)

abbrev pub Reduces : Stack → Last → List Part × Piece → Type 0
Reduces k l r = Stands k l r.0 r.1

-- a tree whose operators are written, and what is open
pub record Writes (new : List Code) (before : List Code) (t : Phrase) : Type 0 where
  pub out : new ≡ before ++ postfix t

pub record Joins (new before : List Code) (l : Last) (p : Piece) : Type 0 where
  pub last : IsLast l p
  pub out : new ≡ before ++ piece_code p
