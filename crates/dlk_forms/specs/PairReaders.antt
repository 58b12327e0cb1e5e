-- How the reader of substitutions shows the machine's states, and what comes of it.
use Rattle.std.specs.Prelude.{◌≡◌, List, [], ◌∷◌, ◌++◌, map, flat_map, Bool, true, false, Option, Some, None}
use Rattle.dlk_tree.specs.declared.op.Sort.{Sort}
use Rattle.dlk_tree.specs.declared.op.Sort.TheVariants.{Term, Formula, Program}
use Rattle.dlk_tree.specs.declared.op.Sym.{Sym}
use Rattle.dlk_grammar.specs.Phrases.{Phrase}
use Rattle.dlk_grammar.specs.Substitutions.{Target, Over, Unit as UnitOf, function, predicate, PairPhrase, to, replacements}
use Rattle.dlk_grammar.specs.Lexemes.{Lexeme, Op}
use Rattle.dlk_grammar.specs.declared.token.Infix.TheVariants.{And}
use Rattle.dlk_grammar.specs.declared.token.Dots.TheVariants.{Allowed}
use Rattle.dlk_machine.specs.Machine.{◌>>=◌, Part, Piece, Is, Braced, State, Has, whole}
use Rattle.dlk_machine.specs.Pairs.{Right, EitherOf, TextOf, SystemOf, PairState, Begins, LeftName, TermName, Calls, DotsOf, DotWanted, Bars}
use Rattle.dlk_machine.specs.Pairs.{BarsName, InContext, ContextHole, FlowOpens, FlowName, FlowBar, FlowBarName, FlowExcept, LeftEnds, InRight}
use Rattle.dlk_machine.specs.Pairs.{BraceWanted, InSystem, SystemEnds, PairsState, Fresh, Within, pairs_reader}
use Rattle.dlk_reader.specs.Codes.{postfix}
use Rattle.dlk_reader.specs.Outcomes.{Outcome}
use Rattle.dlk_reader.specs.Shows.{space_of, IsOpen, IsWhole, Shows}
use Rattle.dlk_reader.specs.Ends.{either_sort}
use Rattle.dlk_reader.specs.declared.parts.Mode.{Mode}
use Rattle.dlk_reader.specs.declared.stack.Stack.{Stack}
use Rattle.dlk_forms.specs.Parsing.{Comes}
use Rattle.dlk_forms.specs.Said.{IsCodeOfPairs}
use Rattle.dlk_forms.specs.declared.pair_heads.Target.{Target as TargetPart}
use Rattle.dlk_forms.specs.declared.pair_heads.Target.TheVariants as target
use Rattle.dlk_forms.specs.declared.pair_heads.Right.{Right as RightPart}
use Rattle.dlk_forms.specs.declared.pair_heads.Right.TheVariants as right
use Rattle.dlk_forms.specs.declared.pair_heads.LeftMode.{LeftMode}
use Rattle.dlk_forms.specs.declared.pair_heads.LeftMode.TheVariants as left
use Rattle.dlk_forms.specs.declared.pairs.PairMode.{PairMode}
use Rattle.dlk_forms.specs.declared.pairs.PairMode.TheVariants as pair
use Rattle.dlk_forms.specs.declared.pairs.PairsSoFar.{PairsSoFar}
use Rattle.dlk_forms.specs.declared.pairs.PairsReader.{PairsReader}
use Rattle.dlk_forms.specs.declared.pairs.PairsCode.{PairsCode}

-- left sides of the code
abbrev pub target_of : TargetPart → Target
target_of (target.Over x n) = Over x n
target_of (target.Unit x y) = UnitOf x (space_of y)

abbrev pub wants : RightPart → Right
wants (right.EitherOf h) = EitherOf (target_of h)
wants (right.TextOf g s) = TextOf g s
wants (right.SystemOf s) = SystemOf s

abbrev pub left_state : LeftMode → PairState
left_state left.Begins = Begins
left_state (left.LeftName x) = LeftName x
left_state (left.TermName x) = TermName x
left_state (left.Calls e x) = Calls e x
left_state (left.DotsOf e x n) = DotsOf e x n
left_state (left.DotWanted e x n) = DotWanted e x n
left_state (left.Bars e x) = Bars e x
left_state (left.BarsName e x y) = BarsName e x y
left_state (left.InContext x) = InContext x
left_state (left.ContextHole x) = ContextHole x
left_state left.FlowOpens = FlowOpens
left_state (left.FlowName x) = FlowName x
left_state (left.FlowBar x) = FlowBar x
left_state (left.FlowBarName x y) = FlowBarName x y
left_state (left.FlowExcept x y) = FlowExcept x y

-- a state of a left side
abbrev pub IsLeft : PairMode → PairState → Type 0
IsLeft (pair.Left m) x = x ≡ left_state m
IsLeft (pair.LeftEnds w) x = x ≡ LeftEnds (wants w)
IsLeft _ x = ⊥

-- the symbol of a function or a predicate whose right side is of a sort
abbrev pub symbol_as : Sort → Target → Sym
symbol_as Term h = function h
symbol_as Formula h = predicate h
symbol_as Program h = function h

-- the pair whose right side is what was read last, where nothing is open
abbrev pub right_whole : Right → List Part → Piece → Option PairPhrase
right_whole (EitherOf h) S p = whole (either_sort p) S p >>= λ t. Some (to (symbol_as (either_sort p) h) t)
right_whole (TextOf g s) S p = whole g S p >>= λ t. Some (to s t)
right_whole (SystemOf s) S p = None

abbrev pub with_pair : List PairPhrase → Option PairPhrase → Option (List PairPhrase)
with_pair l o = o >>= λ q. Some (l ++ q ∷ [])

-- the symbol of a pair, and its right side on the stack
pub record IsPairOf (k : Stack) (s : Sym) (q : PairPhrase) : Type 0 where
  pub symbol : s ≡ q.sym
  pub whole : IsWhole k q.by

-- the pairs so far
pub record KeepsPairs (r : PairsSoFar) (l : List PairPhrase) : Type 0 where
  pub symbols : r.symbols.items ≡ map (λ p. p.sym) l
  pub done : r.done.items ≡ flat_map postfix (replacements l)

-- nothing stands on the stack
pub record Rests (r : PairsSoFar) (l : List PairPhrase) : Type 0 where
  pub pairs : KeepsPairs r l
  pub lists : IsOpen r.stack [] []

-- a state in which nothing stands on the stack
pub record RestsAt (r : PairsSoFar) (l : List PairPhrase) (x y : PairState) : Type 0 where
  pub state : x ≡ y
  pub rests : Rests r l

-- a right side of a text, of which something was read
pub record ShowsRight (r : PairsSoFar) (l : List PairPhrase) (w : Right) (m : Mode) (x : PairState) : Type 0 where
  pub inner : State
  pub state : x ≡ InRight w inner
  pub pairs : KeepsPairs r l
  pub shows : Shows r.stack m inner

-- a system, of which something was read
pub record ShowsSystem (r : PairsSoFar) (l : List PairPhrase) (s : Sym) (m : Mode) (x : PairState) : Type 0 where
  pub inner : State
  pub state : x ≡ InSystem s inner
  pub pairs : KeepsPairs r l
  pub shows : Shows r.stack m inner

-- a whole system, which is on the stack
pub record ShowsEnd (r : PairsSoFar) (l : List PairPhrase) (s : Sym) (x : PairState) : Type 0 where
  pub system : Phrase
  pub state : x ≡ SystemEnds s system
  pub pairs : KeepsPairs r l
  pub whole : IsWhole r.stack system

-- the lexeme that begins a domain
abbrev pub is_and : Lexeme → Bool
is_and (Op And) = true
is_and k = false

-- whether a program is whole behind a brace, and nothing is open
abbrev pub is_system : State → Bool
is_system (Has [] (Is Program t Braced)) = true
is_system x = false

abbrev pub ShowsPair : PairsSoFar → List PairPhrase → PairMode → PairState → Type 0
ShowsPair r l (pair.Left m) x = RestsAt r l x (left_state m)
ShowsPair r l (pair.LeftEnds w) x = RestsAt r l x (LeftEnds (wants w))
ShowsPair r l (pair.InRight w m) x = ShowsRight r l (wants w) m x
ShowsPair r l (pair.BraceWanted s) x = RestsAt r l x (BraceWanted s)
ShowsPair r l (pair.InSystem s m) x = ShowsSystem r l s m x
ShowsPair r l (pair.SystemEnds s) x = ShowsEnd r l s x

-- whole pairs, and what is read of the next
pub record ShowsWithin (r : PairsSoFar) (m : PairMode) (x : PairsState) : Type 0 where
  pub pairs : List PairPhrase
  pub pair : PairState
  pub state : x ≡ Within pairs pair
  pub shows : ShowsPair r pairs m pair

-- nothing was read
pub record ShowsNothing (r : PairsSoFar) (x : PairsState) : Type 0 where
  pub state : x ≡ Fresh
  pub rests : Rests r []

abbrev pub ShowsPairsAt : PairsSoFar → Option PairMode → PairsState → Type 0
ShowsPairsAt r None x = ShowsNothing r x
ShowsPairsAt r (Some m) x = ShowsWithin r m x

abbrev pub ShowsPairs : PairsReader → PairsState → Type 0
ShowsPairs r x = ShowsPairsAt r.pairs r.mode x

-- What comes of the reader.
abbrev pub PairsComes : PairsReader → List Lexeme → Outcome PairsCode → Type 0
PairsComes r s o = Comes Allowed pairs_reader ShowsPairs IsCodeOfPairs r s o
