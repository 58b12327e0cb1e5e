-- The trees that grow part by part, and the parts that they have.
use Rattle.std.proofs.Common.{ℕ, ◌+◌, ◌≤◌, nat_lt, nat_le, List, [], ◌∷◌, ◌++◌, Option, Some, None}
use Rattle.dlk_scripts.specs.declared.part.Part.{Part}
use Rattle.dlk_scripts.specs.declared.part.PartKind.{PartKind}
use Rattle.dlk_scripts.specs.declared.part.PartKind.TheVariants as kind
use Rattle.dlk_scripts.specs.Parts.{part}
use Rattle.dlk_scripts.specs.Scripts.{Word, Place, Right, Left, Below, Argument, At, AnyLeft, AnyRight, Word', Quoted, Arguments, OneArgument}
use Rattle.dlk_scripts.specs.Scripts.{ThenArgument, Script, OneSequence, OrSequence, Sequence, OneRepeat, ThenRepeat, ThenBranch, Scripts, OneScript}
use Rattle.dlk_scripts.specs.Scripts.{ThenScript, Repeat, Once, Times, Group, Atom, Call, place_parts, argument_parts, arguments_parts, script_parts}
use Rattle.dlk_scripts.specs.Scripts.{sequence_parts, scripts_parts, repeat_parts, most_repeats, repeats, PlaceFits, ArgumentFits, ArgumentsFit}
use Rattle.dlk_scripts.specs.Scripts.{ScriptFits, SequenceFits, ScriptsFit, RepeatFits}
use Rattle.dlk_scripts.specs.Table.{when}

-- what stands up to the last "|", up to the last ";" and up to the last "," in the innermost bracket
pub data Bars : Type 0 where
  NoBar : Bars
  Bar : Script → ℕ → Bars

pub data Semis : Type 0 where
  NoSemi : Semis
  Semi : Sequence → ℕ → Semis

pub data Commas : Type 0 where
  NoComma : Commas
  Comma : Scripts → ℕ → Commas

-- the brackets that are open, with what stands before each
pub data Stack : Type 0 where
  Top : Stack
  InGroup : Stack → Bars → Semis → ℕ → Stack
  InFork : Stack → Bars → Sequence → ℕ → ℕ → Commas → Stack

pub data ArgumentCommas : Type 0 where
  NoArgument : ArgumentCommas
  Before : Arguments → ℕ → ArgumentCommas

-- what stands before the arguments of a call
pub data Callee : Type 0 where
  callee : Stack → Bars → Semis → ℕ → Word → ℕ → Callee

-- an argument so far
pub data Piece : Type 0 where
  Begun : Piece
  Signed : ℕ → Piece
  InPlace : Place → Piece
  Dotted : Place → ℕ → Piece
  Whole : Argument → Piece

pub data Grown : Type 0 where
  Wanting : Stack → Bars → Semis → Grown
  Come : Stack → Bars → Semis → Repeat → Grown
  Stars : Stack → Bars → Semis → Repeat → ℕ → Grown
  Branched : Stack → Bars → Sequence → Grown
  InCall : Callee → ArgumentCommas → Piece → Grown

abbrev pub sequence_of : Semis → Repeat → Sequence
sequence_of NoSemi r = OneRepeat r
sequence_of (Semi q at) r = ThenRepeat q at r

abbrev pub script_of : Bars → Sequence → Script
script_of NoBar q = OneSequence q
script_of (Bar t at) q = OrSequence t at q

abbrev pub scripts_of : Commas → Script → Scripts
scripts_of NoComma t = OneScript t
scripts_of (Comma l at) t = ThenScript l at t

abbrev pub arguments_of : ArgumentCommas → Argument → Arguments
arguments_of NoArgument a = OneArgument a
arguments_of (Before l at) a = ThenArgument l at a

-- how they grow
abbrev pub grow_comma : Stack → Script → ℕ → Option Grown
grow_comma Top t at = None
grow_comma (InGroup S A Q o) t at = None
grow_comma (InFork S A q s f c) t at = Some (Wanting (InFork S A q s f (Comma (scripts_of c t) at)) NoBar NoSemi)

abbrev pub grow_close : Stack → Script → ℕ → Option Grown
grow_close Top t at = None
grow_close (InGroup S A Q o) t at = Some (Come S A Q (Once (Group o t at)))
grow_close (InFork S A q s f c) t at = Some (Branched S A (ThenBranch q s f (scripts_of c t) at))

abbrev pub grow_joins : Stack → Bars → Sequence → ℕ → PartKind → Option Grown
grow_joins S A q at kind.Semicolon = Some (Wanting S A (Semi q at))
grow_joins S A q at kind.Bar = Some (Wanting S (Bar (script_of A q) at) NoSemi)
grow_joins S A q at kind.Comma = grow_comma S (script_of A q) at
grow_joins S A q at kind.Close = grow_close S (script_of A q) at
grow_joins S A q at _ = None

abbrev pub grow_call : Stack → Bars → Semis → Repeat → ℕ → Option Grown
grow_call S A Q (Once (Atom n w)) at = Some (InCall (callee S A Q n w at) NoArgument Begun)
grow_call S A Q (Once (Group o t c)) at = None
grow_call S A Q (Once (Call n w o l c)) at = None
grow_call S A Q (Times r s n v) at = None

abbrev pub grow_come : Stack → Bars → Semis → Repeat → ℕ → PartKind → Option Grown
grow_come S A Q r at kind.Open = grow_call S A Q r at
grow_come S A Q r at kind.Star = when (nat_lt (repeats r) most_repeats) (Some (Stars S A Q r at))
grow_come S A Q r at k = grow_joins S A (sequence_of Q r) at k

abbrev pub grow_wants : Stack → Bars → Semis → ℕ → PartKind → Option Grown
grow_wants S A Q at kind.Open = Some (Wanting (InGroup S A Q at) NoBar NoSemi)
grow_wants S A Q at (kind.Name w) = Some (Come S A Q (Once (Atom at w)))
grow_wants S A Q at _ = None

abbrev pub grow_next : Stack → Bars → Sequence → ℕ → ℕ → PartKind → Option Grown
grow_next S A q s at kind.Fork = Some (Wanting (InFork S A q s at NoComma) NoBar NoSemi)
grow_next S A q s at k = grow_wants S A (Semi q s) at k

abbrev pub grow_wanting : Stack → Bars → Semis → ℕ → PartKind → Option Grown
grow_wanting S A NoSemi at k = grow_wants S A NoSemi at k
grow_wanting S A (Semi q s) at k = grow_next S A q s at k

abbrev pub grow_stars : Stack → Bars → Semis → Repeat → ℕ → ℕ → PartKind → Option Grown
grow_stars S A Q r s at (kind.Number n) = Some (Come S A Q (Times r s at n))
grow_stars S A Q r s at _ = None

abbrev pub grow_argued : Callee → ArgumentCommas → Argument → ℕ → PartKind → Option Grown
grow_argued C B a at kind.Comma = Some (InCall C (Before (arguments_of B a) at) Begun)
grow_argued (callee S A Q n w o) B a at kind.Close = Some (Come S A Q (Once (Call n w o (arguments_of B a) at)))
grow_argued C B a at _ = None

abbrev pub grow_argument : Callee → ArgumentCommas → ℕ → PartKind → Option Grown
grow_argument C B at kind.Minus = Some (InCall C B (Signed at))
grow_argument C B at kind.AnyLeft = Some (InCall C B (Whole (AnyLeft at)))
grow_argument C B at kind.AnyRight = Some (InCall C B (Whole (AnyRight at)))
grow_argument C B at (kind.Name x) = Some (InCall C B (Whole (Word' at x)))
grow_argument C B at (kind.Quoted s) = Some (InCall C B (Whole (Quoted at s)))
grow_argument C B at (kind.Number n) = when (nat_le 1 n) (Some (InCall C B (InPlace (Right at n))))
grow_argument C B at _ = None

abbrev pub grow_signed : Callee → ArgumentCommas → ℕ → ℕ → PartKind → Option Grown
grow_signed C B m at (kind.Number n) = when (nat_le 1 n) (Some (InCall C B (InPlace (Left m at n))))
grow_signed C B m at _ = None

abbrev pub grow_place : Callee → ArgumentCommas → Place → ℕ → PartKind → Option Grown
grow_place C B p at kind.Point = Some (InCall C B (Dotted p at))
grow_place C B p at k = grow_argued C B (At p) at k

abbrev pub grow_dotted : Callee → ArgumentCommas → Place → ℕ → ℕ → PartKind → Option Grown
grow_dotted C B p d at (kind.Number n) = Some (InCall C B (InPlace (Below p d at n)))
grow_dotted C B p d at _ = None

abbrev pub grow_in_call : Callee → ArgumentCommas → Piece → ℕ → PartKind → Option Grown
grow_in_call C B Begun at k = grow_argument C B at k
grow_in_call C B (Signed m) at k = grow_signed C B m at k
grow_in_call C B (InPlace p) at k = grow_place C B p at k
grow_in_call C B (Dotted p d) at k = grow_dotted C B p d at k
grow_in_call C B (Whole a) at k = grow_argued C B a at k

abbrev pub grow : Grown → ℕ → PartKind → Option Grown
grow (Wanting S A Q) at k = grow_wanting S A Q at k
grow (Come S A Q r) at k = grow_come S A Q r at k
grow (Stars S A Q r s) at k = grow_stars S A Q r s at k
grow (Branched S A q) at k = grow_joins S A q at k
grow (InCall C B p) at k = grow_in_call C B p at k

-- the parts of what has grown
abbrev pub bars_parts : Bars → List Part
bars_parts NoBar = []
bars_parts (Bar t at) = script_parts t ++ part at kind.Bar ∷ []

abbrev pub semis_parts : Semis → List Part
semis_parts NoSemi = []
semis_parts (Semi q at) = sequence_parts q ++ part at kind.Semicolon ∷ []

abbrev pub commas_parts : Commas → List Part
commas_parts NoComma = []
commas_parts (Comma l at) = scripts_parts l ++ part at kind.Comma ∷ []

abbrev pub stack_parts : Stack → List Part
stack_parts Top = []
stack_parts (InGroup S A Q o) = stack_parts S ++ bars_parts A ++ semis_parts Q ++ part o kind.Open ∷ []
stack_parts (InFork S A q s f c) =
    stack_parts S ++ bars_parts A ++ sequence_parts q ++ part s kind.Semicolon ∷ part f kind.Fork ∷ [] ++ commas_parts c

abbrev pub argument_commas_parts : ArgumentCommas → List Part
argument_commas_parts NoArgument = []
argument_commas_parts (Before l at) = arguments_parts l ++ part at kind.Comma ∷ []

abbrev pub callee_parts : Callee → List Part
callee_parts (callee S A Q n w o) = stack_parts S ++ bars_parts A ++ semis_parts Q ++ part n (kind.Name w) ∷ part o kind.Open ∷ []

abbrev pub piece_parts : Piece → List Part
piece_parts Begun = []
piece_parts (Signed m) = part m kind.Minus ∷ []
piece_parts (InPlace p) = place_parts p
piece_parts (Dotted p d) = place_parts p ++ part d kind.Point ∷ []
piece_parts (Whole a) = argument_parts a

abbrev pub grown_parts : Grown → List Part
grown_parts (Wanting S A Q) = stack_parts S ++ bars_parts A ++ semis_parts Q
grown_parts (Come S A Q r) = stack_parts S ++ bars_parts A ++ semis_parts Q ++ repeat_parts r
grown_parts (Stars S A Q r s) = stack_parts S ++ bars_parts A ++ semis_parts Q ++ repeat_parts r ++ part s kind.Star ∷ []
grown_parts (Branched S A q) = stack_parts S ++ bars_parts A ++ sequence_parts q
grown_parts (InCall C B p) = callee_parts C ++ argument_commas_parts B ++ piece_parts p

-- what has grown is within the limits
abbrev pub BarsFit : Bars → Type 0
BarsFit NoBar = Unit {0}
BarsFit (Bar t at) = ScriptFits t

abbrev pub SemisFit : Semis → Type 0
SemisFit NoSemi = Unit {0}
SemisFit (Semi q at) = SequenceFits q

abbrev pub CommasFit : Commas → Type 0
CommasFit NoComma = Unit {0}
CommasFit (Comma l at) = ScriptsFit l

abbrev pub StackFits : Stack → Type 0
StackFits Top = Unit {0}
StackFits (InGroup S A Q o) = StackFits S × BarsFit A × SemisFit Q
StackFits (InFork S A q s f c) = StackFits S × BarsFit A × SequenceFits q × CommasFit c

abbrev pub ArgumentCommasFit : ArgumentCommas → Type 0
ArgumentCommasFit NoArgument = Unit {0}
ArgumentCommasFit (Before l at) = ArgumentsFit l

abbrev pub CalleeFits : Callee → Type 0
CalleeFits (callee S A Q n w o) = StackFits S × BarsFit A × SemisFit Q

abbrev pub PieceFits : Piece → Type 0
PieceFits Begun = Unit {0}
PieceFits (Signed m) = Unit {0}
PieceFits (InPlace p) = PlaceFits p
PieceFits (Dotted p d) = PlaceFits p
PieceFits (Whole a) = ArgumentFits a

abbrev pub GrownFits : Grown → Type 0
GrownFits (Wanting S A Q) = StackFits S × BarsFit A × SemisFit Q
GrownFits (Come S A Q r) = StackFits S × BarsFit A × SemisFit Q × RepeatFits r
GrownFits (Stars S A Q r s) = StackFits S × BarsFit A × SemisFit Q × RepeatFits r × (repeats r + 1 ≤ most_repeats)
GrownFits (Branched S A q) = StackFits S × BarsFit A × SequenceFits q
GrownFits (InCall C B p) = CalleeFits C × ArgumentCommasFit B × PieceFits p
