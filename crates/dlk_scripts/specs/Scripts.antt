-- The grammar of strategies over parts: the trees of what is written, one constructor a production, and the parts of each.
-- Each terminal keeps its place, the byte at which it begins.
use Rattle.std.specs.Prelude.{ℕ, ◌+◌, ◌≤◌, List, [], ◌∷◌, ◌++◌}
use Rattle.dlk_scripts.specs.declared.part.Part.{Part}
use Rattle.dlk_scripts.specs.declared.part.PartKind.TheVariants as kind
use Rattle.dlk_scripts.specs.Parts.{part}

abbrev pub Word : Type 0
Word = List ℕ

-- place = number or "-" number, then any number of "." number
pub data Place : Type 0 where
  -- a number: its place, its value
  Right : ℕ → ℕ → Place
  -- the place of "-"; a number
  Left : ℕ → ℕ → ℕ → Place
  -- a place; the place of "."; a number
  Below : Place → ℕ → ℕ → ℕ → Place

-- arg = place | "'L" | "'R" | name | string
pub data Argument : Type 0 where
  At : Place → Argument
  AnyLeft : ℕ → Argument
  AnyRight : ℕ → Argument
  Word' : ℕ → Word → Argument
  Quoted : ℕ → List ℕ → Argument

-- arg-list = arg, then any number of "," arg
pub data Arguments : Type 0 where
  OneArgument : Argument → Arguments
  ThenArgument : Arguments → ℕ → Argument → Arguments

mutual
  -- strategy = seq, then any number of "|" seq
  pub data Script : Type 0 where
    OneSequence : Sequence → Script
    -- what is tried before; the place of "|"; what is tried where that fails
    OrSequence : Script → ℕ → Sequence → Script

  -- seq = rep, then any number of ";" rep or ";" "<(" strategy-list ")"
  pub data Sequence : Type 0 where
    OneRepeat : Repeat → Sequence
    ThenRepeat : Sequence → ℕ → Repeat → Sequence
    -- what comes before; the places of ";" and "<("; the strategies; the place of ")"
    ThenBranch : Sequence → ℕ → ℕ → Scripts → ℕ → Sequence

  -- strategy-list = strategy, then any number of "," strategy
  pub data Scripts : Type 0 where
    OneScript : Script → Scripts
    ThenScript : Scripts → ℕ → Script → Scripts

  -- rep = prim, then any number of "*" number
  pub data Repeat : Type 0 where
    Once : Primary → Repeat
    -- what is repeated; the place of "*"; the number's place and value
    Times : Repeat → ℕ → ℕ → ℕ → Repeat

  -- prim = "(" strategy ")" | name | name "(" arg-list ")"
  pub data Primary : Type 0 where
    Group : ℕ → Script → ℕ → Primary
    Atom : ℕ → Word → Primary
    -- the name's place, the name, the place of "(", the arguments, the place of ")"
    Call : ℕ → Word → ℕ → Arguments → ℕ → Primary

-- the parts of each
abbrev pub place_parts : Place → List Part
place_parts (Right at n) = part at (kind.Number n) ∷ []
place_parts (Left minus at n) = part minus kind.Minus ∷ part at (kind.Number n) ∷ []
place_parts (Below p point at n) = place_parts p ++ part point kind.Point ∷ part at (kind.Number n) ∷ []

abbrev pub argument_parts : Argument → List Part
argument_parts (At p) = place_parts p
argument_parts (AnyLeft at) = part at kind.AnyLeft ∷ []
argument_parts (AnyRight at) = part at kind.AnyRight ∷ []
argument_parts (Word' at x) = part at (kind.Name x) ∷ []
argument_parts (Quoted at s) = part at (kind.Quoted s) ∷ []

abbrev pub arguments_parts : Arguments → List Part
arguments_parts (OneArgument a) = argument_parts a
arguments_parts (ThenArgument l comma a) = arguments_parts l ++ part comma kind.Comma ∷ argument_parts a

abbrev mutual
  pub script_parts : Script → List Part
  script_parts (OneSequence q) = sequence_parts q
  script_parts (OrSequence t bar q) = script_parts t ++ part bar kind.Bar ∷ sequence_parts q

  pub sequence_parts : Sequence → List Part
  sequence_parts (OneRepeat r) = repeat_parts r
  sequence_parts (ThenRepeat q semicolon r) = sequence_parts q ++ part semicolon kind.Semicolon ∷ repeat_parts r
  sequence_parts (ThenBranch q semicolon fork l close) =
      sequence_parts q ++ part semicolon kind.Semicolon ∷ part fork kind.Fork ∷ scripts_parts l ++ part close kind.Close ∷ []

  pub scripts_parts : Scripts → List Part
  scripts_parts (OneScript t) = script_parts t
  scripts_parts (ThenScript l comma t) = scripts_parts l ++ part comma kind.Comma ∷ script_parts t

  pub repeat_parts : Repeat → List Part
  repeat_parts (Once p) = primary_parts p
  repeat_parts (Times r star at n) = repeat_parts r ++ part star kind.Star ∷ part at (kind.Number n) ∷ []

  pub primary_parts : Primary → List Part
  primary_parts (Group opens t close) = part opens kind.Open ∷ script_parts t ++ part close kind.Close ∷ []
  primary_parts (Atom at x) = part at (kind.Name x) ∷ []
  primary_parts (Call at x opens l close) = part at (kind.Name x) ∷ part opens kind.Open ∷ arguments_parts l ++ part close kind.Close ∷ []

-- The limits: a place's first number is at least 1, and at most eight repeats stand after one part.
abbrev pub most_repeats : ℕ
most_repeats = 8

abbrev pub repeats : Repeat → ℕ
repeats (Once p) = 0
repeats (Times r star at n) = repeats r + 1

abbrev pub PlaceFits : Place → Type 0
PlaceFits (Right at n) = 1 ≤ n
PlaceFits (Left minus at n) = 1 ≤ n
PlaceFits (Below p point at n) = PlaceFits p

abbrev pub ArgumentFits : Argument → Type 0
ArgumentFits (At p) = PlaceFits p
ArgumentFits (AnyLeft at) = Unit {0}
ArgumentFits (AnyRight at) = Unit {0}
ArgumentFits (Word' at x) = Unit {0}
ArgumentFits (Quoted at s) = Unit {0}

abbrev pub ArgumentsFit : Arguments → Type 0
ArgumentsFit (OneArgument a) = ArgumentFits a
ArgumentsFit (ThenArgument l comma a) = ArgumentsFit l × ArgumentFits a

abbrev mutual
  pub ScriptFits : Script → Type 0
  ScriptFits (OneSequence q) = SequenceFits q
  ScriptFits (OrSequence t bar q) = ScriptFits t × SequenceFits q

  pub SequenceFits : Sequence → Type 0
  SequenceFits (OneRepeat r) = RepeatFits r
  SequenceFits (ThenRepeat q semicolon r) = SequenceFits q × RepeatFits r
  SequenceFits (ThenBranch q semicolon fork l close) = SequenceFits q × ScriptsFit l

  pub ScriptsFit : Scripts → Type 0
  ScriptsFit (OneScript t) = ScriptFits t
  ScriptsFit (ThenScript l comma t) = ScriptsFit l × ScriptFits t

  pub RepeatFits : Repeat → Type 0
  RepeatFits (Once p) = PrimaryFits p
  RepeatFits (Times r star at n) = RepeatFits r × (repeats r + 1 ≤ most_repeats)

  pub PrimaryFits : Primary → Type 0
  PrimaryFits (Group opens t close) = ScriptFits t
  PrimaryFits (Atom at x) = Unit {0}
  PrimaryFits (Call at x opens l close) = ArgumentsFit l
