-- What each part leads to, by what has come before it and by the innermost bracket that is open.
use Rattle.std.specs.Prelude.{ℕ, ◌+◌, nat_lt, nat_le, Bool, true, false, List, [], ◌∷◌, Option, Some, None}
use Rattle.dlk_scripts.specs.declared.part.PartKind.{PartKind}
use Rattle.dlk_scripts.specs.declared.part.PartKind.TheVariants as kind
use Rattle.dlk_scripts.specs.declared.mode.Opening.{Opening}
use Rattle.dlk_scripts.specs.declared.mode.Opening.TheVariants.{Group, Fork}
use Rattle.dlk_scripts.specs.declared.mode.Mode.{Mode}
use Rattle.dlk_scripts.specs.declared.mode.Mode.TheVariants.{Wants, Next, Named, After, Starred, Argument, Signed, Place, Pointed, Argued}
use Rattle.dlk_scripts.specs.declared.mode.Change.{Change}
use Rattle.dlk_scripts.specs.declared.mode.Change.TheVariants.{Keep, Open, Close}
use Rattle.dlk_scripts.specs.declared.mode.Turn.{Turn}
use Rattle.dlk_scripts.specs.Scripts.{most_repeats}

abbrev pub when : {A : Type 0} → Bool → Option A → Option A
when true x = x
when false x = None

abbrev pub top : List Opening → Option Opening
top [] = None
top (o ∷ os) = Some o

abbrev pub nothing_open : List Opening → Bool
nothing_open [] = true
nothing_open (o ∷ os) = false

abbrev pub without_top : List Opening → List Opening
without_top [] = []
without_top (o ∷ os) = os

abbrev pub turn : Mode → Change → Option Turn
turn mode change = Some (record { mode = mode; change = change })

abbrev pub keeps : Mode → Option Turn
keeps mode = turn mode Keep

-- a comma stands between the strategies behind `<(`
abbrev pub at_comma : Option Opening → Option Turn
at_comma (Some Fork) = keeps Wants
at_comma (Some Group) = None
at_comma None = None

-- what is closed is a part of a sequence, and behind `<( .. )` comes no star
abbrev pub at_close : Option Opening → Option Turn
at_close (Some Fork) = turn (After most_repeats) Close
at_close (Some Group) = turn (After 0) Close
at_close None = None

-- behind a whole sequence
abbrev pub joins : Option Opening → PartKind → Option Turn
joins o kind.Semicolon = keeps Next
joins o kind.Bar = keeps Wants
joins o kind.Comma = at_comma o
joins o kind.Close = at_close o
joins o _ = None

-- behind a part of a sequence with n repeats
abbrev pub repeated : ℕ → Option Opening → PartKind → Option Turn
repeated n o kind.Star = when (nat_lt n most_repeats) (keeps (Starred (n + 1)))
repeated n o k = joins o k

abbrev pub named : Option Opening → PartKind → Option Turn
named o kind.Open = keeps Argument
named o k = repeated 0 o k

abbrev pub wants : PartKind → Option Turn
wants kind.Open = turn Wants (Open Group)
wants (kind.Name x) = keeps Named
wants _ = None

abbrev pub next : PartKind → Option Turn
next kind.Fork = turn Wants (Open Fork)
next k = wants k

-- a number of a place behind a star or a point
abbrev pub number : Mode → PartKind → Option Turn
number mode (kind.Number n) = keeps mode
number mode _ = None

-- a place's first number
abbrev pub first_number : PartKind → Option Turn
first_number (kind.Number n) = when (nat_le 1 n) (keeps Place)
first_number _ = None

abbrev pub argument : PartKind → Option Turn
argument kind.Minus = keeps Signed
argument kind.AnyLeft = keeps Argued
argument kind.AnyRight = keeps Argued
argument (kind.Name x) = keeps Argued
argument (kind.Quoted s) = keeps Argued
argument k = first_number k

abbrev pub argued : PartKind → Option Turn
argued kind.Comma = keeps Argument
argued kind.Close = keeps (After 0)
argued _ = None

abbrev pub place : PartKind → Option Turn
place kind.Point = keeps Pointed
place k = argued k

abbrev pub leads : Mode → Option Opening → PartKind → Option Turn
leads Wants o k = wants k
leads Next o k = next k
leads Named o k = named o k
leads (After n) o k = repeated n o k
leads (Starred n) o k = number (After n) k
leads Argument o k = argument k
leads Signed o k = first_number k
leads Place o k = place k
leads Pointed o k = number Place k
leads Argued o k = argued k

abbrev pub changed : Change → List Opening → List Opening
changed Keep os = os
changed (Open o) os = o ∷ os
changed Close os = without_top os

-- which parts may begin: a name, a number, an argument that is no name and no number, `<(`
abbrev pub wants_name : Mode → Bool
wants_name Wants = true
wants_name Next = true
wants_name Argument = true
wants_name _ = false

abbrev pub wants_number : Mode → Bool
wants_number (Starred n) = true
wants_number Argument = true
wants_number Signed = true
wants_number Pointed = true
wants_number _ = false

-- the number is a place's first
abbrev pub wants_first : Mode → Bool
wants_first Argument = true
wants_first Signed = true
wants_first _ = false

abbrev pub wants_argument : Mode → Bool
wants_argument Argument = true
wants_argument _ = false

abbrev pub wants_fork : Mode → Bool
wants_fork Next = true
wants_fork _ = false

-- nothing need come
abbrev pub is_whole : Mode → Bool
is_whole Named = true
is_whole (After n) = true
is_whole _ = false
