-- Reading byte by byte: a step, and the end.
use Rattle.std.specs.Prelude.{◌≡◌, ℕ, ◌==◌, ◌&&◌, ◌||◌, ◌≤◌, not, nat_lt, nat_le, Bool, List, [], ◌∷◌, ◌++◌, length, Option, Some, None, Result, Ok}
use Rattle.std.specs.Prelude.{Err, IsTrue, if◌then◌else◌, option_and_then}
use Rattle.std.specs.List.{list_all}
use Rattle.dlk_tree.specs.Names.{is_letter, is_name_byte, is_name}
use Rattle.dlk_grammar.specs.Tokens.{is_space, is_digit, value}
use Rattle.dlk_scripts.specs.declared.part.PartKind.{PartKind}
use Rattle.dlk_scripts.specs.declared.part.PartKind.TheVariants as kind
use Rattle.dlk_scripts.specs.declared.mode.Mode.{Mode}
use Rattle.dlk_scripts.specs.declared.mode.Mode.TheVariants as mode
use Rattle.dlk_scripts.specs.declared.mode.Turn.{Turn}
use Rattle.dlk_scripts.specs.declared.state.Within.{Within}
use Rattle.dlk_scripts.specs.declared.state.Within.TheVariants.{Between, Slash, Comment, CommentStar, Name, Number, Quoted, Less, Quote}
use Rattle.dlk_scripts.specs.declared.state.State.{State}
use Rattle.dlk_scripts.specs.declared.state.ByteFault.{ByteFault}
use Rattle.dlk_scripts.specs.declared.state.ByteFault.TheVariants.{Memory, Syntax}
use Rattle.dlk_scripts.specs.declared.fault.PartsFault.{PartsFault}
use Rattle.dlk_scripts.specs.declared.fault.PartsFault.TheVariants as parts
use Rattle.dlk_scripts.specs.Parts.{part, most_digits}
use Rattle.dlk_scripts.specs.Table.{when, top, leads, changed, wants_name, wants_number, wants_first, wants_argument, wants_fork, is_whole, nothing_open}

-- the part that is this byte alone
abbrev pub mark_of : ℕ → Option PartKind
mark_of b =
    if b == 40 then Some kind.Open
    else (if b == 41 then Some kind.Close
    else (if b == 59 then Some kind.Semicolon
    else (if b == 124 then Some kind.Bar
    else (if b == 44 then Some kind.Comma
    else (if b == 42 then Some kind.Star
    else (if b == 45 then Some kind.Minus
    else (if b == 46 then Some kind.Point else None)))))))

-- nothing has been read
abbrev pub first_state : State
first_state = record { mode = mode.Wants; opens = []; parts = []; within = Between; begin = 0; buffer = [] }

abbrev pub turned : State → PartKind → ℕ → Turn → State
turned y k at t =
    record y { mode = t.mode; opens = changed t.change y.opens; parts = y.parts ++ part at k ∷ []; within = Between }

-- the part at this place has come
abbrev pub take : State → PartKind → ℕ → Option State
take y k at = option_and_then (λ t. Some (turned y k at t)) (leads y.mode (top y.opens) k)

-- only what is within changes
abbrev pub moves : State → Within → State
moves y w = record y { within = w }

-- a part of several bytes begins at this place with these bytes
abbrev pub begins : State → Within → ℕ → List ℕ → State
begins y w at bytes = record y { within = w; begin = at; buffer = bytes }

abbrev pub grows : State → ℕ → State
grows y b = record y { buffer = y.buffer ++ b ∷ [] }

-- a number may go on with these digits: there are few enough, and a place's first number isn't zero when no more may come
abbrev pub digits_go_on : Mode → List ℕ → Bool
digits_go_on m s = nat_le (length s) most_digits && (not (wants_first m) || nat_lt (length s) most_digits || nat_le 1 (value s))

abbrev pub takes_mark : State → ℕ → Option PartKind → Option State
takes_mark y at None = None
takes_mark y at (Some k) = take y k at

-- a byte between parts
abbrev pub start : State → ℕ → ℕ → Option State
start y at b =
    if is_space b then Some y
    else (if b == 47 then Some (moves y Slash)
    else (if is_letter b then when (wants_name y.mode) (Some (begins y Name at (b ∷ [])))
    else (if is_digit b then when (wants_number y.mode) (Some (begins y Number at (b ∷ [])))
    else (if b == 34 then when (wants_argument y.mode) (Some (begins y Quoted at []))
    else (if b == 39 then when (wants_argument y.mode) (Some (begins y Quote at []))
    else (if b == 60 then when (wants_fork y.mode) (Some (begins y Less at []))
    else takes_mark y at (mark_of b)))))))

abbrev pub ends_name : State → Option State
ends_name y = when (is_name y.buffer) (take y (kind.Name y.buffer) y.begin)

abbrev pub ends_number : State → Option State
ends_number y = take y (kind.Number (value y.buffer)) y.begin

-- a name or a number that has come ends here
abbrev pub settle_in : Within → State → Option State
settle_in Between y = Some y
settle_in Name y = ends_name y
settle_in Number y = ends_number y
settle_in _ y = None

abbrev pub settle : State → Option State
settle y = settle_in y.within y

-- once it has, a byte comes
abbrev pub then_starts : Option State → ℕ → ℕ → Option State
then_starts None at b = None
then_starts (Some y) at b = start y at b

abbrev pub step_in : Within → State → ℕ → ℕ → Option State
step_in Between y at b = start y at b
step_in Slash y at b = when (b == 42) (Some (moves y Comment))
step_in Comment y at b = Some (moves y (if b == 42 then CommentStar else Comment))
step_in CommentStar y at b = Some (moves y (if b == 47 then Between else (if b == 42 then CommentStar else Comment)))
step_in Name y at b = if is_name_byte b then Some (grows y b) else then_starts (ends_name y) at b
step_in Number y at b =
    if is_digit b then when (digits_go_on y.mode (y.buffer ++ b ∷ [])) (Some (grows y b)) else then_starts (ends_number y) at b
step_in Quoted y at b = if b == 34 then take y (kind.Quoted y.buffer) y.begin else Some (grows y b)
step_in Less y at b = when (b == 40) (take y kind.Fork y.begin)
step_in Quote y at b = if b == 76 then take y kind.AnyLeft y.begin else when (b == 82) (take y kind.AnyRight y.begin)

-- the byte at this place comes
abbrev pub step : State → ℕ → ℕ → Option State
step y at b = step_in y.within y at b

-- a word that has come is a name
abbrev pub as_word : State → Option State
as_word y = when (is_name y.buffer) (Some y)

-- What a byte does, as far as it comes before a name, a number or a string that has come is put down: what refuses here does so before
-- memory is taken.
abbrev pub begun_by : Within → State → ℕ → ℕ → Option State
begun_by Name y at b = if is_name_byte b then Some y else as_word y
begun_by Number y at b = if is_digit b then Some y else ends_number y
begun_by Quoted y at b = Some y
begun_by w y at b = step_in w y at b

-- a strategy may end, and no bracket is open
abbrev pub is_closed : State → Bool
is_closed y = is_whole y.mode && nothing_open y.opens

abbrev pub when_closed : Option State → Option State
when_closed None = None
when_closed (Some y) = when (is_closed y) (Some y)

-- the text ends
abbrev pub ended : State → Option State
ended y = when_closed (settle y)

-- what the end does, as far as it comes before a name that has come is put down
abbrev pub settled_by : Within → State → Option State
settled_by Name y = as_word y
settled_by w y = settle_in w y

abbrev pub ended_by : Within → State → Option State
ended_by Between y = ended y
ended_by w y = settled_by w y

-- Does o result new: what was done is o. Want of memory is free.
abbrev pub Does : Option State → Result (Unit {0}) ByteFault → State → Type 0
Does o (Ok u) new = o ≡ Some new
Does o (Err Syntax) new = o ≡ None
Does o (Err Memory) new = Unit {0}

-- the fault at this place
abbrev pub stop_at : ByteFault → ℕ → PartsFault
stop_at Memory at = parts.Memory
stop_at Syntax at = parts.Syntax at

-- within a number there are at most nine digits
abbrev pub DigitsIn : Within → List ℕ → Type 0
DigitsIn Number s = (length s ≤ most_digits) × IsTrue (list_all is_digit s)
DigitsIn _ s = Unit {0}

abbrev pub HasDigits : State → Type 0
HasDigits y = DigitsIn y.within y.buffer
