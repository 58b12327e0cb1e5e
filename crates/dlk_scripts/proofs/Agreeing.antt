-- What each part leads to is what the table says.
use Rattle.std.proofs.Common.{◌≡◌, ℕ, ◌+◌, nat_lt, nat_le, Bool, true, false, List, [], ◌∷◌, Option, Some, None, refl}
use Rattle.dlk_scripts.specs.declared.part.PartKind.{PartKind}
use Rattle.dlk_scripts.specs.declared.part.PartKind.TheVariants as kind
use Rattle.dlk_scripts.specs.Scripts.{Word, Place, Right, Left, Argument, At, Sequence, Repeat, Once, Times, Group, Atom, Call, most_repeats, repeats}
use Rattle.dlk_scripts.specs.Table.{when, top, joins, repeated, wants, next, number, first_number, argument, argued, place, leads, changed}
use Rattle.dlk_scripts.proofs.Grown.{Bars, Semis, NoSemi, Semi, Stack, Top, InGroup, InFork, ArgumentCommas, callee, Piece, Begun, Signed, InPlace}
use Rattle.dlk_scripts.proofs.Grown.{Dotted, Whole, Grown, Wanting, Come, Stars, Branched, InCall, sequence_of, grow_joins, grow_come, grow_wants}
use Rattle.dlk_scripts.proofs.Grown.{grow_next, grow_wanting, grow_stars, grow_argued, grow_argument, grow_signed, grow_place, grow_dotted}
use Rattle.dlk_scripts.proofs.Grown.{grow_in_call, grow}
use Rattle.dlk_scripts.specs.declared.mode.Mode.{Mode}
use Rattle.dlk_scripts.specs.declared.mode.Mode.TheVariants as mode
use Rattle.dlk_scripts.specs.declared.mode.Opening.{Opening}
use Rattle.dlk_scripts.specs.declared.mode.Opening.TheVariants as opening
use Rattle.dlk_scripts.specs.declared.mode.Turn.{Turn}

abbrev pub opens_of : Stack → List Opening
opens_of Top = []
opens_of (InGroup S A Q o) = opening.Group ∷ opens_of S
opens_of (InFork S A q s f c) = opening.Fork ∷ opens_of S

abbrev pub stack_of : Grown → Stack
stack_of (Wanting S A Q) = S
stack_of (Come S A Q r) = S
stack_of (Stars S A Q r s) = S
stack_of (Branched S A q) = S
stack_of (InCall (callee S A Q n w o) B p) = S

abbrev pub come_mode : Repeat → Mode
come_mode (Once (Atom n w)) = mode.Named
come_mode (Once (Group o t c)) = mode.After 0
come_mode (Once (Call n w o l c)) = mode.After 0
come_mode (Times r s n v) = mode.After (repeats r + 1)

abbrev pub wanting_mode : Semis → Mode
wanting_mode NoSemi = mode.Wants
wanting_mode (Semi q s) = mode.Next

abbrev pub piece_mode : Piece → Mode
piece_mode Begun = mode.Argument
piece_mode (Signed m) = mode.Signed
piece_mode (InPlace p) = mode.Place
piece_mode (Dotted p d) = mode.Pointed
piece_mode (Whole a) = mode.Argued

abbrev pub mode_of : Grown → Mode
mode_of (Wanting S A Q) = wanting_mode Q
mode_of (Come S A Q r) = come_mode r
mode_of (Stars S A Q r s) = mode.Starred (repeats r + 1)
mode_of (Branched S A q) = mode.After most_repeats
mode_of (InCall C B p) = piece_mode p

-- both or neither, and then the same
abbrev pub Agree : Option Turn → List Opening → Option Grown → Type 0
Agree None os None = Unit {0}
Agree None os (Some y) = ⊥
Agree (Some t) os None = ⊥
Agree (Some t) os (Some y) = (mode_of y ≡ t.mode) × (opens_of (stack_of y) ≡ changed t.change os)

agree_when : (b : Bool) (o : Option Turn) (os : List Opening) (y : Option Grown) → Agree o os y → Agree (when b o) os (when b y)
agree_when true o os y h = h
agree_when false o os y h = tt

agree_comma : (S : Stack) (A : Bars) (q : Sequence) (at : ℕ) → Agree (joins (top (opens_of S)) kind.Comma) (opens_of S) (grow_joins S A q at kind.Comma)
agree_comma Top A q at = tt
agree_comma (InGroup S B Q o) A q at = tt
agree_comma (InFork S B p s f c) A q at = (refl, refl)

agree_close : (S : Stack) (A : Bars) (q : Sequence) (at : ℕ) → Agree (joins (top (opens_of S)) kind.Close) (opens_of S) (grow_joins S A q at kind.Close)
agree_close Top A q at = tt
agree_close (InGroup S B Q o) A q at = (refl, refl)
agree_close (InFork S B p s f c) A q at = (refl, refl)

agree_joins : (S : Stack) (A : Bars) (q : Sequence) (at : ℕ) (k : PartKind) → Agree (joins (top (opens_of S)) k) (opens_of S) (grow_joins S A q at k)
agree_joins S A q at kind.Semicolon = (refl, refl)
agree_joins S A q at kind.Bar = (refl, refl)
agree_joins S A q at kind.Comma = agree_comma S A q at
agree_joins S A q at kind.Close = agree_close S A q at
agree_joins S A q at _ = tt

agree_come : (S : Stack) (A : Bars) (Q : Semis) (r : Repeat) (at : ℕ) (k : PartKind) →
    Agree (leads (come_mode r) (top (opens_of S)) k) (opens_of S) (grow_come S A Q r at k)
agree_come S A Q (Once (Atom n w)) at kind.Open = (refl, refl)
agree_come S A Q (Once (Group o t c)) at kind.Open = tt
agree_come S A Q (Once (Call n w o l c)) at kind.Open = tt
agree_come S A Q (Times r s n v) at kind.Open = tt
agree_come S A Q (Once (Atom n w)) at kind.Star = (refl, refl)
agree_come S A Q (Once (Group o t c)) at kind.Star = (refl, refl)
agree_come S A Q (Once (Call n w o l c)) at kind.Star = (refl, refl)
agree_come S A Q (Times r s n v) at kind.Star = agree_when (nat_lt (repeats r + 1) most_repeats) _ _ (Some (Stars S A Q (Times r s n v) at)) (refl, refl)
agree_come S A Q (Once (Atom n w)) at k = agree_joins S A (sequence_of Q (Once (Atom n w))) at k
agree_come S A Q (Once (Group o t c)) at k = agree_joins S A (sequence_of Q (Once (Group o t c))) at k
agree_come S A Q (Once (Call n w o l c)) at k = agree_joins S A (sequence_of Q (Once (Call n w o l c))) at k
agree_come S A Q (Times r s n v) at k = agree_joins S A (sequence_of Q (Times r s n v)) at k

agree_wants : (S : Stack) (A : Bars) (Q : Semis) (at : ℕ) (k : PartKind) → Agree (wants k) (opens_of S) (grow_wants S A Q at k)
agree_wants S A Q at kind.Open = (refl, refl)
agree_wants S A Q at (kind.Name x) = (refl, refl)
agree_wants S A Q at _ = tt

agree_next : (S : Stack) (A : Bars) (q : Sequence) (s at : ℕ) (k : PartKind) → Agree (next k) (opens_of S) (grow_next S A q s at k)
agree_next S A q s at kind.Fork = (refl, refl)
agree_next S A q s at k = agree_wants S A (Semi q s) at k

agree_wanting : (S : Stack) (A : Bars) (Q : Semis) (at : ℕ) (k : PartKind) →
    Agree (leads (wanting_mode Q) (top (opens_of S)) k) (opens_of S) (grow_wanting S A Q at k)
agree_wanting S A NoSemi at k = agree_wants S A NoSemi at k
agree_wanting S A (Semi q s) at k = agree_next S A q s at k

agree_stars : (S : Stack) (A : Bars) (Q : Semis) (r : Repeat) (s at : ℕ) (k : PartKind) →
    Agree (number (mode.After (repeats r + 1)) k) (opens_of S) (grow_stars S A Q r s at k)
agree_stars S A Q r s at (kind.Number n) = (refl, refl)
agree_stars S A Q r s at _ = tt

agree_argued : (S : Stack) (A : Bars) (Q : Semis) (n : ℕ) (w : Word) (o : ℕ) (B : ArgumentCommas) (a : Argument) (at : ℕ) (k : PartKind) →
    Agree (argued k) (opens_of S) (grow_argued (callee S A Q n w o) B a at k)
agree_argued S A Q n w o B a at kind.Comma = (refl, refl)
agree_argued S A Q n w o B a at kind.Close = (refl, refl)
agree_argued S A Q n w o B a at _ = tt

agree_argument : (S : Stack) (A : Bars) (Q : Semis) (n : ℕ) (w : Word) (o : ℕ) (B : ArgumentCommas) (at : ℕ) (k : PartKind) →
    Agree (argument k) (opens_of S) (grow_argument (callee S A Q n w o) B at k)
agree_argument S A Q n w o B at kind.Minus = (refl, refl)
agree_argument S A Q n w o B at kind.AnyLeft = (refl, refl)
agree_argument S A Q n w o B at kind.AnyRight = (refl, refl)
agree_argument S A Q n w o B at (kind.Name x) = (refl, refl)
agree_argument S A Q n w o B at (kind.Quoted s) = (refl, refl)
agree_argument S A Q n w o B at (kind.Number v) =
    agree_when (nat_le 1 v) _ _ (Some (InCall (callee S A Q n w o) B (InPlace (Right at v)))) (refl, refl)
agree_argument S A Q n w o B at _ = tt

agree_signed : (S : Stack) (A : Bars) (Q : Semis) (n : ℕ) (w : Word) (o : ℕ) (B : ArgumentCommas) (m at : ℕ) (k : PartKind) →
    Agree (first_number k) (opens_of S) (grow_signed (callee S A Q n w o) B m at k)
agree_signed S A Q n w o B m at (kind.Number v) =
    agree_when (nat_le 1 v) _ _ (Some (InCall (callee S A Q n w o) B (InPlace (Left m at v)))) (refl, refl)
agree_signed S A Q n w o B m at _ = tt

agree_place : (S : Stack) (A : Bars) (Q : Semis) (n : ℕ) (w : Word) (o : ℕ) (B : ArgumentCommas) (p : Place) (at : ℕ) (k : PartKind) →
    Agree (place k) (opens_of S) (grow_place (callee S A Q n w o) B p at k)
agree_place S A Q n w o B p at kind.Point = (refl, refl)
agree_place S A Q n w o B p at k = agree_argued S A Q n w o B (At p) at k

agree_dotted : (S : Stack) (A : Bars) (Q : Semis) (n : ℕ) (w : Word) (o : ℕ) (B : ArgumentCommas) (p : Place) (d at : ℕ) (k : PartKind) →
    Agree (number mode.Place k) (opens_of S) (grow_dotted (callee S A Q n w o) B p d at k)
agree_dotted S A Q n w o B p d at (kind.Number v) = (refl, refl)
agree_dotted S A Q n w o B p d at _ = tt

agree_in_call : (S : Stack) (A : Bars) (Q : Semis) (n : ℕ) (w : Word) (o : ℕ) (B : ArgumentCommas) (p : Piece) (at : ℕ) (k : PartKind) →
    Agree (leads (piece_mode p) (top (opens_of S)) k) (opens_of S) (grow_in_call (callee S A Q n w o) B p at k)
agree_in_call S A Q n w o B Begun at k = agree_argument S A Q n w o B at k
agree_in_call S A Q n w o B (Signed m) at k = agree_signed S A Q n w o B m at k
agree_in_call S A Q n w o B (InPlace p) at k = agree_place S A Q n w o B p at k
agree_in_call S A Q n w o B (Dotted p d) at k = agree_dotted S A Q n w o B p d at k
agree_in_call S A Q n w o B (Whole a) at k = agree_argued S A Q n w o B a at k

agree_after : (S : Stack) (A : Bars) (q : Sequence) (at : ℕ) (k : PartKind) →
    Agree (repeated most_repeats (top (opens_of S)) k) (opens_of S) (grow_joins S A q at k)
agree_after S A q at kind.Star = tt
agree_after S A q at k = agree_joins S A q at k

pub agrees : (x : Grown) (at : ℕ) (k : PartKind) → Agree (leads (mode_of x) (top (opens_of (stack_of x))) k) (opens_of (stack_of x)) (grow x at k)
agrees (Wanting S A Q) at k = agree_wanting S A Q at k
agrees (Come S A Q r) at k = agree_come S A Q r at k
agrees (Stars S A Q r s) at k = agree_stars S A Q r s at k
agrees (Branched S A q) at k = agree_after S A q at k
agrees (InCall (callee S A Q n w o) B p) at k = agree_in_call S A Q n w o B p at k
