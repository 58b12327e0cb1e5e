-- What grows with a part has that part at its end, and stays within the limits.
use Rattle.std.proofs.Common.{◌≡◌, ℕ, nat_lt, nat_le, Bool, true, false, List, [], ◌∷◌, ◌++◌, Option, Some, None, refl, sym, append_assoc, arith}
use Rattle.std.proofs.lemmas.Bool.{leb-true, ltb-true}
use Rattle.std.proofs.lemmas.List.{append-nil}
use Rattle.dlk_scripts.specs.declared.part.Part.{Part}
use Rattle.dlk_scripts.specs.declared.part.PartKind.{PartKind}
use Rattle.dlk_scripts.specs.declared.part.PartKind.TheVariants as kind
use Rattle.dlk_scripts.specs.Parts.{part}
use Rattle.dlk_scripts.specs.Scripts.{Place, Right, Left, Argument, At, Script, Sequence, Repeat, Once, Times, Group, Atom, Call, place_parts}
use Rattle.dlk_scripts.specs.Scripts.{argument_parts, arguments_parts, script_parts, sequence_parts, scripts_parts, repeat_parts, most_repeats}
use Rattle.dlk_scripts.specs.Scripts.{repeats, PlaceFits, ArgumentFits, ArgumentsFit, ScriptFits, SequenceFits, ScriptsFit, RepeatFits}
use Rattle.dlk_scripts.specs.Table.{when}
use Rattle.dlk_scripts.proofs.Grown.{Bars, NoBar, Bar, Semis, NoSemi, Semi, Commas, NoComma, Comma, Stack, Top, InGroup, InFork, ArgumentCommas}
use Rattle.dlk_scripts.proofs.Grown.{NoArgument, Before, Callee, callee, Piece, Begun, Signed, InPlace, Dotted, Whole, Grown, Wanting, Come, Stars}
use Rattle.dlk_scripts.proofs.Grown.{Branched, InCall, sequence_of, script_of, scripts_of, arguments_of, grow_comma, grow_close, grow_joins}
use Rattle.dlk_scripts.proofs.Grown.{grow_call, grow_come, grow_wants, grow_next, grow_wanting, grow_stars, grow_argued, grow_argument, grow_signed}
use Rattle.dlk_scripts.proofs.Grown.{grow_place, grow_dotted, grow_in_call, grow, bars_parts, semis_parts, commas_parts, stack_parts}
use Rattle.dlk_scripts.proofs.Grown.{argument_commas_parts, callee_parts, piece_parts, grown_parts, BarsFit, SemisFit, CommasFit, StackFits}
use Rattle.dlk_scripts.proofs.Grown.{ArgumentCommasFit, CalleeFits, PieceFits, GrownFits}

sequence_parts_of : (Q : Semis) (r : Repeat) → sequence_parts (sequence_of Q r) ≡ semis_parts Q ++ repeat_parts r
sequence_parts_of NoSemi r = refl
sequence_parts_of (Semi q at) r = sym (append_assoc (sequence_parts q) (part at kind.Semicolon ∷ []) (repeat_parts r))

script_parts_of : (A : Bars) (q : Sequence) → script_parts (script_of A q) ≡ bars_parts A ++ sequence_parts q
script_parts_of NoBar q = refl
script_parts_of (Bar t at) q = sym (append_assoc (script_parts t) (part at kind.Bar ∷ []) (sequence_parts q))

scripts_parts_of : (c : Commas) (t : Script) → scripts_parts (scripts_of c t) ≡ commas_parts c ++ script_parts t
scripts_parts_of NoComma t = refl
scripts_parts_of (Comma l at) t = sym (append_assoc (scripts_parts l) (part at kind.Comma ∷ []) (script_parts t))

arguments_parts_of : (B : ArgumentCommas) (a : Argument) → arguments_parts (arguments_of B a) ≡ argument_commas_parts B ++ argument_parts a
arguments_parts_of NoArgument a = refl
arguments_parts_of (Before l at) a = sym (append_assoc (arguments_parts l) (part at kind.Comma ∷ []) (argument_parts a))

sequence_fits : (Q : Semis) (r : Repeat) → SemisFit Q → RepeatFits r → SequenceFits (sequence_of Q r)
sequence_fits NoSemi r u v = v
sequence_fits (Semi q at) r u v = (u, v)

script_fits : (A : Bars) (q : Sequence) → BarsFit A → SequenceFits q → ScriptFits (script_of A q)
script_fits NoBar q u v = v
script_fits (Bar t at) q u v = (u, v)

scripts_fit : (c : Commas) (t : Script) → CommasFit c → ScriptFits t → ScriptsFit (scripts_of c t)
scripts_fit NoComma t u v = v
scripts_fit (Comma l at) t u v = (u, v)

arguments_fit : (B : ArgumentCommas) (a : Argument) → ArgumentCommasFit B → ArgumentFits a → ArgumentsFit (arguments_of B a)
arguments_fit NoArgument a u v = v
arguments_fit (Before l at) a u v = (u, v)

-- where something has grown, it has these parts, and is within the limits where F holds
abbrev pub Kept : List Part → Type 0 → Option Grown → Type 0
Kept s F None = Unit {0}
Kept s F (Some y) = (grown_parts y ≡ s) × (F → GrownFits y)

kept_when : (b : Bool) (s : List Part) (F : Type 0) (o : Option Grown) → (b ≡ true → Kept s F o) → Kept s F (when b o)
kept_when true s F o h = h refl
kept_when false s F o h = tt

kept_comma : (S : Stack) (t : Script) (at : ℕ) →
    Kept (stack_parts S ++ script_parts t ++ part at kind.Comma ∷ []) (StackFits S × ScriptFits t) (grow_comma S t at)
kept_comma Top t at = tt
kept_comma (InGroup S A Q o) t at = tt
kept_comma (InFork S A q s f c) t at =
    (simp (append_assoc, append-nil, scripts_parts_of c t) refl, λ w. ((w.0.0, w.0.1, w.0.2, scripts_fit c t w.0.3 w.1), tt, tt))

kept_close : (S : Stack) (t : Script) (at : ℕ) →
    Kept (stack_parts S ++ script_parts t ++ part at kind.Close ∷ []) (StackFits S × ScriptFits t) (grow_close S t at)
kept_close Top t at = tt
kept_close (InGroup S A Q o) t at = (simp append_assoc refl, λ w. (w.0.0, w.0.1, w.0.2, w.1))
kept_close (InFork S A q s f c) t at =
    (simp (append_assoc, scripts_parts_of c t) refl, λ w. (w.0.0, w.0.1, (w.0.2, scripts_fit c t w.0.3 w.1)))

kept_weak : (s z : List Part) (F G : Type 0) (o : Option Grown) → s ≡ z → (G → F) → Kept s F o → Kept z G o
kept_weak s z F G None e f h = tt
kept_weak s z F G (Some y) e f h = (rw (← e) h.0, λ w. h.1 (f w))

kept_joins : (S : Stack) (A : Bars) (q : Sequence) (at : ℕ) (k : PartKind) →
    Kept (stack_parts S ++ bars_parts A ++ sequence_parts q ++ part at k ∷ []) (StackFits S × BarsFit A × SequenceFits q) (grow_joins S A q at k)
kept_joins S A q at kind.Semicolon = (simp append_assoc refl, λ w. w)
kept_joins S A q at kind.Bar = (simp (append_assoc, append-nil, script_parts_of A q) refl, λ w. (w.0, script_fits A q w.1 w.2, tt))
kept_joins S A q at kind.Comma = kept_weak _ _ _ _ (grow_comma S (script_of A q) at) (simp (append_assoc, script_parts_of A q) refl)
    (λ w. (w.0, script_fits A q w.1 w.2)) (kept_comma S (script_of A q) at)
kept_joins S A q at kind.Close = kept_weak _ _ _ _ (grow_close S (script_of A q) at) (simp (append_assoc, script_parts_of A q) refl)
    (λ w. (w.0, script_fits A q w.1 w.2)) (kept_close S (script_of A q) at)
kept_joins S A q at _ = tt

kept_call : (S : Stack) (A : Bars) (Q : Semis) (r : Repeat) (at : ℕ) →
    Kept (stack_parts S ++ bars_parts A ++ semis_parts Q ++ repeat_parts r ++ part at kind.Open ∷ [])
    (StackFits S × BarsFit A × SemisFit Q × RepeatFits r) (grow_call S A Q r at)
kept_call S A Q (Once (Atom n w)) at = (simp (append_assoc, append-nil) refl, λ f. ((f.0, f.1, f.2), tt, tt))
kept_call S A Q (Once (Group o t c)) at = tt
kept_call S A Q (Once (Call n w o l c)) at = tt
kept_call S A Q (Times r s n v) at = tt

kept_star : (S : Stack) (A : Bars) (Q : Semis) (r : Repeat) (at : ℕ) →
    Kept (stack_parts S ++ bars_parts A ++ semis_parts Q ++ repeat_parts r ++ part at kind.Star ∷ [])
    (StackFits S × BarsFit A × SemisFit Q × RepeatFits r) (when (nat_lt (repeats r) most_repeats) (Some (Stars S A Q r at)))
kept_star S A Q r at = kept_when (nat_lt (repeats r) most_repeats) _ _ _
    (λ h. (refl, λ f. (f.0, f.1, f.2, f.3, omega (arith, ltb-true (repeats r) most_repeats h))))

kept_come_joins : (S : Stack) (A : Bars) (Q : Semis) (r : Repeat) (at : ℕ) (k : PartKind) →
    Kept (stack_parts S ++ bars_parts A ++ semis_parts Q ++ repeat_parts r ++ part at k ∷ [])
    (StackFits S × BarsFit A × SemisFit Q × RepeatFits r) (grow_joins S A (sequence_of Q r) at k)
kept_come_joins S A Q r at k = kept_weak (stack_parts S ++ bars_parts A ++ sequence_parts (sequence_of Q r) ++ part at k ∷ []) _
    (StackFits S × BarsFit A × SequenceFits (sequence_of Q r)) _ (grow_joins S A (sequence_of Q r) at k)
    (simp (append_assoc, sequence_parts_of Q r) refl) (λ w. (w.0, w.1, sequence_fits Q r w.2 w.3)) (kept_joins S A (sequence_of Q r) at k)

kept_come : (S : Stack) (A : Bars) (Q : Semis) (r : Repeat) (at : ℕ) (k : PartKind) →
    Kept (stack_parts S ++ bars_parts A ++ semis_parts Q ++ repeat_parts r ++ part at k ∷ [])
    (StackFits S × BarsFit A × SemisFit Q × RepeatFits r) (grow_come S A Q r at k)
kept_come S A Q r at kind.Open = kept_call S A Q r at
kept_come S A Q r at kind.Star = kept_star S A Q r at
kept_come S A Q r at k = kept_come_joins S A Q r at k

kept_wants : (S : Stack) (A : Bars) (Q : Semis) (at : ℕ) (k : PartKind) →
    Kept (stack_parts S ++ bars_parts A ++ semis_parts Q ++ part at k ∷ []) (StackFits S × BarsFit A × SemisFit Q) (grow_wants S A Q at k)
kept_wants S A Q at kind.Open = (simp append-nil refl, λ w. (w, tt, tt))
kept_wants S A Q at (kind.Name x) = (refl, λ w. (w.0, w.1, w.2, tt))
kept_wants S A Q at _ = tt

kept_next : (S : Stack) (A : Bars) (q : Sequence) (s at : ℕ) (k : PartKind) →
    Kept (stack_parts S ++ bars_parts A ++ semis_parts (Semi q s) ++ part at k ∷ []) (StackFits S × BarsFit A × SequenceFits q) (grow_next S A q s at k)
kept_next S A q s at kind.Fork = (simp (append_assoc, append-nil) refl, λ w. ((w.0, w.1, w.2, tt), tt, tt))
kept_next S A q s at k = kept_wants S A (Semi q s) at k

kept_wanting : (S : Stack) (A : Bars) (Q : Semis) (at : ℕ) (k : PartKind) →
    Kept (stack_parts S ++ bars_parts A ++ semis_parts Q ++ part at k ∷ []) (StackFits S × BarsFit A × SemisFit Q) (grow_wanting S A Q at k)
kept_wanting S A NoSemi at k = kept_wants S A NoSemi at k
kept_wanting S A (Semi q s) at k = kept_next S A q s at k

kept_stars : (S : Stack) (A : Bars) (Q : Semis) (r : Repeat) (s at : ℕ) (k : PartKind) →
    Kept (grown_parts (Stars S A Q r s) ++ part at k ∷ []) (GrownFits (Stars S A Q r s)) (grow_stars S A Q r s at k)
kept_stars S A Q r s at (kind.Number n) = (simp append_assoc refl, λ w. (w.0, w.1, w.2, (w.3, w.4)))
kept_stars S A Q r s at _ = tt

kept_argued : (C : Callee) (B : ArgumentCommas) (a : Argument) (at : ℕ) (k : PartKind) →
    Kept (callee_parts C ++ argument_commas_parts B ++ argument_parts a ++ part at k ∷ [])
    (CalleeFits C × ArgumentCommasFit B × ArgumentFits a) (grow_argued C B a at k)
kept_argued C B a at kind.Comma = (simp (append_assoc, append-nil, arguments_parts_of B a) refl, λ w. (w.0, arguments_fit B a w.1 w.2, tt))
kept_argued (callee S A Q n w o) B a at kind.Close =
    (simp (append_assoc, arguments_parts_of B a) refl, λ f. (f.0.0, f.0.1, f.0.2, arguments_fit B a f.1 f.2))
kept_argued C B a at _ = tt

kept_argument : (C : Callee) (B : ArgumentCommas) (at : ℕ) (k : PartKind) →
    Kept (callee_parts C ++ argument_commas_parts B ++ [] ++ part at k ∷ []) (CalleeFits C × ArgumentCommasFit B) (grow_argument C B at k)
kept_argument C B at kind.Minus = (simp append-nil refl, λ w. (w.0, w.1, tt))
kept_argument C B at kind.AnyLeft = (simp append-nil refl, λ w. (w.0, w.1, tt))
kept_argument C B at kind.AnyRight = (simp append-nil refl, λ w. (w.0, w.1, tt))
kept_argument C B at (kind.Name x) = (simp append-nil refl, λ w. (w.0, w.1, tt))
kept_argument C B at (kind.Quoted s) = (simp append-nil refl, λ w. (w.0, w.1, tt))
kept_argument C B at (kind.Number n) = kept_when (nat_le 1 n) _ _ (Some (InCall C B (InPlace (Right at n))))
    (λ h. (simp append-nil refl, λ w. (w.0, w.1, leb-true 1 n h)))
kept_argument C B at _ = tt

kept_signed : (C : Callee) (B : ArgumentCommas) (m at : ℕ) (k : PartKind) →
    Kept (callee_parts C ++ argument_commas_parts B ++ part m kind.Minus ∷ [] ++ part at k ∷ []) (CalleeFits C × ArgumentCommasFit B) (grow_signed C B m at k)
kept_signed C B m at (kind.Number n) = kept_when (nat_le 1 n) _ _ (Some (InCall C B (InPlace (Left m at n))))
    (λ h. (simp append_assoc refl, λ w. (w.0, w.1, leb-true 1 n h)))
kept_signed C B m at _ = tt

kept_place : (C : Callee) (B : ArgumentCommas) (p : Place) (at : ℕ) (k : PartKind) →
    Kept (callee_parts C ++ argument_commas_parts B ++ place_parts p ++ part at k ∷ [])
    (CalleeFits C × ArgumentCommasFit B × PlaceFits p) (grow_place C B p at k)
kept_place C B p at kind.Point = (simp append_assoc refl, λ w. w)
kept_place C B p at k = kept_argued C B (At p) at k

kept_dotted : (C : Callee) (B : ArgumentCommas) (p : Place) (d at : ℕ) (k : PartKind) →
    Kept (callee_parts C ++ argument_commas_parts B ++ piece_parts (Dotted p d) ++ part at k ∷ [])
    (CalleeFits C × ArgumentCommasFit B × PlaceFits p) (grow_dotted C B p d at k)
kept_dotted C B p d at (kind.Number n) = (simp append_assoc refl, λ w. w)
kept_dotted C B p d at _ = tt

kept_in_call : (C : Callee) (B : ArgumentCommas) (p : Piece) (at : ℕ) (k : PartKind) →
    Kept (callee_parts C ++ argument_commas_parts B ++ piece_parts p ++ part at k ∷ [])
    (CalleeFits C × ArgumentCommasFit B × PieceFits p) (grow_in_call C B p at k)
kept_in_call C B Begun at k = kept_weak _ _ _ _ (grow_argument C B at k) refl (λ w. (w.0, w.1)) (kept_argument C B at k)
kept_in_call C B (Signed m) at k = kept_weak _ _ _ _ (grow_signed C B m at k) refl (λ w. (w.0, w.1)) (kept_signed C B m at k)
kept_in_call C B (InPlace p) at k = kept_place C B p at k
kept_in_call C B (Dotted p d) at k = kept_dotted C B p d at k
kept_in_call C B (Whole a) at k = kept_argued C B a at k

-- what a part leads to has the part at its end, and is within the limits where what was before it is
pub kept : (x : Grown) (at : ℕ) (k : PartKind) → Kept (grown_parts x ++ part at k ∷ []) (GrownFits x) (grow x at k)
kept (Wanting S A Q) at k = kept_wanting S A Q at k
kept (Come S A Q r) at k = kept_come S A Q r at k
kept (Stars S A Q r s) at k = kept_stars S A Q r s at k
kept (Branched S A q) at k = kept_joins S A q at k
kept (InCall C B p) at k = kept_in_call C B p at k

-- what has grown is a whole script
abbrev pub finished : Grown → Option Script
finished (Come Top A Q r) = Some (script_of A (sequence_of Q r))
finished (Branched Top A q) = Some (script_of A q)
finished _ = None

abbrev pub FinishedAs : Grown → Option Script → Type 0
FinishedAs x None = Unit {0}
FinishedAs x (Some t) = (script_parts t ≡ grown_parts x) × (GrownFits x → ScriptFits t)

pub finished_as : (x : Grown) → FinishedAs x (finished x)
finished_as (Come Top A Q r) = (
  simp (append_assoc, script_parts_of A (sequence_of Q r), sequence_parts_of Q r) refl,
  λ w. script_fits A (sequence_of Q r) w.1 (sequence_fits Q r w.2 w.3),
)
finished_as (Branched Top A q) = (script_parts_of A q, λ w. script_fits A q w.1 w.2)
finished_as _ = tt
