-- The parts of a script within the limits grow to it.
use Rattle.std.proofs.Common.{◌≡◌, ℕ, ◌+◌, ◌≤◌, List, [], ◌∷◌, ◌++◌, Option, Some, None, refl, sym, ap, ◌∙◌, append_assoc, arith}
use Rattle.std.proofs.lemmas.List.{append-nil}
use Rattle.dlk_scripts.specs.declared.part.Part.{Part}
use Rattle.dlk_scripts.specs.declared.part.PartKind.{PartKind}
use Rattle.dlk_scripts.specs.declared.part.PartKind.TheVariants as kind
use Rattle.dlk_scripts.specs.Parts.{part}
use Rattle.dlk_scripts.specs.Scripts.{Word, Place, Right, Left, Below, Argument, At, AnyLeft, AnyRight, Word', Quoted, Arguments, OneArgument}
use Rattle.dlk_scripts.specs.Scripts.{ThenArgument, Script, OneSequence, OrSequence, Sequence, OneRepeat, ThenRepeat, ThenBranch, Scripts, OneScript}
use Rattle.dlk_scripts.specs.Scripts.{ThenScript, Repeat, Once, Times, Primary, Group, Atom, Call, place_parts, argument_parts, arguments_parts}
use Rattle.dlk_scripts.specs.Scripts.{script_parts, sequence_parts, scripts_parts, repeat_parts, primary_parts, most_repeats, repeats, PlaceFits}
use Rattle.dlk_scripts.specs.Scripts.{ArgumentFits, ArgumentsFit, ScriptFits, SequenceFits, ScriptsFit, RepeatFits, PrimaryFits}
use Rattle.dlk_scripts.proofs.Grown.{Bars, NoBar, Bar, Semis, NoSemi, Semi, NoComma, Comma, Stack, Top, InGroup, InFork, ArgumentCommas, NoArgument}
use Rattle.dlk_scripts.proofs.Grown.{Before, Callee, callee, Piece, Begun, InPlace, Whole, Grown, Wanting, Come, Stars, Branched, InCall, script_of}
use Rattle.dlk_scripts.proofs.Grown.{arguments_of, grow_comma, grow_close, grow}
use Rattle.std.proofs.lemmas.Bool.{lt-ltb, le-leb}
use Rattle.dlk_scripts.proofs.Growing.{finished}

abbrev pub or_none : Option Grown → (Grown → Option Grown) → Option Grown
or_none None f = None
or_none (Some x) f = f x

abbrev pub run : Grown → List Part → Option Grown
run x [] = Some x
run x (p ∷ ps) = or_none (grow x p.at p.kind) (λ y. run y ps)

abbrev or_none_both : (o : Option Grown) (f g h : Grown → Option Grown) → ((y : Grown) → f y ≡ or_none (g y) h) → or_none o f ≡ or_none (or_none o g) h
or_none_both None f g h e = refl
or_none_both (Some y) f g h e = e y

pub run_append : (x : Grown) (s r : List Part) → run x (s ++ r) ≡ or_none (run x s) (λ y. run y r)
run_append x [] r = refl
run_append x (p ∷ s) r = or_none_both (grow x p.at p.kind) (λ y. run y (s ++ r)) (λ y. run y s) (λ y. run y r) (λ y. run_append y s r)

-- where it has come to behind a script, a sequence, strategies, an argument, arguments
abbrev pub sequence_state : Stack → Bars → Sequence → Grown
sequence_state S A (OneRepeat r) = Come S A NoSemi r
sequence_state S A (ThenRepeat q s r) = Come S A (Semi q s) r
sequence_state S A (ThenBranch q s f l c) = Branched S A (ThenBranch q s f l c)

abbrev pub script_state : Stack → Script → Grown
script_state S (OneSequence q) = sequence_state S NoBar q
script_state S (OrSequence t at q) = sequence_state S (Bar t at) q

abbrev pub scripts_state : Stack → Bars → Sequence → ℕ → ℕ → Scripts → Grown
scripts_state S A q s f (OneScript t) = script_state (InFork S A q s f NoComma) t
scripts_state S A q s f (ThenScript l c t) = script_state (InFork S A q s f (Comma l c)) t

abbrev pub argument_piece : Argument → Piece
argument_piece (At p) = InPlace p
argument_piece a = Whole a

abbrev pub arguments_state : Callee → Arguments → Grown
arguments_state C (OneArgument a) = InCall C NoArgument (argument_piece a)
arguments_state C (ThenArgument l c a) = InCall C (Before l c) (argument_piece a)

-- what comes behind each
sequence_semi : (S : Stack) (A : Bars) (q : Sequence) (at : ℕ) → grow (sequence_state S A q) at kind.Semicolon ≡ Some (Wanting S A (Semi q at))
sequence_semi S A (OneRepeat r) at = refl
sequence_semi S A (ThenRepeat q s r) at = refl
sequence_semi S A (ThenBranch q s f l c) at = refl

sequence_bar : (S : Stack) (A : Bars) (q : Sequence) (at : ℕ) → grow (sequence_state S A q) at kind.Bar ≡ Some (Wanting S (Bar (script_of A q) at) NoSemi)
sequence_bar S A (OneRepeat r) at = refl
sequence_bar S A (ThenRepeat q s r) at = refl
sequence_bar S A (ThenBranch q s f l c) at = refl

sequence_comma : (S : Stack) (A : Bars) (q : Sequence) (at : ℕ) → grow (sequence_state S A q) at kind.Comma ≡ grow_comma S (script_of A q) at
sequence_comma S A (OneRepeat r) at = refl
sequence_comma S A (ThenRepeat q s r) at = refl
sequence_comma S A (ThenBranch q s f l c) at = refl

sequence_close : (S : Stack) (A : Bars) (q : Sequence) (at : ℕ) → grow (sequence_state S A q) at kind.Close ≡ grow_close S (script_of A q) at
sequence_close S A (OneRepeat r) at = refl
sequence_close S A (ThenRepeat q s r) at = refl
sequence_close S A (ThenBranch q s f l c) at = refl

script_bar : (S : Stack) (t : Script) (at : ℕ) → grow (script_state S t) at kind.Bar ≡ Some (Wanting S (Bar t at) NoSemi)
script_bar S (OneSequence q) at = sequence_bar S NoBar q at
script_bar S (OrSequence t b q) at = sequence_bar S (Bar t b) q at

script_comma : (S : Stack) (t : Script) (at : ℕ) → grow (script_state S t) at kind.Comma ≡ grow_comma S t at
script_comma S (OneSequence q) at = sequence_comma S NoBar q at
script_comma S (OrSequence t b q) at = sequence_comma S (Bar t b) q at

script_close : (S : Stack) (t : Script) (at : ℕ) → grow (script_state S t) at kind.Close ≡ grow_close S t at
script_close S (OneSequence q) at = sequence_close S NoBar q at
script_close S (OrSequence t b q) at = sequence_close S (Bar t b) q at

scripts_comma : (S : Stack) (A : Bars) (q : Sequence) (s f : ℕ) (l : Scripts) (at : ℕ) →
    grow (scripts_state S A q s f l) at kind.Comma ≡ Some (Wanting (InFork S A q s f (Comma l at)) NoBar NoSemi)
scripts_comma S A q s f (OneScript t) at = script_comma (InFork S A q s f NoComma) t at
scripts_comma S A q s f (ThenScript l c t) at = script_comma (InFork S A q s f (Comma l c)) t at

scripts_close : (S : Stack) (A : Bars) (q : Sequence) (s f : ℕ) (l : Scripts) (at : ℕ) →
    grow (scripts_state S A q s f l) at kind.Close ≡ Some (Branched S A (ThenBranch q s f l at))
scripts_close S A q s f (OneScript t) at = script_close (InFork S A q s f NoComma) t at
scripts_close S A q s f (ThenScript l c t) at = script_close (InFork S A q s f (Comma l c)) t at

argument_comma : (C : Callee) (B : ArgumentCommas) (a : Argument) (at : ℕ) →
    grow (InCall C B (argument_piece a)) at kind.Comma ≡ Some (InCall C (Before (arguments_of B a) at) Begun)
argument_comma C B (At p) at = refl
argument_comma C B (AnyLeft n) at = refl
argument_comma C B (AnyRight n) at = refl
argument_comma C B (Word' n w) at = refl
argument_comma C B (Quoted n w) at = refl

argument_close : (S : Stack) (A : Bars) (Q : Semis) (n : ℕ) (w : Word) (o : ℕ) (B : ArgumentCommas) (a : Argument) (at : ℕ) →
    grow (InCall (callee S A Q n w o) B (argument_piece a)) at kind.Close ≡ Some (Come S A Q (Once (Call n w o (arguments_of B a) at)))
argument_close S A Q n w o B (At p) at = refl
argument_close S A Q n w o B (AnyLeft m) at = refl
argument_close S A Q n w o B (AnyRight m) at = refl
argument_close S A Q n w o B (Word' m v) at = refl
argument_close S A Q n w o B (Quoted m v) at = refl

arguments_comma : (C : Callee) (l : Arguments) (at : ℕ) → grow (arguments_state C l) at kind.Comma ≡ Some (InCall C (Before l at) Begun)
arguments_comma C (OneArgument a) at = argument_comma C NoArgument a at
arguments_comma C (ThenArgument l c a) at = argument_comma C (Before l c) a at

arguments_close : (S : Stack) (A : Bars) (Q : Semis) (n : ℕ) (w : Word) (o : ℕ) (l : Arguments) (at : ℕ) →
    grow (arguments_state (callee S A Q n w o) l) at kind.Close ≡ Some (Come S A Q (Once (Call n w o l at)))
arguments_close S A Q n w o (OneArgument a) at = argument_close S A Q n w o NoArgument a at
arguments_close S A Q n w o (ThenArgument l c a) at = argument_close S A Q n w o (Before l c) a at

wanting_name : (S : Stack) (A : Bars) (Q : Semis) (at : ℕ) (w : Word) → grow (Wanting S A Q) at (kind.Name w) ≡ Some (Come S A Q (Once (Atom at w)))
wanting_name S A NoSemi at w = refl
wanting_name S A (Semi q s) at w = refl

wanting_open : (S : Stack) (A : Bars) (Q : Semis) (at : ℕ) → grow (Wanting S A Q) at kind.Open ≡ Some (Wanting (InGroup S A Q at) NoBar NoSemi)
wanting_open S A NoSemi at = refl
wanting_open S A (Semi q s) at = refl

come_star : (S : Stack) (A : Bars) (Q : Semis) (r : Repeat) (at : ℕ) → repeats r + 1 ≤ most_repeats → grow (Come S A Q r) at kind.Star ≡ Some (Stars S A Q r at)
come_star S A Q r at le = rw (lt-ltb (repeats r) most_repeats (omega arith)) refl

-- one part, then the rest
turn : (x y : Grown) (at : ℕ) (k : PartKind) (r : List Part) {o : Option Grown} → grow x at k ≡ Some y → run y r ≡ o → run x (part at k ∷ r) ≡ o
turn x y at k r e f = rw e f

places : (C : Callee) (B : ArgumentCommas) (p : Place) → PlaceFits p → (r : List Part) →
    run (InCall C B Begun) (place_parts p ++ r) ≡ run (InCall C B (InPlace p)) r
places C B (Right at n) fits r = rw (le-leb 1 n fits) refl
places C B (Left m at n) fits r = rw (le-leb 1 n fits) refl
places C B (Below p d at n) fits r =
    ap (run (InCall C B Begun)) (append_assoc (place_parts p) (part d kind.Point ∷ part at (kind.Number n) ∷ []) r)
    ∙ places C B p fits (part d kind.Point ∷ part at (kind.Number n) ∷ r)

argument_runs : (C : Callee) (B : ArgumentCommas) (a : Argument) → ArgumentFits a → (r : List Part) →
    run (InCall C B Begun) (argument_parts a ++ r) ≡ run (InCall C B (argument_piece a)) r
argument_runs C B (At p) fits r = places C B p fits r
argument_runs C B (AnyLeft at) fits r = refl
argument_runs C B (AnyRight at) fits r = refl
argument_runs C B (Word' at w) fits r = refl
argument_runs C B (Quoted at s) fits r = refl

arguments_runs : (C : Callee) (l : Arguments) → ArgumentsFit l → (r : List Part) →
    run (InCall C NoArgument Begun) (arguments_parts l ++ r) ≡ run (arguments_state C l) r
arguments_runs C (OneArgument a) fits r = argument_runs C NoArgument a fits r
arguments_runs C (ThenArgument l c a) fits r =
    ap (run (InCall C NoArgument Begun)) (append_assoc (arguments_parts l) (part c kind.Comma ∷ argument_parts a) r)
    ∙ arguments_runs C l fits.0 (part c kind.Comma ∷ (argument_parts a ++ r))
    ∙ turn (arguments_state C l) (InCall C (Before l c) Begun) c kind.Comma (argument_parts a ++ r) (arguments_comma C l c)
    (argument_runs C (Before l c) a fits.1 r)

regroup : (q l : List Part) (s f c : Part) (r : List Part) →
    (q ++ s ∷ f ∷ l ++ c ∷ []) ++ r ≡ q ++ (s ∷ f ∷ (l ++ c ∷ r))
regroup q l s f c r = simp append_assoc refl

mutual
  script_runs : (t : Script) → ScriptFits t → (S : Stack) (r : List Part) → run (Wanting S NoBar NoSemi) (script_parts t ++ r) ≡ run (script_state S t) r
  script_runs (OneSequence q) fits S r = sequence_runs q fits S NoBar r
  script_runs (OrSequence t b q) fits S r =
      ap (run (Wanting S NoBar NoSemi)) (append_assoc (script_parts t) (part b kind.Bar ∷ sequence_parts q) r)
      ∙ script_runs t fits.0 S (part b kind.Bar ∷ (sequence_parts q ++ r))
      ∙ turn (script_state S t) (Wanting S (Bar t b) NoSemi) b kind.Bar (sequence_parts q ++ r) (script_bar S t b) (sequence_runs q fits.1 S (Bar t b) r)

  sequence_runs : (q : Sequence) → SequenceFits q → (S : Stack) (A : Bars) (r : List Part) →
      run (Wanting S A NoSemi) (sequence_parts q ++ r) ≡ run (sequence_state S A q) r
  sequence_runs (OneRepeat p) fits S A r = repeat_runs p fits S A NoSemi r
  sequence_runs (ThenRepeat q s p) fits S A r =
      ap (run (Wanting S A NoSemi)) (append_assoc (sequence_parts q) (part s kind.Semicolon ∷ repeat_parts p) r)
      ∙ sequence_runs q fits.0 S A (part s kind.Semicolon ∷ (repeat_parts p ++ r))
      ∙ turn (sequence_state S A q) (Wanting S A (Semi q s)) s kind.Semicolon (repeat_parts p ++ r) (sequence_semi S A q s)
      (repeat_runs p fits.1 S A (Semi q s) r)
  sequence_runs (ThenBranch q s f l c) fits S A r =
      ap (run (Wanting S A NoSemi)) (regroup (sequence_parts q) (scripts_parts l) (part s kind.Semicolon) (part f kind.Fork) (part c kind.Close) r)
      ∙ sequence_runs q fits.0 S A (part s kind.Semicolon ∷ part f kind.Fork ∷ (scripts_parts l ++ part c kind.Close ∷ r))
      ∙ turn (sequence_state S A q) (Wanting S A (Semi q s)) s kind.Semicolon (part f kind.Fork ∷ (scripts_parts l ++ part c kind.Close ∷ r))
      (sequence_semi S A q s)
      (scripts_runs l fits.1 S A q s f (part c kind.Close ∷ r) ∙ turn (scripts_state S A q s f l) (Branched S A (ThenBranch q s f l c)) c kind.Close r
      (scripts_close S A q s f l c) refl)

  scripts_runs : (l : Scripts) → ScriptsFit l → (S : Stack) (A : Bars) (q : Sequence) (s f : ℕ) (r : List Part) →
      run (Wanting (InFork S A q s f NoComma) NoBar NoSemi) (scripts_parts l ++ r) ≡ run (scripts_state S A q s f l) r
  scripts_runs (OneScript t) fits S A q s f r = script_runs t fits (InFork S A q s f NoComma) r
  scripts_runs (ThenScript l c t) fits S A q s f r =
      ap (run (Wanting (InFork S A q s f NoComma) NoBar NoSemi)) (append_assoc (scripts_parts l) (part c kind.Comma ∷ script_parts t) r)
      ∙ scripts_runs l fits.0 S A q s f (part c kind.Comma ∷ (script_parts t ++ r))
      ∙ turn (scripts_state S A q s f l) (Wanting (InFork S A q s f (Comma l c)) NoBar NoSemi) c kind.Comma (script_parts t ++ r)
      (scripts_comma S A q s f l c) (script_runs t fits.1 (InFork S A q s f (Comma l c)) r)

  repeat_runs : (p : Repeat) → RepeatFits p → (S : Stack) (A : Bars) (Q : Semis) (r : List Part) →
      run (Wanting S A Q) (repeat_parts p ++ r) ≡ run (Come S A Q p) r
  repeat_runs (Once p) fits S A Q r = primary_runs p fits S A Q r
  repeat_runs (Times p s at n) fits S A Q r =
      ap (run (Wanting S A Q)) (append_assoc (repeat_parts p) (part s kind.Star ∷ part at (kind.Number n) ∷ []) r)
      ∙ repeat_runs p fits.0 S A Q (part s kind.Star ∷ part at (kind.Number n) ∷ r)
      ∙ turn (Come S A Q p) (Stars S A Q p s) s kind.Star (part at (kind.Number n) ∷ r) (come_star S A Q p s fits.1) refl

  primary_runs : (p : Primary) → PrimaryFits p → (S : Stack) (A : Bars) (Q : Semis) (r : List Part) →
      run (Wanting S A Q) (primary_parts p ++ r) ≡ run (Come S A Q (Once p)) r
  primary_runs (Group o t c) fits S A Q r =
      turn (Wanting S A Q) (Wanting (InGroup S A Q o) NoBar NoSemi) o kind.Open ((script_parts t ++ part c kind.Close ∷ []) ++ r) (wanting_open S A Q o)
      (ap (run (Wanting (InGroup S A Q o) NoBar NoSemi)) (append_assoc (script_parts t) (part c kind.Close ∷ []) r)
      ∙ script_runs t fits (InGroup S A Q o) (part c kind.Close ∷ r)
      ∙ turn (script_state (InGroup S A Q o) t) (Come S A Q (Once (Group o t c))) c kind.Close r (script_close (InGroup S A Q o) t c) refl)
  primary_runs (Atom at w) fits S A Q r = turn (Wanting S A Q) (Come S A Q (Once (Atom at w))) at (kind.Name w) r (wanting_name S A Q at w) refl
  primary_runs (Call n w o l c) fits S A Q r =
      turn (Wanting S A Q) (Come S A Q (Once (Atom n w))) n (kind.Name w)
      (part o kind.Open ∷ ((arguments_parts l ++ part c kind.Close ∷ []) ++ r)) (wanting_name S A Q n w)
      (ap (run (InCall (callee S A Q n w o) NoArgument Begun)) (append_assoc (arguments_parts l) (part c kind.Close ∷ []) r)
      ∙ arguments_runs (callee S A Q n w o) l fits (part c kind.Close ∷ r)
      ∙ turn (arguments_state (callee S A Q n w o) l) (Come S A Q (Once (Call n w o l c))) c kind.Close r (arguments_close S A Q n w o l c) refl)

abbrev pub seed : Grown
seed = Wanting Top NoBar NoSemi

sequence_finished : (A : Bars) (q : Sequence) → finished (sequence_state Top A q) ≡ Some (script_of A q)
sequence_finished A (OneRepeat r) = refl
sequence_finished A (ThenRepeat q s r) = refl
sequence_finished A (ThenBranch q s f l c) = refl

script_finished : (t : Script) → finished (script_state Top t) ≡ Some t
script_finished (OneSequence q) = sequence_finished NoBar q
script_finished (OrSequence t b q) = sequence_finished (Bar t b) q

-- the parts of a script within the limits grow to something finished, which is the script
pub runs : (t : Script) → ScriptFits t → (x : Grown) × (run seed (script_parts t) ≡ Some x) × (finished x ≡ Some t)
runs t fits = (
  script_state Top t,
  ap (run seed) (sym (append-nil (script_parts t))) ∙ script_runs t fits Top [],
  script_finished t,
)
