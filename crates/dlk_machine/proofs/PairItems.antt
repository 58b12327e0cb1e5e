-- The right side of a pair: how it is read.
use Rattle.std.proofs.Common.{◌≡◌, ℕ, List, [], ◌∷◌, ◌++◌, Option, Some, None, inl, inr, refl, ap, ◌∙◌}
use Rattle.dlk_tree.specs.declared.op.Sort.{Sort}
use Rattle.dlk_tree.specs.declared.op.Sort.TheVariants.{Term, Formula, Program}
use Rattle.dlk_tree.specs.declared.op.Sym.{Sym}
use Rattle.dlk_grammar.specs.Lexemes.{Lexeme, OpenBrace, CloseBrace, Becomes}
use Rattle.dlk_grammar.specs.Phrases.{Phrase, Truth, System, Items}
use Rattle.dlk_grammar.specs.Grammar.{formula, term, Reads, ReadsItems}
use Rattle.dlk_grammar.specs.Substitutions.{Target, function, predicate, PairPhrase, to, ReadsPair, pair-formula, pair-term, pair-function}
use Rattle.dlk_grammar.specs.Substitutions.{pair-context, pair-program, pair-flow, pair-flow-except}
use Rattle.dlk_machine.specs.Levels.{top}
use Rattle.dlk_machine.specs.Machine.{◌>>=◌, State, Wants, step, ended}
use Rattle.dlk_machine.specs.Parse.{or_else, reader}
use Rattle.dlk_machine.proofs.Opening.{some_is, bind_some, states}
use Rattle.dlk_machine.proofs.Parsing.{known}
use Rattle.dlk_machine.proofs.Only.{only_at}
use Rattle.dlk_machine.proofs.Found.{ends}
use Rattle.dlk_machine.proofs.Reading.{allowed, passed_after}
use Rattle.dlk_machine.specs.Pairs.{Right, EitherOf, TextOf, SystemOf, PairState, LeftEnds, InRight, SystemEnds, right_start, right_sort, pair_ended}
use Rattle.dlk_machine.specs.Pairs.{pair_reader, Begins}
use Rattle.dlk_machine.proofs.PairSystems.{system_read}
use Rattle.dlk_machine.proofs.PairTargets.{LeftText, left-either, left-term, left-context, left-program, left-flow, left-flow-except, Passes, goes_on}
use Rattle.dlk_machine.proofs.PairTargets.{left_passes}

-- The tokens of a right side, and the pair that it makes.
pub data RightText : Right → List Lexeme → PairPhrase → Type 0 where
  right-formula : {h : Target} {r : List Lexeme} {a : Phrase} → Reads formula r a → RightText (EitherOf h) r (to (predicate h) a)
  right-term : {h : Target} {r : List Lexeme} {a : Phrase} → Reads term r a → ((b : Phrase) → ¬ Reads formula r b)
      → RightText (EitherOf h) r (to (function h) a)
  right-text : {g : Sort} {s : Sym} {r : List Lexeme} {a : Phrase} → Reads (top g) r a → RightText (TextOf g s) r (to s a)
  right-system : {s : Sym} {k : ℕ} {r : List Lexeme} {l : Items} → ReadsItems r l
      → RightText (SystemOf s) (OpenBrace k ∷ (r ++ CloseBrace ∷ [])) (to s (System k l Truth))

-- The two sides of a pair.
pub pair_joined : {w : Right} {s r : List Lexeme} {p : PairPhrase} → LeftText w s → RightText w r p → ReadsPair (s ++ Becomes ∷ r) p
pair_joined (left-either d) (right-formula e) = pair-formula d e
pair_joined (left-either d) (right-term e never) = pair-term d e never
pair_joined (left-term w d) (right-text e) = pair-function w d e
pair_joined left-context (right-text e) = pair-context e
pair_joined left-program (right-text e) = pair-program e
pair_joined left-flow (right-system e) = pair-flow e
pair_joined left-flow-except (right-system e) = pair-flow-except e

pub record Parted (all : List Lexeme) (p : PairPhrase) : Type 0 where
  pub right : Right
  pub front : List Lexeme
  pub behind : List Lexeme
  pub left_text : LeftText right front
  pub right_text : RightText right behind p
  pub parts : all ≡ front ++ Becomes ∷ behind

parted : {w : Right} {s r : List Lexeme} {p : PairPhrase} → LeftText w s → RightText w r p → Parted (s ++ Becomes ∷ r) p
parted {w} {s} {r} l e = record { right = w; front = s; behind = r; left_text = l; right_text = e; parts = refl }

pub pair_parts : {s : List Lexeme} {p : PairPhrase} → ReadsPair s p → Parted s p
pair_parts (pair-formula d e) = parted (left-either d) (right-formula e)
pair_parts (pair-term d e never) = parted (left-either d) (right-term e never)
pair_parts (pair-function w d e) = parted (left-term w d) (right-text {g = Term} e)
pair_parts (pair-context e) = parted left-context (right-text {g = Formula} e)
pair_parts (pair-program e) = parted left-program (right-text {g = Program} e)
pair_parts (pair-flow e) = parted left-flow (right-system e)
pair_parts (pair-flow-except e) = parted left-flow-except (right-system e)

-- the text of a formula, a term or a program
text_passes : (w : Right) (r : List Lexeme) (x y : State) → states (reader (right_sort w)) x r ≡ Some y → Passes (InRight w x) r (InRight w y)
text_passes w [] x y e = ap (λ (u : State). Some (InRight w u)) (some_is x y e)
text_passes w (k ∷ r) x y e =
    let b = bind_some (step (right_sort w) x k) (λ u. states (reader (right_sort w)) u r) y e in
    let one : Passes (InRight w x) (k ∷ []) (InRight w b.0) = ap (λ (o : Option State). (o >>= λ u. Some (InRight w u)) >>= λ u. Some u) b.1 in
    goes_on (InRight w x) (InRight w b.0) (InRight w y) (k ∷ []) r one (text_passes w r b.0 y b.2)

-- with a choice before the end
abbrev pub chosen_pair : Target → State → Option Phrase → Option PairPhrase
chosen_pair h y q = or_else q (ended Term y >>= λ t. Some (to (function h) t)) (λ t. Some (to (predicate h) t))

-- What is read of a pair: where the reader stands, and that the pair is whole there.
abbrev pub PairRead : PairState → List Lexeme → PairPhrase → Type 0
PairRead x s p = (y : PairState) × Passes x s y × (pair_ended y ≡ Some p)

right_read : {w : Right} {r : List Lexeme} {p : PairPhrase} → RightText w r p → PairRead (right_start w) r p
right_read (right-formula {h = h} {r = r} {a = a} d) =
    let w = only_at Formula Formula r a d refl in
    (InRight (EitherOf h) w.0, text_passes (EitherOf h) r (Wants []) w.0 w.1, ap (chosen_pair h w.0) w.2)
right_read (right-term {h = h} {r = r} {a = a} d never) =
    let w = only_at Formula Term r a d refl in
    let none : ended Formula w.0 ≡ None =
    elim (known (ended Formula w.0)) [ inl o ↦ o | inr o ↦ absurd (never o.0 (ends Formula Formula w.0 r o.0 (passed_after Formula r w.0 w.1) o.1)) ] in (
      InRight (EitherOf h) w.0,
      text_passes (EitherOf h) r (Wants []) w.0 w.1,
      ap (chosen_pair h w.0) none ∙ ap (λ (q : Option Phrase). q >>= λ t. Some (to (function h) t)) w.2,
    )
right_read (right-text {g = g} {s = s} {r = r} {a = a} d) =
    let w = only_at g g r a d (allowed g) in
    (InRight (TextOf g s) w.0, text_passes (TextOf g s) r (Wants []) w.0 w.1, ap (λ (q : Option Phrase). q >>= λ t. Some (to s t)) w.2)
right_read (right-system {s = s} {k = k} {r = r} {l = l} d) = (SystemEnds s (System k l Truth), system_read d s k, refl)

-- Each pair is read.
pub pair_read : {s : List Lexeme} {p : PairPhrase} → ReadsPair s p → PairRead Begins s p
pair_read {s} {p} d =
    let x = pair_parts d in
    let y = right_read x.right_text in
    (y.0, ap (states pair_reader Begins) x.parts ∙ goes_on Begins (LeftEnds x.right) y.0 x.front (Becomes ∷ x.behind) (left_passes x.left_text) y.1, y.2)
