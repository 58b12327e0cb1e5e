-- The left side of a pair: how it is read, and what its tokens are.
use Rattle.std.proofs.Common.{◌≡◌, ℕ, ◌+◌, Bool, true, false, List, [], ◌∷◌, ◌++◌, Some, refl, sym, ap, subst, ◌∙◌, append_assoc, eq-eqb}
use Rattle.std.proofs.lemmas.Bool.{lt-ltb}
use Rattle.std.specs.Prelude.{codes}
use Rattle.dlk_tree.specs.declared.op.Kind.TheVariants.{Quant, Prog, Ode}
use Rattle.dlk_tree.specs.declared.op.Sort.TheVariants.{Term, Formula, Program}
use Rattle.dlk_grammar.specs.Erased.{symbol}
use Rattle.dlk_grammar.specs.Lexemes.{Word, Lexeme, Name, Dot, Blank, BraceBar, BarBrace, Close, OpenBrace, CloseBrace, Semi, Comma}
use Rattle.dlk_grammar.specs.Phrases.{Everywhere, Except}
use Rattle.dlk_grammar.specs.Substitutions.{Target, Over, function, most_dots, ReadsDots, dots-one, dots-more, ReadsTarget, target-nullary}
use Rattle.dlk_grammar.specs.Substitutions.{target-dots, target-any, target-except}
use Rattle.dlk_machine.proofs.Opening.{states, states_then}
use Rattle.dlk_machine.specs.Pairs.{Right, EitherOf, TextOf, SystemOf, right_of, PairState, Begins, LeftName, Calls, DotsOf, LeftEnds, pair_reader}

-- the word `term` in front of a left side, or nothing
pub data TermWord : Bool → List Lexeme → Type 0 where
  no-word : TermWord false []
  the-word : {n : ℕ} {w : Word} → w ≡ codes "term" → TermWord true (Name n w ∷ [])

-- The tokens of a left side, by what it wants on the right.
pub data LeftText : Right → List Lexeme → Type 0 where
  left-either : {s : List Lexeme} {h : Target} → ReadsTarget s h → LeftText (EitherOf h) s
  left-term : {n : ℕ} {w : Word} {s : List Lexeme} {h : Target} → w ≡ codes "term" → ReadsTarget s h → LeftText (TextOf Term (function h)) (Name n w ∷ s)
  left-context : {n m : ℕ} {x : Word} → LeftText (TextOf Formula (symbol Quant x 0 Everywhere)) (Name n x ∷ OpenBrace m ∷ Blank ∷ CloseBrace ∷ [])
  left-program : {n : ℕ} {x : Word} → LeftText (TextOf Program (symbol Prog x 0 Everywhere)) (Name n x ∷ Semi ∷ [])
  left-flow : {n m : ℕ} {x : Word} → LeftText (SystemOf (symbol Ode x 0 Everywhere)) (OpenBrace m ∷ Name n x ∷ CloseBrace ∷ [])
  left-flow-except : {n m j : ℕ} {x y : Word}
      → LeftText (SystemOf (symbol Ode x 0 (Except y))) (OpenBrace m ∷ Name n x ∷ BraceBar ∷ Name j y ∷ BarBrace ∷ CloseBrace ∷ [])

-- The reader gets from a state through tokens to a state.
abbrev pub Passes : PairState → List Lexeme → PairState → Type 0
Passes x s y = states pair_reader x s ≡ Some y

pub goes_on : (x y z : PairState) (s r : List Lexeme) → Passes x s y → Passes y r z → Passes x (s ++ r) z
goes_on x y z s r e f = states_then pair_reader s r x y e ∙ f

-- Each left side is read.
dots_pass : {s : List Lexeme} {m : ℕ} → ReadsDots s m → (e : Bool) (x : Word) → Passes (Calls e x) s (DotsOf e x m)
dots_pass dots-one e x = refl
dots_pass (dots-more {s = s} {n = n} below d) e x =
    let next : Passes (DotsOf e x n) (Comma ∷ Dot n ∷ []) (DotsOf e x (n + 1)) = rw (lt-ltb n most_dots below, eq-eqb n n refl) refl in
    goes_on (Calls e x) (DotsOf e x n) (DotsOf e x (n + 1)) s (Comma ∷ Dot n ∷ []) (dots_pass d e x) next

-- where a function or a predicate begins
abbrev begun : Bool → PairState
begun false = Begins
begun true = LeftName (codes "term")

target_passes : {s : List Lexeme} {h : Target} → ReadsTarget s h → (e : Bool) → Passes (begun e) s (LeftEnds (right_of e h))
target_passes target-nullary true = refl
target_passes target-nullary false = refl
target_passes (target-dots {m = m} {x = x} {s = s} d) true =
    goes_on (Calls true x) (DotsOf true x m) (LeftEnds (right_of true (Over x m))) s (Close ∷ []) (dots_pass d true x) refl
target_passes (target-dots {m = m} {x = x} {s = s} d) false =
    goes_on (Calls false x) (DotsOf false x m) (LeftEnds (right_of false (Over x m))) s (Close ∷ []) (dots_pass d false x) refl
target_passes target-any true = refl
target_passes target-any false = refl
target_passes target-except true = refl
target_passes target-except false = refl

pub left_passes : {w : Right} {s : List Lexeme} → LeftText w s → Passes Begins s (LeftEnds w)
left_passes (left-either d) = target_passes d false
left_passes (left-term {s = s} {h = h} e d) = subst (λ (v : Word). Passes (LeftName v) s (LeftEnds (TextOf Term (function h)))) (sym e) (target_passes d true)
left_passes left-context = refl
left_passes left-program = refl
left_passes left-flow = refl
left_passes left-flow-except = refl

-- Tokens behind the word `term`, or behind nothing.
pub record Behind (e : Bool) (own all : List Lexeme) : Type 0 where
  pub front : List Lexeme
  pub word : TermWord e front
  pub parts : all ≡ front ++ own

pub behind_nothing : (own all : List Lexeme) → all ≡ own → Behind false own all
behind_nothing own all e = record { front = []; word = no-word; parts = e }

pub behind_append : (e : Bool) (own all r : List Lexeme) → Behind e own all → Behind e (own ++ r) (all ++ r)
behind_append e own all r a = record { front = a.front; word = a.word; parts = ap (λ (z : List Lexeme). z ++ r) a.parts ∙ append_assoc a.front own r }

pub behind_more : (e : Bool) (own all : List Lexeme) (k : Lexeme) → Behind e own all → Behind e (own ++ k ∷ []) (all ++ k ∷ [])
behind_more e own all k a = behind_append e own all (k ∷ []) a

-- other words for the tokens
pub behind_same : (e : Bool) (own other all : List Lexeme) → own ≡ other → Behind e own all → Behind e other all
behind_same e own other all f a = subst (λ (z : List Lexeme). Behind e z all) f a

pub target_left : {e : Bool} {own all : List Lexeme} {h : Target} → Behind e own all → ReadsTarget own h → LeftText (right_of e h) all
target_left {e} {own} {all} {h} a d = subst (λ (z : List Lexeme). LeftText (right_of e h) z) (sym a.parts) (worded a.word d)
  where
    worded : {b : Bool} {f : List Lexeme} → TermWord b f → ReadsTarget own h → LeftText (right_of b h) (f ++ own)
    worded no-word t = left-either t
    worded (the-word w) t = left-term w t
