-- The tokens behind each state of the reader of a pair.
use Rattle.std.proofs.Common.{◌≡◌, ℕ, ◌+◌, ◌<◌, ◌==◌, Bool, true, false, List, [], ◌∷◌, ◌++◌, Some, refl, sym, ap, subst, ◌∙◌, append_assoc}
use Rattle.std.specs.Prelude.{codes, nat_lt}
use Rattle.std.specs.Str.{bytes_eq}
use Rattle.std.proofs.lemmas.Bool.{eqb-true, ltb-true}
use Rattle.std.proofs.lemmas.Slice.Eq.{bytes_eq-Decides}
use Rattle.dlk_tree.specs.declared.op.Kind.TheVariants.{Quant, Prog, Ode}
use Rattle.dlk_tree.specs.declared.op.Sym.{Sym}
use Rattle.dlk_tree.specs.declared.op.Sort.{Sort}
use Rattle.dlk_tree.specs.declared.op.Sort.TheVariants.{Formula, Program}
use Rattle.dlk_grammar.specs.Erased.{symbol}
use Rattle.dlk_grammar.specs.declared.token.Infix.TheVariants.{And}
use Rattle.dlk_grammar.specs.Lexemes.{Word, Lexeme, Name, Dot, Blank, RoundBars, RoundBar, BarRound, BraceBar, BarBrace, Open, Close, OpenBrace}
use Rattle.dlk_grammar.specs.Lexemes.{CloseBrace, Semi, Comma, Becomes, Op}
use Rattle.dlk_grammar.specs.Phrases.{Everywhere, Except}
use Rattle.dlk_grammar.specs.Substitutions.{Target, Over, Unit, most_dots, ReadsDots, dots-one, dots-more, target-nullary, target-dots, target-any}
use Rattle.dlk_grammar.specs.Substitutions.{target-except}
use Rattle.dlk_machine.specs.Machine.{◌>>=◌, Braced, Is, State, Wants, Has, step}
use Rattle.dlk_machine.specs.Parse.{reader}
use Rattle.dlk_machine.proofs.Opening.{some_is, bind_some, when_is, states, states_more}
use Rattle.dlk_machine.proofs.Parsing.{none_some}
use Rattle.dlk_machine.specs.Pairs.{Right, EitherOf, TextOf, SystemOf, right_of, PairState, Begins, LeftName, TermName, Calls, DotsOf, DotWanted}
use Rattle.dlk_machine.specs.Pairs.{Bars, BarsName, InContext, ContextHole, FlowOpens, FlowName, FlowBar, FlowBarName, FlowExcept, LeftEnds, InRight}
use Rattle.dlk_machine.specs.Pairs.{BraceWanted, InSystem, SystemEnds, target_step, right_start, right_sort, system_state, pair_step, pair_reader}
use Rattle.dlk_machine.proofs.PairSystems.{system_start}
use Rattle.dlk_machine.proofs.PairTargets.{the-word, Passes, LeftText, left-context, left-program, left-flow, left-flow-except, Behind}
use Rattle.dlk_machine.proofs.PairTargets.{behind_nothing, behind_more, behind_same, target_left}

-- the text of a right side, up to a state of its reader
pub record InText (w : Right) (y : State) (all : List Lexeme) : Type 0 where
  pub front : List Lexeme
  pub own : List Lexeme
  pub left_text : LeftText w front
  pub passed : states (reader (right_sort w)) (Wants []) own ≡ Some y
  pub parts : all ≡ front ++ Becomes ∷ own

-- a right side that is no system
pub data IsText : Right → Type 0 where
  either-text : {h : Target} → IsText (EitherOf h)
  sort-text : {g : Sort} {s : Sym} → IsText (TextOf g s)

-- a system behind its brace, up to a state of its reader
pub record SystemText (s : Sym) (y : PairState) (all : List Lexeme) : Type 0 where
  pub front : List Lexeme
  pub place : ℕ
  pub own : List Lexeme
  pub left_text : LeftText (SystemOf s) front
  pub passed : Passes (InSystem s (system_start place)) own y
  pub parts : all ≡ front ++ Becomes ∷ OpenBrace place ∷ own

-- The state after these tokens.
abbrev pub PairAfter : PairState → List Lexeme → Type 0
PairAfter Begins all = all ≡ []
PairAfter (LeftName x) all = (n : ℕ) × (all ≡ Name n x ∷ [])
PairAfter (TermName x) all = (n : ℕ) × Behind true (Name n x ∷ []) all
PairAfter (Calls e x) all = (n : ℕ) × Behind e (Name n x ∷ Open ∷ []) all
PairAfter (DotsOf e x m) all = (n : ℕ) × (s : List Lexeme) × ReadsDots s m × Behind e (Name n x ∷ Open ∷ s) all
PairAfter (DotWanted e x m) all = (n : ℕ) × (s : List Lexeme) × (m < most_dots) × ReadsDots s m × Behind e (Name n x ∷ Open ∷ (s ++ Comma ∷ [])) all
PairAfter (Bars e x) all = (n : ℕ) × Behind e (Name n x ∷ RoundBar ∷ []) all
PairAfter (BarsName e x y) all = (n m : ℕ) × Behind e (Name n x ∷ RoundBar ∷ Name m y ∷ []) all
PairAfter (InContext x) all = (n m : ℕ) × (all ≡ Name n x ∷ OpenBrace m ∷ [])
PairAfter (ContextHole x) all = (n m : ℕ) × (all ≡ Name n x ∷ OpenBrace m ∷ Blank ∷ [])
PairAfter FlowOpens all = (m : ℕ) × (all ≡ OpenBrace m ∷ [])
PairAfter (FlowName x) all = (m n : ℕ) × (all ≡ OpenBrace m ∷ Name n x ∷ [])
PairAfter (FlowBar x) all = (m n : ℕ) × (all ≡ OpenBrace m ∷ Name n x ∷ BraceBar ∷ [])
PairAfter (FlowBarName x y) all = (m n j : ℕ) × (all ≡ OpenBrace m ∷ Name n x ∷ BraceBar ∷ Name j y ∷ [])
PairAfter (FlowExcept x y) all = (m n j : ℕ) × (all ≡ OpenBrace m ∷ Name n x ∷ BraceBar ∷ Name j y ∷ BarBrace ∷ [])
PairAfter (LeftEnds w) all = LeftText w all
PairAfter (InRight w y) all = IsText w × InText w y all
PairAfter (BraceWanted s) all = (f : List Lexeme) × LeftText (SystemOf s) f × (all ≡ f ++ Becomes ∷ [])
PairAfter (InSystem s y) all = SystemText s (InSystem s y) all
PairAfter (SystemEnds s t) all = SystemText s (SystemEnds s t) all

moved : (x y : PairState) (all : List Lexeme) → Some x ≡ Some y → PairAfter x all → PairAfter y all
moved x y all e a = subst (λ (z : PairState). PairAfter z all) (some_is x y e) a

-- one more token
more : (all own : List Lexeme) (k : Lexeme) → all ≡ own → all ++ k ∷ [] ≡ own ++ k ∷ []
more all own k e = ap (λ (z : List Lexeme). z ++ k ∷ []) e

left_is : (w : Right) (s all : List Lexeme) → all ≡ s → LeftText w s → LeftText w all
left_is w s all e l = subst (λ (z : List Lexeme). LeftText w z) (sym e) l

-- The left side.
target_moves : (e : Bool) (x : Word) (k : Lexeme) (y : PairState) (all : List Lexeme) (n : ℕ) → Behind e (Name n x ∷ []) all → target_step e x k ≡ Some y
    → PairAfter y (all ++ k ∷ [])
target_moves e x Open y all n a h = moved (Calls e x) y _ h (n, behind_more e (Name n x ∷ []) all Open a)
target_moves e x RoundBars y all n a h =
    moved (LeftEnds (right_of e (Unit x Everywhere))) y _ h (target_left (behind_more e (Name n x ∷ []) all RoundBars a) target-any)
target_moves e x RoundBar y all n a h = moved (Bars e x) y _ h (n, behind_more e (Name n x ∷ []) all RoundBar a)
target_moves e x _ y all n a h = absurd (none_some y h)

begins_moves : (k : Lexeme) (y : PairState) (all : List Lexeme) → all ≡ [] → pair_step Begins k ≡ Some y → PairAfter y (all ++ k ∷ [])
begins_moves (Name n x) y all a h = moved (LeftName x) y _ h (n, more all [] (Name n x) a)
begins_moves (OpenBrace m) y all a h = moved FlowOpens y _ h (m, more all [] (OpenBrace m) a)
begins_moves _ y all a h = absurd (none_some y h)

left_name_moves : (x : Word) (k : Lexeme) (y : PairState) (all : List Lexeme) (n : ℕ) → all ≡ Name n x ∷ [] → pair_step (LeftName x) k ≡ Some y
    → PairAfter y (all ++ k ∷ [])
left_name_moves x (Name m z) y all n a h =
    let w = when_is (bytes_eq x (codes "term")) (Some (TermName z)) y h in
    moved (TermName z) y _ w.1
    (m, record { front = Name n x ∷ []; word = the-word ((bytes_eq-Decides x (codes "term")).0 w.0); parts = more all (Name n x ∷ []) (Name m z) a })
left_name_moves x (OpenBrace m) y all n a h = moved (InContext x) y _ h (n, m, more all (Name n x ∷ []) (OpenBrace m) a)
left_name_moves x Semi y all n a h =
    moved (LeftEnds (TextOf Program (symbol Prog x 0 Everywhere))) y _ h (left_is _ (Name n x ∷ Semi ∷ []) _ (more all (Name n x ∷ []) Semi a) left-program)
left_name_moves x k y all n a h = target_moves false x k y all n (behind_nothing (Name n x ∷ []) all a) h

calls_moves : (e : Bool) (x : Word) (k : Lexeme) (y : PairState) (all : List Lexeme) (n : ℕ) → Behind e (Name n x ∷ Open ∷ []) all
    → pair_step (Calls e x) k ≡ Some y → PairAfter y (all ++ k ∷ [])
calls_moves e x Close y all n a h =
    moved (LeftEnds (right_of e (Over x 0))) y _ h (target_left (behind_more e (Name n x ∷ Open ∷ []) all Close a) target-nullary)
calls_moves e x (Dot d) y all n a h =
    let w = when_is (d == 0) (Some (DotsOf e x 1)) y h in
    let first : Behind e (Name n x ∷ Open ∷ Dot d ∷ []) (all ++ Dot d ∷ []) = behind_more e (Name n x ∷ Open ∷ []) all (Dot d) a in
    moved (DotsOf e x 1) y _ w.1 (n, Dot d ∷ [], subst (λ (i : ℕ). ReadsDots (Dot i ∷ []) 1) (sym (eqb-true d 0 w.0)) dots-one, first)
calls_moves e x _ y all n a h = absurd (none_some y h)

dots_moves : (e : Bool) (x : Word) (m : ℕ) (k : Lexeme) (y : PairState) (all : List Lexeme) (n : ℕ) (s : List Lexeme) → ReadsDots s m
    → Behind e (Name n x ∷ Open ∷ s) all → pair_step (DotsOf e x m) k ≡ Some y → PairAfter y (all ++ k ∷ [])
dots_moves e x m Comma y all n s d a h =
    let w = when_is (nat_lt m most_dots) (Some (DotWanted e x m)) y h in
    moved (DotWanted e x m) y _ w.1 (n, s, ltb-true m most_dots w.0, d, behind_more e (Name n x ∷ Open ∷ s) all Comma a)
dots_moves e x m Close y all n s d a h =
    moved (LeftEnds (right_of e (Over x m))) y _ h (target_left (behind_more e (Name n x ∷ Open ∷ s) all Close a) (target-dots d))
dots_moves e x m _ y all n s d a h = absurd (none_some y h)

dot_wanted_moves : (e : Bool) (x : Word) (m : ℕ) (k : Lexeme) (y : PairState) (all : List Lexeme) (n : ℕ) (s : List Lexeme)
    → m < most_dots → ReadsDots s m → Behind e (Name n x ∷ Open ∷ (s ++ Comma ∷ [])) all → pair_step (DotWanted e x m) k ≡ Some y → PairAfter y (all ++ k ∷ [])
dot_wanted_moves e x m (Dot d) y all n s below ds a h =
    let w = when_is (d == m) (Some (DotsOf e x (m + 1))) y h in
    let at : Name n x ∷ Open ∷ ((s ++ Comma ∷ []) ++ Dot d ∷ []) ≡ Name n x ∷ Open ∷ (s ++ Comma ∷ Dot d ∷ []) =
    ap (λ (z : List Lexeme). Name n x ∷ Open ∷ z) (append_assoc s (Comma ∷ []) (Dot d ∷ [])) in
    let b = behind_same e _ (Name n x ∷ Open ∷ (s ++ Comma ∷ Dot d ∷ [])) _ at (behind_more e (Name n x ∷ Open ∷ (s ++ Comma ∷ [])) all (Dot d) a) in
    let dots : ReadsDots (s ++ Comma ∷ Dot d ∷ []) (m + 1) =
    subst (λ (i : ℕ). ReadsDots (s ++ Comma ∷ Dot i ∷ []) (m + 1)) (sym (eqb-true d m w.0)) (dots-more below ds) in
    moved (DotsOf e x (m + 1)) y _ w.1 (n, s ++ Comma ∷ Dot d ∷ [], dots, b)
dot_wanted_moves e x m _ y all n s below ds a h = absurd (none_some y h)

bars_moves : (e : Bool) (x : Word) (k : Lexeme) (y : PairState) (all : List Lexeme) (n : ℕ) → Behind e (Name n x ∷ RoundBar ∷ []) all
    → pair_step (Bars e x) k ≡ Some y → PairAfter y (all ++ k ∷ [])
bars_moves e x (Name m z) y all n a h = moved (BarsName e x z) y _ h (n, m, behind_more e (Name n x ∷ RoundBar ∷ []) all (Name m z) a)
bars_moves e x _ y all n a h = absurd (none_some y h)

bars_name_moves : (e : Bool) (x z : Word) (k : Lexeme) (y : PairState) (all : List Lexeme) (n m : ℕ) → Behind e (Name n x ∷ RoundBar ∷ Name m z ∷ []) all
    → pair_step (BarsName e x z) k ≡ Some y → PairAfter y (all ++ k ∷ [])
bars_name_moves e x z BarRound y all n m a h =
    moved (LeftEnds (right_of e (Unit x (Except z)))) y _ h (target_left (behind_more e (Name n x ∷ RoundBar ∷ Name m z ∷ []) all BarRound a) target-except)
bars_name_moves e x z _ y all n m a h = absurd (none_some y h)

context_moves : (x : Word) (k : Lexeme) (y : PairState) (all : List Lexeme) (n m : ℕ) → all ≡ Name n x ∷ OpenBrace m ∷ []
    → pair_step (InContext x) k ≡ Some y → PairAfter y (all ++ k ∷ [])
context_moves x Blank y all n m a h = moved (ContextHole x) y _ h (n, m, more all (Name n x ∷ OpenBrace m ∷ []) Blank a)
context_moves x _ y all n m a h = absurd (none_some y h)

hole_moves : (x : Word) (k : Lexeme) (y : PairState) (all : List Lexeme) (n m : ℕ) → all ≡ Name n x ∷ OpenBrace m ∷ Blank ∷ []
    → pair_step (ContextHole x) k ≡ Some y → PairAfter y (all ++ k ∷ [])
hole_moves x CloseBrace y all n m a h =
    moved (LeftEnds (TextOf Formula (symbol Quant x 0 Everywhere))) y _ h
    (left_is _ (Name n x ∷ OpenBrace m ∷ Blank ∷ CloseBrace ∷ []) _ (more all (Name n x ∷ OpenBrace m ∷ Blank ∷ []) CloseBrace a) left-context)
hole_moves x _ y all n m a h = absurd (none_some y h)

flow_opens_moves : (k : Lexeme) (y : PairState) (all : List Lexeme) (m : ℕ) → all ≡ OpenBrace m ∷ [] → pair_step FlowOpens k ≡ Some y
    → PairAfter y (all ++ k ∷ [])
flow_opens_moves (Name n x) y all m a h = moved (FlowName x) y _ h (m, n, more all (OpenBrace m ∷ []) (Name n x) a)
flow_opens_moves _ y all m a h = absurd (none_some y h)

flow_name_moves : (x : Word) (k : Lexeme) (y : PairState) (all : List Lexeme) (m n : ℕ) → all ≡ OpenBrace m ∷ Name n x ∷ []
    → pair_step (FlowName x) k ≡ Some y → PairAfter y (all ++ k ∷ [])
flow_name_moves x CloseBrace y all m n a h =
    moved (LeftEnds (SystemOf (symbol Ode x 0 Everywhere))) y _ h
    (left_is _ (OpenBrace m ∷ Name n x ∷ CloseBrace ∷ []) _ (more all (OpenBrace m ∷ Name n x ∷ []) CloseBrace a) left-flow)
flow_name_moves x BraceBar y all m n a h = moved (FlowBar x) y _ h (m, n, more all (OpenBrace m ∷ Name n x ∷ []) BraceBar a)
flow_name_moves x _ y all m n a h = absurd (none_some y h)

flow_bar_moves : (x : Word) (k : Lexeme) (y : PairState) (all : List Lexeme) (m n : ℕ) → all ≡ OpenBrace m ∷ Name n x ∷ BraceBar ∷ []
    → pair_step (FlowBar x) k ≡ Some y → PairAfter y (all ++ k ∷ [])
flow_bar_moves x (Name j z) y all m n a h = moved (FlowBarName x z) y _ h (m, n, j, more all (OpenBrace m ∷ Name n x ∷ BraceBar ∷ []) (Name j z) a)
flow_bar_moves x _ y all m n a h = absurd (none_some y h)

flow_bar_name_moves : (x z : Word) (k : Lexeme) (y : PairState) (all : List Lexeme) (m n j : ℕ) → all ≡ OpenBrace m ∷ Name n x ∷ BraceBar ∷ Name j z ∷ []
    → pair_step (FlowBarName x z) k ≡ Some y → PairAfter y (all ++ k ∷ [])
flow_bar_name_moves x z BarBrace y all m n j a h =
    moved (FlowExcept x z) y _ h (m, n, j, more all (OpenBrace m ∷ Name n x ∷ BraceBar ∷ Name j z ∷ []) BarBrace a)
flow_bar_name_moves x z _ y all m n j a h = absurd (none_some y h)

flow_except_moves : (x z : Word) (k : Lexeme) (y : PairState) (all : List Lexeme) (m n j : ℕ)
    → all ≡ OpenBrace m ∷ Name n x ∷ BraceBar ∷ Name j z ∷ BarBrace ∷ [] → pair_step (FlowExcept x z) k ≡ Some y → PairAfter y (all ++ k ∷ [])
flow_except_moves x z CloseBrace y all m n j a h =
    moved (LeftEnds (SystemOf (symbol Ode x 0 (Except z)))) y _ h
    (left_is _ (OpenBrace m ∷ Name n x ∷ BraceBar ∷ Name j z ∷ BarBrace ∷ CloseBrace ∷ []) _
    (more all (OpenBrace m ∷ Name n x ∷ BraceBar ∷ Name j z ∷ BarBrace ∷ []) CloseBrace a) left-flow-except)
flow_except_moves x z _ y all m n j a h = absurd (none_some y h)

-- The right side.
begun_text : (w : Right) (all : List Lexeme) → LeftText w all → InText w (Wants []) (all ++ Becomes ∷ [])
begun_text w all l = record { front = all; own = []; left_text = l; passed = refl; parts = refl }

right_begins : (w : Right) (all : List Lexeme) → LeftText w all → PairAfter (right_start w) (all ++ Becomes ∷ [])
right_begins (EitherOf h) all l = (either-text, begun_text (EitherOf h) all l)
right_begins (TextOf g s) all l = (sort-text, begun_text (TextOf g s) all l)
right_begins (SystemOf s) all l = (all, l, refl)

left_ends_moves : (w : Right) (k : Lexeme) (y : PairState) (all : List Lexeme) → LeftText w all → pair_step (LeftEnds w) k ≡ Some y
    → PairAfter y (all ++ k ∷ [])
left_ends_moves w Becomes y all l h = moved (right_start w) y _ h (right_begins w all l)
left_ends_moves w _ y all l h = absurd (none_some y h)

text_moves : (w : Right) (x : State) (k : Lexeme) (y : PairState) (all : List Lexeme) → IsText w → InText w x all
    → (step (right_sort w) x k >>= λ z. Some (InRight w z)) ≡ Some y → PairAfter y (all ++ k ∷ [])
text_moves w x k y all t a h =
    let b = bind_some (step (right_sort w) x k) (λ z. Some (InRight w z)) y h in
    moved (InRight w b.0) y _ b.2 (
      t,
      record {
        front = a.front;
        own = a.own ++ k ∷ [];
        left_text = a.left_text;
        passed = states_more (reader (right_sort w)) a.own k (Wants []) x b.0 a.passed b.1;
        parts = more all (a.front ++ Becomes ∷ a.own) k a.parts ∙ append_assoc a.front (Becomes ∷ a.own) (k ∷ []);
      },
    )

brace_wanted_moves : (s : Sym) (k : Lexeme) (y : PairState) (all f : List Lexeme) → LeftText (SystemOf s) f → all ≡ f ++ Becomes ∷ []
    → pair_step (BraceWanted s) k ≡ Some y → PairAfter y (all ++ k ∷ [])
brace_wanted_moves s (OpenBrace m) y all f l a h =
    let at : all ++ OpenBrace m ∷ [] ≡ f ++ Becomes ∷ OpenBrace m ∷ [] =
    more all (f ++ Becomes ∷ []) (OpenBrace m) a ∙ append_assoc f (Becomes ∷ []) (OpenBrace m ∷ []) in
    moved (InSystem s (system_start m)) y _ h (record { front = f; place = m; own = []; left_text = l; passed = refl; parts = at })
brace_wanted_moves s _ y all f l a h = absurd (none_some y h)

-- one more token of a system
system_more : {s : Sym} {x : PairState} {all : List Lexeme} → SystemText s x all → (k : Lexeme) (y : PairState) → pair_step x k ≡ Some y
    → SystemText s y (all ++ k ∷ [])
system_more {s} {x} {all} a k y h = record {
  front = a.front;
  place = a.place;
  own = a.own ++ k ∷ [];
  left_text = a.left_text;
  passed = states_more pair_reader a.own k (InSystem s (system_start a.place)) x y a.passed h;
  parts = more all (a.front ++ Becomes ∷ OpenBrace a.place ∷ a.own) k a.parts ∙ append_assoc a.front (Becomes ∷ OpenBrace a.place ∷ a.own) (k ∷ []);
}

system_after : (s : Sym) (z : State) (all : List Lexeme) → SystemText s (system_state s z) all → PairAfter (system_state s z) all
system_after s (Has [] (Is Program t Braced)) all a = a
system_after s _ all a = a

system_moves : (s : Sym) (x : State) (k : Lexeme) (y : PairState) (all : List Lexeme) → SystemText s (InSystem s x) all
    → pair_step (InSystem s x) k ≡ Some y → PairAfter y (all ++ k ∷ [])
system_moves s x (Op And) y all a h = absurd (none_some y h)
system_moves s x k y all a h =
    let b = bind_some (step Program x k) (λ z. Some (system_state s z)) y h in
    moved (system_state s b.0) y _ b.2 (system_after s b.0 (all ++ k ∷ []) (system_more a k (system_state s b.0) (h ∙ sym b.2)))

pub pair_moves : (x : PairState) (k : Lexeme) (y : PairState) (all : List Lexeme) → PairAfter x all → pair_step x k ≡ Some y → PairAfter y (all ++ k ∷ [])
pair_moves Begins k y all a h = begins_moves k y all a h
pair_moves (LeftName x) k y all a h = left_name_moves x k y all a.0 a.1 h
pair_moves (TermName x) k y all a h = target_moves true x k y all a.0 a.1 h
pair_moves (Calls e x) k y all a h = calls_moves e x k y all a.0 a.1 h
pair_moves (DotsOf e x m) k y all a h = dots_moves e x m k y all a.0 a.1 a.2 a.3 h
pair_moves (DotWanted e x m) k y all a h = dot_wanted_moves e x m k y all a.0 a.1 a.2 a.3 a.4 h
pair_moves (Bars e x) k y all a h = bars_moves e x k y all a.0 a.1 h
pair_moves (BarsName e x z) k y all a h = bars_name_moves e x z k y all a.0 a.1 a.2 h
pair_moves (InContext x) k y all a h = context_moves x k y all a.0 a.1 a.2 h
pair_moves (ContextHole x) k y all a h = hole_moves x k y all a.0 a.1 a.2 h
pair_moves FlowOpens k y all a h = flow_opens_moves k y all a.0 a.1 h
pair_moves (FlowName x) k y all a h = flow_name_moves x k y all a.0 a.1 a.2 h
pair_moves (FlowBar x) k y all a h = flow_bar_moves x k y all a.0 a.1 a.2 h
pair_moves (FlowBarName x z) k y all a h = flow_bar_name_moves x z k y all a.0 a.1 a.2 a.3 h
pair_moves (FlowExcept x z) k y all a h = flow_except_moves x z k y all a.0 a.1 a.2 a.3 h
pair_moves (LeftEnds w) k y all a h = left_ends_moves w k y all a h
pair_moves (InRight w x) k y all a h = text_moves w x k y all a.0 a.1 h
pair_moves (BraceWanted s) k y all a h = brace_wanted_moves s k y all a.0 a.1 a.2 h
pair_moves (InSystem s x) k y all a h = system_moves s x k y all a h
pair_moves (SystemEnds s t) k y all a h = absurd (none_some y h)
