-- What a text leaves open, whatever stands behind it: operators, brackets, lists, statements.
use Rattle.std.proofs.Common.{◌≡◌, ℕ, ◌<◌, ◌≤◌, Bool, true, false, List, [], ◌∷◌, ◌++◌, Option, Some, refl, sym, ap, subst, ◌∙◌, append_assoc, arith}
use Rattle.std.proofs.lemmas.Bool.{le-ltb, lt-ltb}
use Rattle.dlk_grammar.specs.declared.token.Infix.{Infix}
use Rattle.dlk_grammar.specs.declared.token.Infix.TheVariants.{Equiv, Imply, Or, And, Equal, NotEqual, AtLeast, Greater, AtMost, Less, Add, Sub, Mul}
use Rattle.dlk_grammar.specs.declared.token.Infix.TheVariants.{Div, Pow, Choice}
use Rattle.dlk_grammar.specs.Lexemes.{Word, Lexeme, Name, Open, Close, OpenBrace, CloseBrace, Prime, Gets, Query, Semi, Comma, Op}
use Rattle.dlk_grammar.specs.Phrases.{Phrase, Variable, Apply, Diff, Holds, Context, DiffF, Binary, Phrases, none, snoc, Head, Call}
use Rattle.dlk_grammar.specs.Grammar.{Nonterminal, formula, imp, disj, conj, unf, atom, term, mul, neg, pow, prim, prog, seq, stmt}
use Rattle.dlk_tree.specs.declared.op.Sort.{Sort}
use Rattle.dlk_tree.specs.declared.op.Sort.TheVariants.{Term, Formula, Program}
use Rattle.dlk_machine.specs.Levels.{form_level, form_sort}
use Rattle.dlk_machine.specs.Machine.{◌>>=◌, when, Between, By, Next, Modality, Prefix, Modal, Holder, Round, Args, InContext, In, InBrace, Assigns}
use Rattle.dlk_machine.specs.Machine.{Tests, Evolves, Domain, Notes, Part, Left, Before, Inside, level, right_level, operand_sort, result_sort}
use Rattle.dlk_machine.specs.Machine.{binary, prefix_level, prefix_sort, unary, Tail, Done, Bare, Grouped, Piece, Is, Symbol, State, Wants, Has}
use Rattle.dlk_machine.specs.Machine.{Calls, StartsGets, Opens, primes, formula_primes, as_sort, with_tail, program_sort, is_program, wanted, join}
use Rattle.dlk_machine.specs.Machine.{reduce, round_sort, place, allows, fits, start_operand, start_statement, after_operand, close, closing, and_top}
use Rattle.dlk_machine.specs.Machine.{infix_after, primed, next_after, after_program, after_other, call_step, statement_gets_step, step}
use Rattle.dlk_machine.specs.Parse.{reader}
use Rattle.dlk_machine.proofs.Climb.{own_form, left_form, right_form}
use Rattle.dlk_machine.proofs.Opening.{some_is, bind_some, when_is, states}
use Rattle.dlk_machine.proofs.Firsts.{front-query, front-brace, front-const, front-assign, front-assign_prime, is_other, First}

-- Every part wants more than a level.
abbrev pub Tight : ℕ → List Part → Type 0
Tight n [] = Unit {0}
Tight n (e ∷ F) = (n < wanted e) × Tight n F

-- The last part wants no more than a level.
abbrev pub Loose : ℕ → List Part → Type 0
Loose n [] = Unit {0}
Loose n (e ∷ S) = wanted e ≤ n

-- the state after some more tokens
abbrev pub arrive : Sort → State → List Lexeme → Option State
arrive g x s = states (reader g) x s

-- Closes all of the parts.
abbrev pub fold : List Part → Piece → Option Piece
fold [] p = Some p
fold (e ∷ F) p = join e p >>= fold F

abbrev pub tightness : Nonterminal → ℕ
tightness formula = 0
tightness imp = 1
tightness disj = 2
tightness conj = 3
tightness unf = 4
tightness atom = 6
tightness term = 7
tightness mul = 8
tightness neg = 8
tightness pow = 8
tightness prim = 10
tightness prog = 0
tightness seq = 1
tightness stmt = 2

pub Tight-less : (m n : ℕ) (F : List Part) → m ≤ n → Tight n F → Tight m F
Tight-less m n [] h t = tt
Tight-less m n (e ∷ F) h t = (omega (arith, t.0), Tight-less m n F h t.1)

Tight-append : (n : ℕ) (F G : List Part) → Tight n F → Tight n G → Tight n (F ++ G)
Tight-append n [] G t u = u
Tight-append n (e ∷ F) G t u = (t.0, Tight-append n F G t.1 u)

fold-last : (F : List Part) (e : Part) (p q r : Piece) → fold F p ≡ Some q → join e q ≡ Some r → fold (F ++ e ∷ []) p ≡ Some r
fold-last [] e p q r h j = let same : p ≡ q = cc in rw (same, j) refl
fold-last (d ∷ F) e p q r h j =
    let b = bind_some (join d p) (fold F) q h in
    rw (b.1) (fold-last F e b.0 q r b.2 j)

pub reduce-tight : (n : ℕ) (F S : List Part) (p q : Piece) → Tight n F → fold F p ≡ Some q → reduce n (F ++ S) p ≡ reduce n S q
reduce-tight n [] S p q t h = let same : p ≡ q = cc in ap (reduce n S) same
reduce-tight n (e ∷ F) S p q t h =
    let b = bind_some (join e p) (fold F) q h in
    rw (lt-ltb _ _ t.0, b.1) (reduce-tight n F S b.0 q t.1 b.2)

pub reduce-loose : (n : ℕ) (S : List Part) (p : Piece) → Loose n S → reduce n S p ≡ Some (S, p)
reduce-loose n [] p h = refl
reduce-loose n (e ∷ S) p h = rw (le-ltb _ _ h) refl

pub Loose-more : (m n : ℕ) (S : List Part) → m ≤ n → Loose m S → Loose n S
Loose-more m n [] h l = tt
Loose-more m n (e ∷ S) h l = omega arith

-- A text of a nonterminal, from a state that wants an operand: what is open afterwards.
pub record Ends (g : Sort) (S : List Part) (s : List Lexeme) (n : Nonterminal) (t : Phrase) : Type 0 where
  pub parts : List Part
  pub last : Piece
  pub value : Piece
  pub runs : (rest : List Lexeme) → arrive g (Wants S) (s ++ rest) ≡ arrive g (Has (parts ++ S) last) rest
  pub tight : Tight (tightness n) parts
  pub folds : fold parts last ≡ Some value
  pub tree : as_sort (form_sort n) value ≡ Some t
  pub kind : is_program last ≡ program_sort (form_sort n)

-- A holder of a list, by what it has so far, and what stands in it.
pub record Lists (g : Sort) (h : Phrases → Holder) (f : Nonterminal) (S : List Part) : Type 0 where
  pub operand : program_sort (form_sort f) ≡ false
  pub fit : (l : Phrases) → fits g (form_sort f) (Inside (h l) ∷ S) ≡ true
  pub comma : (l : Phrases) (p : Piece) → close Comma (h l) S p ≡ (as_sort (form_sort f) p >>= λ t. Some (Wants (Inside (h (snoc l t)) ∷ S)))

-- The same of a list.
pub record EndsList (g : Sort) (h : Phrases → Holder) (f : Nonterminal) (S : List Part) (s : List Lexeme) (l : Phrases) : Type 0 where
  pub parts : List Part
  pub last : Piece
  pub value : Piece
  pub front : Phrases
  pub tree : Phrase
  pub runs : (rest : List Lexeme) → arrive g (Wants (Inside (h none) ∷ S)) (s ++ rest) ≡ arrive g (Has (parts ++ Inside (h front) ∷ S) last) rest
  pub tight : Tight 0 parts
  pub folds : fold parts last ≡ Some value
  pub is : as_sort (form_sort f) value ≡ Some tree
  pub list : snoc front tree ≡ l
  pub kind : is_program last ≡ false

same_sort : (n m : Nonterminal) (p : Piece) (t : Phrase) → form_sort n ≡ form_sort m → as_sort (form_sort n) p ≡ Some t → as_sort (form_sort m) p ≡ Some t
same_sort n m p t e h = subst (λ (s : Sort). as_sort s p ≡ Some t) e h

-- a production without tokens of its own
pub up : (g : Sort) (S : List Part) (s : List Lexeme) (n m : Nonterminal) (t : Phrase) → form_sort n ≡ form_sort m → tightness m ≤ tightness n → Ends g S s n t
    → Ends g S s m t
up g S s n m t e le x = record {
  parts = x.parts;
  last = x.last;
  value = x.value;
  runs = x.runs;
  tight = Tight-less _ _ x.parts le x.tight;
  folds = x.folds;
  tree = same_sort n m x.value t e x.tree;
  kind = x.kind ∙ ap program_sort e;
}

-- a text that leaves nothing open
pub single : (g : Sort) (S : List Part) (s : List Lexeme) (n : Nonterminal) (t : Phrase) (p : Piece)
    → ((rest : List Lexeme) → arrive g (Wants S) (s ++ rest) ≡ arrive g (Has S p) rest) → as_sort (form_sort n) p ≡ Some t
    → is_program p ≡ program_sort (form_sort n) → Ends g S s n t
single g S s n t p runs tree kind = record { parts = []; last = p; value = p; runs = runs; tight = tt; folds = refl; tree = tree; kind = kind }

is_tree : (s r : Sort) (t : Phrase) (l : Tail) → s ≡ r → as_sort r (Is s t l) ≡ Some t
is_tree Term Term t l e = refl
is_tree Formula Formula t l e = refl
is_tree Program Program t l e = refl
is_tree Term Formula t l e = absurd cc
is_tree Term Program t l e = absurd cc
is_tree Formula Term t l e = absurd cc
is_tree Formula Program t l e = absurd cc
is_tree Program Term t l e = absurd cc
is_tree Program Formula t l e = absurd cc

pub place_kind : (p s : Sort) → allows p s ≡ true → program_sort p ≡ program_sort s
place_kind Term Term e = refl
place_kind Formula Term e = refl
place_kind Formula Formula e = refl
place_kind Program Program e = refl
place_kind Term Formula e = absurd cc
place_kind Term Program e = absurd cc
place_kind Formula Program e = absurd cc
place_kind Program Term e = absurd cc
place_kind Program Formula e = absurd cc

-- where a term or a formula may stand, an operand is wanted, and where a program may, a statement
pub operand_wanted : (g s : Sort) (S : List Part) (k : Lexeme) → program_sort s ≡ false → fits g s S ≡ true → step g (Wants S) k ≡ start_operand g S k
operand_wanted g s S k e f = let h : program_sort (place g S) ≡ false = place_kind (place g S) s f ∙ e in rw h refl

pub statement_wanted : (g : Sort) (S : List Part) (k : Lexeme) → fits g Program S ≡ true → step g (Wants S) k ≡ start_statement S k
statement_wanted g S k f = let h : program_sort (place g S) ≡ true = place_kind (place g S) Program f in rw h refl

-- an operator with both operands
pub record Fitting (o : Between) (n l r : Nonterminal) : Type 0 where
  left_sort : form_sort l ≡ operand_sort o
  right_sort : form_sort r ≡ operand_sort o
  sort : result_sort o ≡ form_sort n
  left_level : level o ≤ tightness l
  own_level : form_level n ≤ level o
  own_tight : tightness n < right_level o
  right_tight : tightness n ≤ tightness r
  kind : program_sort (form_sort r) ≡ program_sort (form_sort n)

pub fitting : (o : Infix) → Fitting (By o) (own_form (By o)) (left_form (By o)) (right_form (By o))
fitting Equiv = record {
  left_sort = refl;
  right_sort = refl;
  sort = refl;
  left_level = omega arith;
  own_level = omega arith;
  own_tight = omega arith;
  right_tight = omega arith;
  kind = refl;
}
fitting _ = record {
  left_sort = refl;
  right_sort = refl;
  sort = refl;
  left_level = omega arith;
  own_level = omega arith;
  own_tight = omega arith;
  right_tight = omega arith;
  kind = refl;
}

-- the operator is met: its left operand is closed
pub met : (g : Sort) (S : List Part) (s : List Lexeme) (o : Between) (n lf : Nonterminal) (a : Phrase) (x : Ends g S s lf a) → form_sort lf ≡ operand_sort o
    → result_sort o ≡ form_sort n → level o ≤ tightness lf → form_level n ≤ level o → Loose (form_level n) S → fits g (form_sort n) S ≡ true
    → after_operand g o (x.parts ++ S) x.last ≡ Some (Left o a ∷ S)
met g S s o n lf a x left_sort sort left_level own_level loose fit =
    let left_is : as_sort (operand_sort o) x.value ≡ Some a = subst (λ (k : Sort). as_sort k x.value ≡ Some a) left_sort x.tree in
    let fit' : fits g (result_sort o) S ≡ true = subst (λ (k : Sort). fits g k S ≡ true) (sym sort) fit in
    let reduced : reduce (level o) (x.parts ++ S) x.last ≡ Some (S, x.value) =
    reduce-tight (level o) x.parts S x.last x.value (Tight-less _ _ x.parts left_level x.tight) x.folds
    ∙ reduce-loose (level o) S x.value (Loose-more _ _ S own_level loose) in
    rw (reduced, left_is, fit') refl

-- the right operand is read, with the text before it
pub both : (g : Sort) (S : List Part) (q r : List Lexeme) (o : Between) (n rf : Nonterminal) (a b : Phrase) → form_sort rf ≡ operand_sort o
    → result_sort o ≡ form_sort n → tightness n < right_level o → tightness n ≤ tightness rf → program_sort (form_sort rf) ≡ program_sort (form_sort n)
    → ((rest : List Lexeme) → arrive g (Wants S) (q ++ (r ++ rest)) ≡ arrive g (Wants (Left o a ∷ S)) (r ++ rest))
    → Ends g (Left o a ∷ S) r rf b → Ends g S (q ++ r) n (binary o a b)
both g S q r o n rf a b right_sort sort own_tight right_tight kind runs y =
    let e : Part = Left o a in
    let right_is : as_sort (operand_sort o) y.value ≡ Some b = subst (λ (k : Sort). as_sort k y.value ≡ Some b) right_sort y.tree in
    let joined : join e y.value ≡ Some (Is (result_sort o) (binary o a b) Done) = rw right_is refl in
    record {
      parts = y.parts ++ e ∷ [];
      last = y.last;
      value = Is (result_sort o) (binary o a b) Done;
      runs =
          λ rest.
          ap (arrive g (Wants S)) (append_assoc q r rest) ∙ runs rest ∙ y.runs rest
          ∙ ap (λ (F : List Part). arrive g (Has F y.last) rest) (sym (append_assoc y.parts (e ∷ []) S));
      tight = Tight-append (tightness n) y.parts (e ∷ []) (Tight-less _ _ y.parts right_tight y.tight) (own_tight, tt);
      folds = fold-last y.parts e y.last y.value _ y.folds joined;
      tree = is_tree (result_sort o) (form_sort n) _ Done sort;
      kind = y.kind ∙ kind;
    }

pub go : (g : Sort) (x : State) (k : Lexeme) (rest : List Lexeme) (y : State) → step g x k ≡ Some y → arrive g x (k ∷ rest) ≡ arrive g y rest
go g x k rest y e = ap (λ (o : Option State). o >>= λ m. arrive g m rest) e

-- the token & after an operand of a formula
and_top_joins : (g : Sort) (T : List Part) (p : Piece) (a : Phrase) → fits g Formula T ≡ true → as_sort Formula p ≡ Some a
    → and_top g T p ≡ Some (Wants (Left (By And) a ∷ T))
and_top_joins g (Inside (Evolves n l x) ∷ S) p a f e = absurd cc
and_top_joins g [] p a f e = rw (e, f) refl
and_top_joins g (Left o b ∷ S) p a f e = rw (e, f) refl
and_top_joins g (Before o ∷ S) p a f e = rw (e, f) refl
and_top_joins g (Inside (Round b) ∷ S) p a f e = rw (e, f) refl
and_top_joins g (Inside (InContext x) ∷ S) p a f e = rw e refl
and_top_joins g (Inside Tests ∷ S) p a f e = rw e refl
and_top_joins g (Inside (Domain n l) ∷ S) p a f e = rw e refl
and_top_joins g (Inside (Notes b l) ∷ S) p a f e = rw e refl
and_top_joins g (Inside _ ∷ S) p a f e = absurd cc

and_step : (g : Sort) (S T : List Part) (p : Piece) → after_operand g (By And) S p ≡ Some T → infix_after g And S p ≡ Some (Wants T)
and_step g S T p h =
    let b = bind_some (reduce 4 S p) (λ r. as_sort Formula r.1 >>= λ a. when (fits g Formula r.0) (Some (Left (By And) a ∷ r.0))) T h in
    let c = bind_some (as_sort Formula b.0.1) (λ a. when (fits g Formula b.0.0) (Some (Left (By And) a ∷ b.0.0))) T b.2 in
    let w = when_is (fits g Formula b.0.0) (Some (Left (By And) c.0 ∷ b.0.0)) T c.2 in
    let e : Left (By And) c.0 ∷ b.0.0 ≡ T = some_is _ T w.1 in
    rw (b.1, and_top_joins g b.0.0 b.0.1 c.0 w.0 c.1) (ap (λ (U : List Part). Some (Wants U)) e)

-- the step at an operator's token
infix_step : (g : Sort) (S T : List Part) (p : Piece) (o : Infix) (k : Bool) → is_program p ≡ k → program_sort (operand_sort (By o)) ≡ k
    → after_operand g (By o) S p ≡ Some T → step g (Has S p) (Op o) ≡ Some (Wants T)
infix_step g S T p Choice k e h a = let i : is_program p ≡ true = e ∙ sym h in rw (i, a) refl
infix_step g S T p And k e h a = let i : is_program p ≡ false = e ∙ sym h in rw i (and_step g S T p a)
infix_step g S T p Equiv k e h a = let i : is_program p ≡ false = e ∙ sym h in rw (i, a) refl
infix_step g S T p Imply k e h a = let i : is_program p ≡ false = e ∙ sym h in rw (i, a) refl
infix_step g S T p Or k e h a = let i : is_program p ≡ false = e ∙ sym h in rw (i, a) refl
infix_step g S T p Equal k e h a = let i : is_program p ≡ false = e ∙ sym h in rw (i, a) refl
infix_step g S T p NotEqual k e h a = let i : is_program p ≡ false = e ∙ sym h in rw (i, a) refl
infix_step g S T p AtLeast k e h a = let i : is_program p ≡ false = e ∙ sym h in rw (i, a) refl
infix_step g S T p Greater k e h a = let i : is_program p ≡ false = e ∙ sym h in rw (i, a) refl
infix_step g S T p AtMost k e h a = let i : is_program p ≡ false = e ∙ sym h in rw (i, a) refl
infix_step g S T p Less k e h a = let i : is_program p ≡ false = e ∙ sym h in rw (i, a) refl
infix_step g S T p Add k e h a = let i : is_program p ≡ false = e ∙ sym h in rw (i, a) refl
infix_step g S T p Sub k e h a = let i : is_program p ≡ false = e ∙ sym h in rw (i, a) refl
infix_step g S T p Mul k e h a = let i : is_program p ≡ false = e ∙ sym h in rw (i, a) refl
infix_step g S T p Div k e h a = let i : is_program p ≡ false = e ∙ sym h in rw (i, a) refl
infix_step g S T p Pow k e h a = let i : is_program p ≡ false = e ∙ sym h in rw (i, a) refl

pub binary_ends : (g : Sort) (S : List Part) (s r : List Lexeme) (o : Infix) (n lf rf : Nonterminal) (a b : Phrase) → Fitting (By o) n lf rf
    → Loose (form_level n) S → fits g (form_sort n) S ≡ true
    → Ends g S s lf a → Ends g (Left (By o) a ∷ S) r rf b → Ends g S (s ++ Op o ∷ r) n (Binary o a b)
binary_ends g S s r o n lf rf a b c loose fit x y =
    let m = met g S s (By o) n lf a x c.left_sort c.sort c.left_level c.own_level loose fit in
    let st = infix_step g (x.parts ++ S) (Left (By o) a ∷ S) x.last o (program_sort (form_sort lf)) x.kind (ap program_sort (sym c.left_sort)) m in
    let e = both g S (s ++ Op o ∷ []) r (By o) n rf a b c.right_sort c.sort c.own_tight c.right_tight c.kind
    (λ rest. ap (arrive g (Wants S)) (append_assoc s (Op o ∷ []) (r ++ rest)) ∙ x.runs (Op o ∷ (r ++ rest))
    ∙ go g (Has (x.parts ++ S) x.last) (Op o) (r ++ rest) (Wants (Left (By o) a ∷ S)) st) y in
    subst (λ (l : List Lexeme). Ends g S l n (Binary o a b)) (append_assoc s (Op o ∷ []) r) e

-- a prefix with its operand
pub before : (g : Sort) (S : List Part) (k s : List Lexeme) (o : Prefix) (n : Nonterminal) (a : Phrase) → prefix_sort o ≡ form_sort n →
    tightness n < prefix_level o
    → ((rest : List Lexeme) → arrive g (Wants S) (k ++ rest) ≡ arrive g (Wants (Before o ∷ S)) rest)
    → Ends g (Before o ∷ S) s n a → Ends g S (k ++ s) n (unary o a)
before g S k s o n a e tight runs x =
    let operand_is : as_sort (prefix_sort o) x.value ≡ Some a = subst (λ (k : Sort). as_sort k x.value ≡ Some a) (sym e) x.tree in
    let joined : join (Before o) x.value ≡ Some (Is (prefix_sort o) (unary o a) Done) = rw operand_is refl in
    record {
      parts = x.parts ++ Before o ∷ [];
      last = x.last;
      value = Is (prefix_sort o) (unary o a) Done;
      runs = λ rest. ap (arrive g (Wants S)) (append_assoc k s rest) ∙ runs (s ++ rest) ∙ x.runs rest
          ∙ ap (λ (F : List Part). arrive g (Has F x.last) rest) (sym (append_assoc x.parts (Before o ∷ []) S));
      tight = Tight-append (tightness n) x.parts (Before o ∷ []) x.tight (tight, tt);
      folds = fold-last x.parts (Before o) x.last x.value _ x.folds joined;
      tree = is_tree (prefix_sort o) (form_sort n) _ Done e;
      kind = x.kind;
    }

-- the step at a token that closes a holder
closing_is : (g : Sort) (h : Holder) (S : List Part) (s : List Lexeme) (n : Nonterminal) (t : Phrase) (k : Lexeme) (x : Ends g (Inside h ∷ S) s n t)
    → closing k (x.parts ++ Inside h ∷ S) x.last ≡ close k h S x.value
closing_is g h S s n t k x =
    let reduced : reduce 0 (x.parts ++ Inside h ∷ S) x.last ≡ Some (Inside h ∷ S, x.value) =
    reduce-tight 0 x.parts (Inside h ∷ S) x.last x.value (Tight-less 0 _ x.parts (omega arith) x.tight) x.folds in
    rw reduced refl

settled_same : (s : Sort) (p : Piece) (k : Tail) → as_sort s (with_tail k p) ≡ as_sort s p
settled_same Term (Is Term t l) k = refl
settled_same Term (Is Formula t l) k = refl
settled_same Term (Is Program t l) k = refl
settled_same Term (Symbol h n l) k = refl
settled_same Formula (Is Term t l) k = refl
settled_same Formula (Is Formula t l) k = refl
settled_same Formula (Is Program t l) k = refl
settled_same Formula (Symbol h n l) k = refl
settled_same Program (Is Term t l) k = refl
settled_same Program (Is Formula t l) k = refl
settled_same Program (Is Program t l) k = refl
settled_same Program (Symbol h n l) k = refl

settled_kind : (p : Piece) (k : Tail) → is_program (with_tail k p) ≡ is_program p
settled_kind (Is s t l) k = refl
settled_kind (Symbol h n l) k = refl

pub other_step : (g : Sort) (S : List Part) (p : Piece) (k : Lexeme) → is_program p ≡ false → step g (Has S p) k ≡ after_other g S p k
other_step g S p k e = rw e refl

pub program_step : (g : Sort) (S : List Part) (p : Piece) (k : Lexeme) → is_program p ≡ true → step g (Has S p) k ≡ after_program g S p k
program_step g S p k e = rw e refl

pub closing_raw : (F : List Part) (last value : Piece) (h : Holder) (S : List Part) (k : Lexeme) → Tight 0 F → fold F last ≡ Some value
    → closing k (F ++ Inside h ∷ S) last ≡ close k h S value
closing_raw F last value h S k t f =
    let reduced : reduce 0 (F ++ Inside h ∷ S) last ≡ Some (Inside h ∷ S, value) = reduce-tight 0 F (Inside h ∷ S) last value t f in
    rw reduced refl

call_first : (g : Sort) (S : List Part) (n : ℕ) (x : Word) (k : Lexeme) → is_other k ≡ true
    → call_step g S n x k ≡ start_operand g (Inside (Args n x none) ∷ S) k
call_first g S n x Close e = absurd cc
call_first g S n x _ e = refl

call_run : (g : Sort) (S : List Part) (n : ℕ) (x : Word) (s rest : List Lexeme) → First false s
    → arrive g (Calls S n x) (s ++ rest) ≡ arrive g (Wants (Inside (Args n x none) ∷ S)) (s ++ rest)
call_run g S n x [] rest h = absurd h
call_run g S n x (k ∷ s) rest h = ap (λ (o : Option State). o >>= λ m. arrive g m (s ++ rest)) (call_first g S n x k h)

gets_first : (g : Sort) (S : List Part) (x : Word) (k : Lexeme) → is_other k ≡ true
    → statement_gets_step g S x k ≡ start_operand g (Inside (Assigns x false) ∷ S) k
gets_first g S x (Op Mul) e = absurd cc
gets_first g S x _ e = refl

pub gets_run : (g : Sort) (S : List Part) (x : Word) (s rest : List Lexeme) → First false s
    → arrive g (StartsGets S x) (s ++ rest) ≡ arrive g (Wants (Inside (Assigns x false) ∷ S)) (s ++ rest)
gets_run g S x [] rest h = absurd h
gets_run g S x (k ∷ s) rest h = ap (λ (o : Option State). o >>= λ m. arrive g m (s ++ rest)) (gets_first g S x k h)

statement_at : (g : Sort) (S : List Part) (k : Lexeme) → program_sort (place g S) ≡ true → step g (Wants S) k ≡ start_statement S k
statement_at g S k f = rw f refl

-- the first token of a next statement
next_one : (g : Sort) (S T : List Part) (p : Piece) (k : Lexeme) (rest : List Lexeme) → is_program p ≡ true → after_program g S p k ≡ next_after g S p k
    → after_operand g Next S p ≡ Some T → (program_sort (place g T) ≡ true) → arrive g (Has S p) (k ∷ rest) ≡ arrive g (Wants T) (k ∷ rest)
next_one g S T p k rest i n m w =
    let e : step g (Has S p) k ≡ step g (Wants T) k =
    program_step g S p k i ∙ n ∙ ap (λ (o : Option (List Part)). o >>= λ U. start_statement U k) m ∙ sym (statement_at g T k w) in
    ap (λ (o : Option State). o >>= λ n. arrive g n rest) e

pub next_run : (g : Sort) (S T : List Part) (p : Piece) (a : Phrase) {s : List Lexeme} (rest : List Lexeme) → First true s → is_program p ≡ true
    → after_operand g Next S p ≡ Some (Left Next a ∷ T) → arrive g (Has S p) (s ++ rest) ≡ arrive g (Wants (Left Next a ∷ T)) (s ++ rest)
next_run g S T p a rest (front-query {s = s}) i m = next_one g S (Left Next a ∷ T) p Query (s ++ rest) i refl m refl
next_run g S T p a rest (front-brace {n = n} {s = s}) i m = next_one g S (Left Next a ∷ T) p (OpenBrace n) (s ++ rest) i refl m refl
next_run g S T p a rest (front-const {n = n} {x = x} {s = s}) i m = next_one g S (Left Next a ∷ T) p (Name n x) (Semi ∷ (s ++ rest)) i refl m refl
next_run g S T p a rest (front-assign {n = n} {x = x} {s = s}) i m = next_one g S (Left Next a ∷ T) p (Name n x) (Gets ∷ (s ++ rest)) i refl m refl
next_run g S T p a rest (front-assign_prime {n = n} {x = x} {s = s}) i m =
    next_one g S (Left Next a ∷ T) p (Name n x) (Prime ∷ Gets ∷ (s ++ rest)) i refl m refl

-- a program behind a brace, where a system could stand too
pub opens_run : (g : Sort) (S : List Part) (n : ℕ) {s : List Lexeme} (rest : List Lexeme) → First true s
    → arrive g (Opens S n) (s ++ rest) ≡ arrive g (Wants (Inside InBrace ∷ S)) (s ++ rest)
opens_run g S n rest front-query = refl
opens_run g S n rest front-brace = refl
opens_run g S n rest front-const = refl
opens_run g S n rest front-assign = refl
opens_run g S n rest front-assign_prime = refl

pub round_term : (b : Bool) → allows (round_sort b) Term ≡ true
round_term true = refl
round_term false = refl

-- from a holder's first token to its last
pub held : (g : Sort) (S : List Part) (h : Holder) (s : List Lexeme) (n : Nonterminal) (t : Phrase) (k : Lexeme) (y : State) (x : Ends g (Inside h ∷ S) s n t)
    → step g (Has (x.parts ++ Inside h ∷ S) x.last) k ≡ closing k (x.parts ++ Inside h ∷ S) x.last → close k h S x.value ≡ Some y
    → (rest : List Lexeme) → arrive g (Wants (Inside h ∷ S)) (s ++ (k ∷ rest)) ≡ arrive g y rest
held g S h s n t k y x st c rest =
    x.runs (k ∷ rest)
    ∙ go g (Has (x.parts ++ Inside h ∷ S) x.last) k rest y
    (st ∙ closing_raw x.parts x.last x.value h S k (Tight-less 0 _ x.parts (omega arith) x.tight) x.folds ∙ c)

close_round : (g : Sort) (S : List Part) (b : Bool) (s : List Lexeme) (n : Nonterminal) (t : Phrase) (x : Ends g (Inside (Round b) ∷ S) s n t)
    → program_sort (form_sort n) ≡ false → (rest : List Lexeme)
    → arrive g (Wants (Inside (Round b) ∷ S)) (s ++ (Close ∷ rest)) ≡ arrive g (Has S (with_tail Grouped x.value)) rest
close_round g S b s n t x e rest =
    held g S (Round b) s n t Close (Has S (with_tail Grouped x.value)) x (other_step g (x.parts ++ Inside (Round b) ∷ S) x.last Close (x.kind ∙ e)) refl rest

not_program : (s : Sort) (p : Piece) (t : Phrase) → program_sort s ≡ false → as_sort s p ≡ Some t → is_program p ≡ false
not_program Term (Is Term t l) u e h = refl
not_program Term (Symbol x n l) u e h = refl
not_program Term (Is Formula t l) u e h = absurd cc
not_program Term (Is Program t l) u e h = absurd cc
not_program Formula (Is Formula t l) u e h = refl
not_program Formula (Symbol x n l) u e h = refl
not_program Formula (Is Term t l) u e h = absurd cc
not_program Formula (Is Program t l) u e h = absurd cc
not_program Program p u e h = absurd cc

pub bracket : (g : Sort) (S : List Part) (s : List Lexeme) (n m : Nonterminal) (a : Phrase) → form_sort n ≡ form_sort m → program_sort (form_sort n) ≡ false
    → fits g (form_sort n) S ≡ true → Ends g (Inside (Round (fits g Formula S)) ∷ S) s n a → Ends g S (Open ∷ (s ++ Close ∷ [])) m a
bracket g S s n m a e k f x =
    single g S (Open ∷ (s ++ Close ∷ [])) m a (with_tail Grouped x.value)
    (λ rest.
    go g (Wants S) Open ((s ++ Close ∷ []) ++ rest) _ (operand_wanted g (form_sort n) S Open k f)
    ∙ ap (arrive g (Wants (Inside (Round (fits g Formula S)) ∷ S))) (append_assoc s (Close ∷ []) rest) ∙ close_round g S _ s n a x k rest)
    (settled_same (form_sort m) x.value Grouped ∙ same_sort n m x.value a e x.tree)
    (settled_kind x.value Grouped ∙ not_program (form_sort n) x.value a k x.tree ∙ sym (sym (ap program_sort e) ∙ k))

pub primed_term : (p : Piece) (k : Tail) (t : Phrase) → as_sort Term p ≡ Some t → as_sort Term (primed (with_tail k p)) ≡ Some (Diff t)
primed_term (Is Term t l) k u e = let w : t ≡ u = cc in ap (λ (x : Phrase). Some (Diff x)) w
primed_term (Symbol x n l) k u e = let w : primes n (Apply x) ≡ u = cc in ap (λ (x : Phrase). Some (Diff x)) w
primed_term (Is Formula t l) k u e = absurd cc
primed_term (Is Program t l) k u e = absurd cc

pub primed_formula : (p : Piece) (k : Tail) (t : Phrase) → as_sort Formula p ≡ Some t → as_sort Formula (primed (with_tail k p)) ≡ Some (DiffF t)
primed_formula (Is Formula t l) k u e = let w : t ≡ u = cc in ap (λ (x : Phrase). Some (DiffF x)) w
primed_formula (Symbol x n l) k u e = let w : formula_primes n (Holds x) ≡ u = cc in ap (λ (x : Phrase). Some (DiffF x)) w
primed_formula (Is Term t l) k u e = absurd cc
primed_formula (Is Program t l) k u e = absurd cc

primed_kind : (p : Piece) (k : Tail) → is_program p ≡ false → is_program (primed (with_tail k p)) ≡ false
primed_kind (Is Term t l) k e = refl
primed_kind (Is Formula t l) k e = refl
primed_kind (Is Program t l) k e = e
primed_kind (Symbol x n l) k e = refl

prime_step : (g : Sort) (S : List Part) (p : Piece) → is_program p ≡ false
    → step g (Has S (with_tail Grouped p)) Prime ≡ Some (Has S (primed (with_tail Grouped p)))
prime_step g S (Is s t l) e = rw e refl
prime_step g S (Symbol x n l) e = refl

pub diffed : (g : Sort) (S : List Part) (s : List Lexeme) (n m : Nonterminal) (a b : Phrase) → form_sort n ≡ form_sort m → program_sort (form_sort n) ≡ false
    → fits g (form_sort n) S ≡ true → (x : Ends g (Inside (Round (fits g Formula S)) ∷ S) s n a)
    → as_sort (form_sort m) (primed (with_tail Grouped x.value)) ≡ Some b
    → Ends g S (Open ∷ (s ++ Close ∷ Prime ∷ [])) m b
diffed g S s n m a b e k f x h =
    let np = not_program (form_sort n) x.value a k x.tree in
    single g S (Open ∷ (s ++ Close ∷ Prime ∷ [])) m b (primed (with_tail Grouped x.value))
    (λ rest. go g (Wants S) Open ((s ++ Close ∷ Prime ∷ []) ++ rest) _ (operand_wanted g (form_sort n) S Open k f)
    ∙ ap (arrive g (Wants (Inside (Round (fits g Formula S)) ∷ S))) (append_assoc s (Close ∷ Prime ∷ []) rest)
    ∙ close_round g S _ s n a x k (Prime ∷ rest) ∙ go g (Has S (with_tail Grouped x.value)) Prime rest _ (prime_step g S x.value np))
    h
    (primed_kind x.value Grouped np ∙ sym (sym (ap program_sort e) ∙ k))

-- from a list's first token to behind its last
pub list_held : (g : Sort) (h : Phrases → Holder) (f : Nonterminal) (S : List Part) (s : List Lexeme) (l : Phrases) (k : Lexeme) (y : State)
    (x : EndsList g h f S s l) → ((T : List Part) (p : Piece) → is_program p ≡ false → step g (Has T p) k ≡ closing k T p)
    → close k (h x.front) S x.value ≡ Some y
    → (rest : List Lexeme) → arrive g (Wants (Inside (h none) ∷ S)) (s ++ (k ∷ rest)) ≡ arrive g y rest
list_held g h f S s l k y x st c rest =
    x.runs (k ∷ rest)
    ∙ go g (Has (x.parts ++ Inside (h x.front) ∷ S) x.last) k rest y
    (st (x.parts ++ Inside (h x.front) ∷ S) x.last x.kind ∙ closing_raw x.parts x.last x.value (h x.front) S k x.tight x.folds ∙ c)

-- a call, from what its arguments leave
pub called : (g : Sort) (S : List Part) (m : ℕ) (x : Word) (s : List Lexeme) (l : Phrases) (n : Nonterminal) (t : Phrase) → First false s
    → program_sort (form_sort n) ≡ false → fits g (form_sort n) S ≡ true → as_sort (form_sort n) (Symbol (Call m x l) 0 Done) ≡ Some t
    → EndsList g (Args m x) term S s l → Ends g S (Name m x ∷ Open ∷ (s ++ Close ∷ [])) n t
called g S m x s l n t h k f tree y =
    let closed : close Close (Args m x y.front) S y.value ≡ Some (Has S (Symbol (Call m x l) 0 Done)) =
    rw y.is (ap (λ (z : Phrases). Some (Has S (Symbol (Call m x z) 0 Done))) y.list) in
    single g S (Name m x ∷ Open ∷ (s ++ Close ∷ [])) n t (Symbol (Call m x l) 0 Done)
    (λ rest. go g (Wants S) (Name m x) (Open ∷ ((s ++ Close ∷ []) ++ rest)) (Has S (Is Term (Variable x false) (Bare m x)))
    (operand_wanted g (form_sort n) S (Name m x) k f)
    ∙ ap (arrive g (Calls S m x)) (append_assoc s (Close ∷ []) rest) ∙ call_run g S m x s (Close ∷ rest) h
    ∙ list_held g (Args m x) term S s l Close (Has S (Symbol (Call m x l) 0 Done)) y (λ T p e. other_step g T p Close e) closed rest)
    tree (sym k)

-- a symbol whose tokens are a few
pub symbol : (g : Sort) (S : List Part) (m : ℕ) (x : Word) (s : List Lexeme) (h : Head) (n : Nonterminal) (t : Phrase) → program_sort (form_sort n) ≡ false
    → fits g (form_sort n) S ≡ true → as_sort (form_sort n) (Symbol h 0 Done) ≡ Some t
    → ((rest : List Lexeme) → arrive g (Has S (Is Term (Variable x false) (Bare m x))) (s ++ rest) ≡ arrive g (Has S (Symbol h 0 Done)) rest)
    → Ends g S (Name m x ∷ s) n t
symbol g S m x s h n t k f tree runs =
    single g S (Name m x ∷ s) n t (Symbol h 0 Done)
    (λ rest. go g (Wants S) (Name m x) (s ++ rest) (Has S (Is Term (Variable x false) (Bare m x)))
    (operand_wanted g (form_sort n) S (Name m x) k f) ∙ runs rest)
    tree (sym k)

pub list_first : (g : Sort) (h : Phrases → Holder) (f : Nonterminal) (S : List Part) (s : List Lexeme) (a : Phrase) → program_sort (form_sort f) ≡ false
    → Ends g (Inside (h none) ∷ S) s f a → EndsList g h f S s (snoc none a)
list_first g h f S s a k y = record {
  parts = y.parts;
  last = y.last;
  value = y.value;
  front = none;
  tree = a;
  runs = y.runs;
  tight = Tight-less 0 _ y.parts (omega arith) y.tight;
  folds = y.folds;
  is = y.tree;
  list = refl;
  kind = y.kind ∙ k;
}

pub list_next : (g : Sort) (h : Phrases → Holder) (f : Nonterminal) (S : List Part) (s r : List Lexeme) (l : Phrases) (a : Phrase) → Lists g h f S
    → EndsList g h f S s l → Ends g (Inside (h l) ∷ S) r f a → EndsList g h f S (s ++ Comma ∷ r) (snoc l a)
list_next g h f S s r l a c y z =
    let closed : close Comma (h y.front) S y.value ≡ Some (Wants (Inside (h l) ∷ S)) =
    c.comma y.front y.value ∙ rw y.is (ap (λ (m : Phrases). Some (Wants (Inside (h m) ∷ S))) y.list) in
    record {
      parts = z.parts;
      last = z.last;
      value = z.value;
      front = l;
      tree = a;
      runs =
          λ rest.
          ap (arrive g (Wants (Inside (h none) ∷ S))) (append_assoc s (Comma ∷ r) rest)
          ∙ list_held g h f S s l Comma (Wants (Inside (h l) ∷ S)) y (λ T p e. other_step g T p Comma e) closed (r ++ rest) ∙ z.runs rest;
      tight = Tight-less 0 _ z.parts (omega arith) z.tight;
      folds = z.folds;
      is = z.tree;
      list = refl;
      kind = z.kind ∙ c.operand;
    }

pub args_lists : (g : Sort) (m : ℕ) (x : Word) (S : List Part) → Lists g (Args m x) term S
args_lists g m x S = record { operand = refl; fit = λ l. refl; comma = λ l p. refl }

pub notes_lists : (g : Sort) (b : Phrase) (S : List Part) → Lists g (Notes b) formula S
notes_lists g b S = record { operand = refl; fit = λ l. refl; comma = λ l p. refl }

-- a statement that a holder's last token ends
pub statement : (g : Sort) (S : List Part) (q s : List Lexeme) (h : Holder) (n : Nonterminal) (a t : Phrase) → fits g Program S ≡ true
    → ((rest : List Lexeme) → arrive g (Wants S) (q ++ (s ++ rest)) ≡ arrive g (Wants (Inside h ∷ S)) (s ++ rest)) → (x : Ends g (Inside h ∷ S) s n a)
    → ((rest : List Lexeme) → arrive g (Wants (Inside h ∷ S)) (s ++ (Semi ∷ rest)) ≡ arrive g (Has S (Is Program t Done)) rest)
    → Ends g S (q ++ (s ++ Semi ∷ [])) stmt t
statement g S q s h n a t f begins x ends =
    single g S (q ++ (s ++ Semi ∷ [])) stmt t (Is Program t Done)
    (λ rest. ap (arrive g (Wants S)) (append_assoc q (s ++ Semi ∷ []) rest ∙ ap (λ (z : List Lexeme). q ++ z) (append_assoc s (Semi ∷ []) rest))
    ∙ begins (Semi ∷ rest) ∙ ends rest)
    refl refl

-- a box or a diamond
pub modal : (g : Sort) (S : List Part) (m : Modality) (o c : Lexeme) (s r : List Lexeme) (p a : Phrase) → step g (Wants S) o ≡ Some (Wants (Inside (In m) ∷ S))
    → ((T : List Part) (q : Piece) → is_program q ≡ true → step g (Has T q) c ≡ closing c T q)
    → ((q : Piece) → close c (In m) S q ≡ (as_sort Program q >>= λ t. Some (Wants (Before (Modal m t) ∷ S))))
    → Ends g (Inside (In m) ∷ S) s prog p → Ends g (Before (Modal m p) ∷ S) r unf a → Ends g S (o ∷ (s ++ c ∷ r)) unf (unary (Modal m p) a)
modal g S m o c s r p a begins st shut x y =
    let z = before g S (o ∷ (s ++ c ∷ [])) r (Modal m p) unf a refl (omega arith)
    (λ rest. go g (Wants S) o ((s ++ c ∷ []) ++ rest) (Wants (Inside (In m) ∷ S)) begins
    ∙ ap (arrive g (Wants (Inside (In m) ∷ S))) (append_assoc s (c ∷ []) rest)
    ∙ held g S (In m) s prog p c (Wants (Before (Modal m p) ∷ S)) x (st (x.parts ++ Inside (In m) ∷ S) x.last x.kind) (shut x.value ∙ rw x.tree refl) rest) y in
    subst (λ (l : List Lexeme). Ends g S (o ∷ l) unf (unary (Modal m p) a)) (append_assoc s (c ∷ []) r) z

-- a predicational
pub context : (g : Sort) (S : List Part) (n m : ℕ) (x : Word) (s : List Lexeme) (a : Phrase) → fits g Formula S ≡ true
    → Ends g (Inside (InContext x) ∷ S) s formula a → Ends g S (Name n x ∷ OpenBrace m ∷ (s ++ CloseBrace ∷ [])) atom (Context x a)
context g S n m x s a f y =
    let opened : step g (Has S (Is Term (Variable x false) (Bare n x))) (OpenBrace m) ≡ Some (Wants (Inside (InContext x) ∷ S)) = rw f refl in
    single g S (Name n x ∷ OpenBrace m ∷ (s ++ CloseBrace ∷ [])) atom (Context x a) (Is Formula (Context x a) Done)
    (λ rest. go g (Wants S) (Name n x) (OpenBrace m ∷ ((s ++ CloseBrace ∷ []) ++ rest)) (Has S (Is Term (Variable x false) (Bare n x)))
    (operand_wanted g Formula S (Name n x) refl f)
    ∙ go g (Has S (Is Term (Variable x false) (Bare n x))) (OpenBrace m) ((s ++ CloseBrace ∷ []) ++ rest) (Wants (Inside (InContext x) ∷ S)) opened
    ∙ ap (arrive g (Wants (Inside (InContext x) ∷ S))) (append_assoc s (CloseBrace ∷ []) rest)
    ∙ held g S (InContext x) s formula a CloseBrace (Has S (Is Formula (Context x a) Done)) y
    (other_step g (y.parts ++ Inside (InContext x) ∷ S) y.last CloseBrace y.kind) (rw y.tree refl) rest)
    refl refl
