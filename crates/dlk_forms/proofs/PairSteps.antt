-- What lexemes make of the pairs of a substitution.
use Rattle.std.proofs.Common.{◌≡◌, true, false, List, [], ◌∷◌, ◌++◌, Option, Some, None, Result, Ok, Err, refl, sym, ap, subst, ◌∙◌}
use Rattle.dlk_tree.specs.declared.op.Sym.{Sym}
use Rattle.dlk_tree.specs.declared.op.Sort.{Sort}
use Rattle.dlk_tree.specs.declared.op.Sort.TheVariants.{Term, Formula, Program}
use Rattle.dlk_grammar.specs.declared.token.Infix.TheVariants.{And}
use Rattle.dlk_grammar.specs.Lexemes.{Lexeme, Comma, Op}
use Rattle.dlk_grammar.specs.Phrases.{Phrase}
use Rattle.dlk_grammar.specs.Substitutions.{Target, function, predicate, PairPhrase, to}
use Rattle.dlk_machine.specs.Machine.{◌>>=◌, Part, Braced, Piece, Is, Symbol, reduce, whole, State, Has}
use Rattle.dlk_machine.specs.Machine.{step, ended}
use Rattle.dlk_machine.specs.Parse.{or_else}
use Rattle.dlk_machine.specs.Pairs.{Right, EitherOf, TextOf, SystemOf, PairState, Begins, InRight, InSystem, system_state, PairsState, Within}
use Rattle.dlk_machine.specs.Pairs.{pair_step, pair_ended, pairs_step, right_sort, right_ended, within}
use Rattle.dlk_reader.specs.Shows.{seen, last_of, Shows, Agrees}
use Rattle.dlk_reader.specs.Outcomes.{leaving}
use Rattle.dlk_reader.specs.Ends.{at_comma}
use Rattle.dlk_forms.specs.PairReaders.{wants, left_state, IsLeft, right_whole, with_pair, KeepsPairs, Rests, is_and, is_system, ShowsPair, ShowsWithin}
use Rattle.dlk_forms.specs.PairReaders.{ShowsPairsAt, ShowsPairs}
use Rattle.dlk_reader.specs.declared.lexeme.Lexeme.{Lexeme as SeenLexeme}
use Rattle.dlk_reader.specs.declared.lexeme.Lexeme.TheVariants as lexeme
use Rattle.dlk_forms.specs.declared.pair_heads.LeftMode.{LeftMode}
use Rattle.dlk_forms.specs.declared.pair_heads.LeftMode.TheVariants as left
use Rattle.dlk_forms.specs.declared.pair_heads.Right.{Right as RightPart}
use Rattle.dlk_forms.specs.declared.pairs.PairMode.{PairMode}
use Rattle.dlk_forms.specs.declared.pairs.PairMode.TheVariants as pair
use Rattle.dlk_forms.specs.declared.pairs.PairsSoFar.{PairsSoFar}
use Rattle.dlk_forms.specs.declared.pairs.PairsReader.{PairsReader}
use Rattle.dlk_reader.specs.declared.parts.Last.{Last}
use Rattle.dlk_reader.specs.declared.parts.Mode.{Mode}
use Rattle.dlk_reader.specs.declared.parts.Mode.TheVariants as mode
use Rattle.dlk_reader.specs.declared.stack.Stack.{Stack}
use Rattle.dlk_reader.specs.declared.stop.LexemeFault.{LexemeFault}
use Rattle.dlk_reader.specs.declared.stop.LexemeFault.TheVariants.{Memory, Syntax}
use Rattle.dlk_reader.proofs.Commas.{ended_by, ended_with, behind, comma_behind}

-- the pairs do not lie on the stack
pub keeps_pairs : (r : PairsSoFar) (k : Stack) (l : List PairPhrase) → KeepsPairs r l → KeepsPairs (record r { stack = k }) l
keeps_pairs r k l h = record { symbols = h.symbols; done = h.done }

-- a system has no domain
pub system_domain : (s : Sym) (x : State) (k : Lexeme) → is_and k ≡ true → pair_step (InSystem s x) k ≡ None
system_domain s x (Op And) e = refl
system_domain s x _ e = absurd cc

pub system_other : (s : Sym) (x : State) (k : Lexeme) → is_and k ≡ false → pair_step (InSystem s x) k ≡ (step Program x k >>= λ y. Some (system_state s y))
system_other s x (Op And) e = absurd cc
system_other s x _ e = refl

-- what is whole behind a brace, and nothing is open
pub system_whole : (x : State) → is_system x ≡ true → (t : Phrase) × (x ≡ Has [] (Is Program t Braced))
system_whole (Has [] (Is Program t Braced)) e = (t, refl)
system_whole _ e = absurd cc

pub system_goes_on : (s : Sym) (x : State) → is_system x ≡ false → system_state s x ≡ InSystem s x
system_goes_on s (Has [] (Is Program t Braced)) e = absurd cc
system_goes_on s _ e = refl

-- a whole system, and one that goes on
pub system_ends : (r : PairsSoFar) (l : List PairPhrase) (s : Sym) (m : Mode) (x : State) → is_system x ≡ true → KeepsPairs r l → Shows r.stack m x
    → ShowsPair r l (pair.SystemEnds s) (system_state s x)
system_ends r l s m x e p h =
    let w = system_whole x e in
    let k = subst (λ (y : State). Shows r.stack m y) w.1 h in
    rw w.1 (record { system = w.0; state = refl; pairs = p; whole = record { parts = k.lists.parts; out = k.lists.out } })

pub in_system : (r : PairsSoFar) (l : List PairPhrase) (s : Sym) (m : Mode) (x : State) → is_system x ≡ false → KeepsPairs r l → Shows r.stack m x
    → ShowsPair r l (pair.InSystem s m) (system_state s x)
in_system r l s m x e p h = rw (system_goes_on s x e) (record { inner = x; state = refl; pairs = p; shows = h })

pub agrees_same : {X Y V : Type 0} (s : X → Y → Type 0) (r : X → V → Type 0) (o : Result X LexemeFault) (u : Option Y) (g : Y → V)
    → ((x : X) (y : Y) → s x y → r x (g y)) → Agrees s o u → Agrees r o (u >>= λ y. Some (g y))
agrees_same s r (Ok x) (Some y) g f a = f x y a
agrees_same s r (Ok x) None g f a = a
agrees_same s r (Err Memory) u g f a = tt
agrees_same s r (Err Syntax) (Some y) g f a = absurd a
agrees_same s r (Err Syntax) None g f a = a

-- the end of a right side
right_by : (w : Right) (T : List Part) (q : Piece) → right_whole w T q ≡ ended_by (right_whole w []) T q
right_by w [] q = refl
right_by (EitherOf h) (e ∷ T) q = refl
right_by (TextOf g s) (e ∷ T) q = refl
right_by (SystemOf s) (e ∷ T) q = refl

either_is : (h : Target) (T : List Part) (q : Piece) → or_else {B = Option PairPhrase} (whole Formula T q)
    (whole Term T q >>= λ t. Some (to (function h) t)) (λ t. Some (to (predicate h) t)) ≡ right_whole (EitherOf h) T q
either_is h [] (Is Term t k) = refl
either_is h [] (Is Formula t k) = refl
either_is h [] (Is Program t k) = refl
either_is h [] (Symbol d n k) = refl
either_is h (e ∷ T) q = refl

pub right_reduced : (w : Right) (S : List Part) (p : Piece) (o : Option (List Part × Piece)) → reduce 0 S p ≡ o
    → right_ended w (Has S p) ≡ (o >>= λ r. right_whole w r.0 r.1)
right_reduced (EitherOf h) S p (Some r) e = rw e (either_is h r.0 r.1)
right_reduced (EitherOf h) S p None e = rw e refl
right_reduced (TextOf g s) S p (Some r) e = rw e refl
right_reduced (TextOf g s) S p None e = rw e refl
right_reduced (SystemOf s) S p (Some r) e = refl
right_reduced (SystemOf s) S p None e = refl

right_not : (w : Right) (x : State) → ((g : Sort) → ended g x ≡ None) → right_ended w x ≡ None
right_not (EitherOf h) x e = rw (e Formula, e Term) refl
right_not (TextOf g s) x e = rw (e g) refl
right_not (SystemOf s) x e = refl

pub right_ended_with : (w : Right) (x : State) → right_ended w x ≡ ended_with (right_whole w []) x
right_ended_with w (Has S p) = right_reduced w S p (reduce 0 S p) refl ∙ through (reduce 0 S p)
  where
    through : (o : Option (List Part × Piece)) → (o >>= λ r. right_whole w r.0 r.1) ≡ (o >>= λ r. ended_by (right_whole w []) r.0 r.1)
    through (Some r) = right_by w r.0 r.1
    through None = refl
right_ended_with w x = right_not w x (λ g. refl)

-- a right side of which nothing is whole
pub right_unended : (w : Right) (k : Stack) (m : Mode) (x : State) → ((last : Last) → m ≡ mode.Has last → ⊥) → Shows k m x → right_ended w x ≡ None
right_unended w k m x never h = right_ended_with w x ∙ unended x h
  where
    unended : (x : State) → Shows k m x → ended_with (right_whole w []) x ≡ None
    unended (Has S p) h = absurd (never (last_of p) h.mode)
    unended _ h = refl

-- a right side, which ends at a comma or goes on
module _ (l : List PairPhrase) (w : Right) where
  abbrev pub next_pair : PairPhrase → Option PairsState
  next_pair q = Some (Within (l ++ q ∷ []) Begins)

  abbrev pub in_pair : State → Option PairsState
  in_pair y = Some (Within l (InRight w y))

  within_right : (o : Option State) → ((o >>= λ z. Some (InRight w z)) >>= λ y. Some (Within l y)) ≡ (o >>= in_pair)
  within_right (Some y) = refl
  within_right None = refl

  pub right_at_comma : (x : State) → pairs_step (Within l (InRight w x)) Comma ≡ (at_comma (right_sort w) x >>= behind (right_whole w []) next_pair in_pair)
  right_at_comma x =
      ap (λ (o : Option PairPhrase). or_else o (within l (InRight w x) Comma) next_pair) (right_ended_with w x) ∙
      ap (λ (u : Option PairsState). or_else (ended_with (right_whole w []) x) u next_pair) (within_right (step (right_sort w) x Comma)) ∙
      comma_behind (right_sort w) (right_whole w []) next_pair in_pair x

-- the end of a pair that isn't whole
left_unended : (m : LeftMode) → pair_ended (left_state m) ≡ None
left_unended left.Begins = refl
left_unended (left.LeftName x) = refl
left_unended (left.TermName x) = refl
left_unended (left.Calls e x) = refl
left_unended (left.DotsOf e x n) = refl
left_unended (left.DotWanted e x n) = refl
left_unended (left.Bars e x) = refl
left_unended (left.BarsName e x y) = refl
left_unended (left.InContext x) = refl
left_unended (left.ContextHole x) = refl
left_unended left.FlowOpens = refl
left_unended (left.FlowName x) = refl
left_unended (left.FlowBar x) = refl
left_unended (left.FlowBarName x y) = refl
left_unended (left.FlowExcept x y) = refl

pub pair_unended : (r : PairsSoFar) (l : List PairPhrase) (m : PairMode) (x : PairState) → ((w : RightPart) (k : Mode) → m ≡ pair.InRight w k → ⊥)
    → ((s : Sym) → m ≡ pair.SystemEnds s → ⊥) → ShowsPair r l m x → pair_ended x ≡ None
pair_unended r l (pair.Left m) x a b h = ap pair_ended h.state ∙ left_unended m
pair_unended r l (pair.LeftEnds w) x a b h = ap pair_ended h.state
pair_unended r l (pair.InRight w k) x a b h = absurd (a w k refl)
pair_unended r l (pair.BraceWanted s) x a b h = ap pair_ended h.state
pair_unended r l (pair.InSystem s m) x a b h = ap pair_ended h.state
pair_unended r l (pair.SystemEnds s) x a b h = absurd (b s refl)

-- a left side
pub left_shown : (r : PairsSoFar) (l : List PairPhrase) → Rests r l → (m : PairMode) (x : PairState) → IsLeft m x → ShowsPair r l m x
left_shown r l h (pair.Left m) x e = record { state = e; rests = h }
left_shown r l h (pair.LeftEnds w) x e = record { state = e; rests = h }
left_shown r l h (pair.InRight w k) x e = absurd e
left_shown r l h (pair.BraceWanted s) x e = absurd e
left_shown r l h (pair.InSystem s m) x e = absurd e
left_shown r l h (pair.SystemEnds s) x e = absurd e

pub left_agrees : (r : PairsSoFar) (l : List PairPhrase) → Rests r l → (o : Result PairMode LexemeFault) (u : Option PairState) → Agrees IsLeft o u
    → Agrees (ShowsPair r l) o u
left_agrees r l h (Ok m) (Some x) a = left_shown r l h m x a
left_agrees r l h (Ok m) None a = a
left_agrees r l h (Err Memory) u a = tt
left_agrees r l h (Err Syntax) (Some x) a = absurd a
left_agrees r l h (Err Syntax) None a = a

-- what is read of the next pair
pub within_shown : (r : PairsSoFar) (l : List PairPhrase) (o : Result PairMode LexemeFault) (u : Option PairState) → Agrees (ShowsPair r l) o u
    → Agrees (ShowsWithin r) o (u >>= λ y. Some (Within l y))
within_shown r l o u a = agrees_same (ShowsPair r l) (ShowsWithin r) o u (Within l) (λ m x h. record { pairs = l; pair = x; state = refl; shows = h }) a

pub within_other : (l : List PairPhrase) (x : PairState) (k : SeenLexeme) → (k ≡ lexeme.Comma → ⊥)
    → pairs_step (Within l x) (seen k) ≡ (pair_step x (seen k) >>= λ y. Some (Within l y))
within_other l x lexeme.Comma a = absurd (a refl)
within_other l x _ a = refl

pub pair_end : (l : List PairPhrase) (w : Right) (o : Option PairPhrase) → (o >>= next_pair l w) ≡ (with_pair l o >>= λ m. Some (Within m Begins))
pair_end l w (Some q) = refl
pair_end l w None = refl

pub next_begins : (r : PairsSoFar) (l : List PairPhrase) → Rests r l → ShowsWithin r (pair.Left left.Begins) (Within l Begins)
next_begins r l h = record { pairs = l; pair = Begins; state = refl; shows = record { state = refl; rests = h } }

pub right_goes_on : (r : PairsSoFar) (l : List PairPhrase) (w : RightPart) (m : Mode) (x : State) → KeepsPairs r l → Shows r.stack m x
    → ShowsWithin r (pair.InRight w m) (Within l (InRight (wants w) x))
right_goes_on r l w m x k h = record { pairs = l; pair = InRight (wants w) x; state = refl; shows = record { inner = x; state = refl; pairs = k; shows = h } }

-- the same of what a call leaves, where another reader holds it
agrees_leaving : {R V Y W : Type 0} (s : R → Y → Type 0) (t : V → W → Type 0) (r : R) (v : V) (done : Result (Unit {0}) LexemeFault) (u : Option Y)
    (g : Y → W) → ((y : Y) → s r y → t v (g y)) → Agrees s (leaving r done) u → Agrees t (leaving v done) (u >>= λ y. Some (g y))
agrees_leaving s t r v (Ok d) (Some y) g f a = f y a
agrees_leaving s t r v (Ok d) None g f a = a
agrees_leaving s t r v (Err Memory) u g f a = tt
agrees_leaving s t r v (Err Syntax) (Some y) g f a = absurd a
agrees_leaving s t r v (Err Syntax) None g f a = a

-- In a right side only the stack and where its reader stands change.
module _ (r : PairsSoFar) (k : Stack) (w : RightPart) (m next : Mode) (c : SeenLexeme) (done : Result (Unit {0}) LexemeFault) where
  abbrev changed : PairsReader
  changed = record { pairs = record r { stack = k }; mode = Some (pair.InRight w next) }

  right_changed : (x : PairsState) → (c ≡ lexeme.Comma → ⊥)
      → ((y : State) → Shows r.stack m y → Agrees (Shows k) (leaving next done) (step (right_sort (wants w)) y (seen c)))
      → ShowsWithin r (pair.InRight w m) x → Agrees ShowsPairs (leaving changed done) (pairs_step x (seen c))
  right_changed x other steps h =
      let i = h.shows in
      let is = ap (λ (y : PairsState). pairs_step y (seen c)) (h.state ∙ ap (Within h.pairs) i.state)
      ∙ within_other h.pairs (InRight (wants w) i.inner) c other
      ∙ within_right h.pairs (wants w) (step (right_sort (wants w)) i.inner (seen c)) in
      subst (λ (o : Option PairsState). Agrees ShowsPairs (leaving changed done) o) (sym is)
      (agrees_leaving (Shows k) ShowsPairs next changed done (step (right_sort (wants w)) i.inner (seen c)) (λ y. Within h.pairs (InRight (wants w) y))
      (λ y s. right_goes_on (record r { stack = k }) h.pairs w next y (keeps_pairs r k h.pairs i.pairs) s) (steps i.inner i.shows))

  pub right_changed_at : (old : Option PairMode) (x : PairsState) → old ≡ Some (pair.InRight w m) → (c ≡ lexeme.Comma → ⊥)
      → ((y : State) → Shows r.stack m y → Agrees (Shows k) (leaving next done) (step (right_sort (wants w)) y (seen c)))
      → ShowsPairsAt r old x → Agrees ShowsPairs (leaving changed done) (pairs_step x (seen c))
  right_changed_at old x e other steps h = right_changed x other steps (subst (λ (o : Option PairMode). ShowsPairsAt r o x) e h)
