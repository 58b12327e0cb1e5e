-- What is read is in the grammar.
use Rattle.std.proofs.Common.{◌≡◌, ℕ, suc, ◌≤◌, ◌⊎◌, inl, inr, true, false, List, [], ◌∷◌, ◌++◌, Some, refl, sym, ap, subst, ◌∙◌, append_assoc, arith}
use Rattle.std.proofs.lemmas.List.{append-nil}
use Rattle.dlk_grammar.specs.declared.token.Infix.{Infix}
use Rattle.dlk_grammar.specs.declared.token.Infix.TheVariants.{And, Equal, Greater, Mul, Choice}
use Rattle.dlk_grammar.specs.Lexemes.{Word, Lexeme, Name, Invariant, RoundBars, RoundBar, BarRound, BraceBar, BarBrace, Open, Close, CloseBox}
use Rattle.dlk_grammar.specs.Lexemes.{OpenBrace, CloseBrace, Prime, Gets, Query, Semi, Comma, Op}
use Rattle.dlk_grammar.specs.Phrases.{Everywhere, Except, Phrase, Variable, Apply, Diff, Holds, DiffF, Const, AssignAny, Loop, none, Call, Any, Flow}
use Rattle.dlk_grammar.specs.Phrases.{Items, no_items, add}
use Rattle.dlk_grammar.specs.Grammar.{formula, unf, atom, term, prim, stmt, Reads, atom-nullary, atom-any, atom-except, atom-diff, prim-primed}
use Rattle.dlk_grammar.specs.Grammar.{prim-nullary, prim-any, prim-except, prim-diff, stmt-const, stmt-any, item-flow, item-except, star-loop}
use Rattle.dlk_tree.specs.declared.op.Sort.{Sort}
use Rattle.dlk_tree.specs.declared.op.Sort.TheVariants.{Term, Formula, Program}
use Rattle.dlk_machine.specs.Levels.{top}
use Rattle.dlk_machine.specs.Machine.{◌>>=◌, when, By, Next, Quantifier, ForAll, ForSome, Bound, Args, InContext, InBrace, Assigns, Evolves, Notes}
use Rattle.dlk_machine.specs.Machine.{Part, Left, Before, Inside, Tail, Done, Bare, Grouped, Braced, Starred, Annotated, Piece, Is, Symbol, State}
use Rattle.dlk_machine.specs.Machine.{Wants, Has, Calls, Bars, BarsName, Binds, Starts, StartsPrime, StartsGets, StartsStar, Opens, OpensName}
use Rattle.dlk_machine.specs.Machine.{OpensPrime, WantsItem, ItemName, ItemPrime, ItemBar, ItemBarName, ItemEnds, Invariants, primes, formula_primes}
use Rattle.dlk_machine.specs.Machine.{as_sort, tail_of, program_sort, is_program, reduce, fits, start_operand, start_statement, after_operand}
use Rattle.dlk_machine.specs.Machine.{items_step, and_top, infix_after, name_after, primed, prime_after, star_after, invariant_after, semi_after}
use Rattle.dlk_machine.specs.Machine.{next_after, after_program, after_other, call_step, bars_step, bars_name_step, bind_step, statement_step}
use Rattle.dlk_machine.specs.Machine.{statement_prime_step, statement_gets_step, statement_star_step, item_name_step, item_prime_step, items_begin}
use Rattle.dlk_machine.specs.Machine.{item_bar_step, item_bar_name_step, opens_step, opens_name_step, opens_prime_step, invariants_step, step, whole}
use Rattle.dlk_machine.specs.Machine.{ended}
use Rattle.dlk_machine.proofs.Opening.{bind_some, when_is}
use Rattle.dlk_machine.proofs.Climb.{need}
use Rattle.dlk_machine.proofs.Only.{top_sort}
use Rattle.dlk_machine.proofs.Spelled.{PrefixText, ItemsBefore, items_joined, Noting, note_brace, end_note, end_stmt, end_semi, Spells, Known}
use Rattle.dlk_machine.proofs.Spelled.{tree_of, Good, Reduced, chosen, some_eq, loose_formula, Tailed, HasRead, Midway, quantifier_token, After}
use Rattle.dlk_machine.proofs.Spelled.{forall-text, exists-text, list-begins, items-begin, noting, args-text, context-text, brace-text, assigns-text}
use Rattle.dlk_machine.proofs.Spelled.{assigns_prime-text, evolves-text, notes-text, nothing, left, before, inside}
use Rattle.dlk_machine.proofs.Closing.{moved, as_text, known_from, from_prim, from_stmt, from_symbol, not_program, operand_moves, statement_moves}
use Rattle.dlk_machine.proofs.Closing.{wants_moves, reduced_all, operator_spells, open_inside, piece_kind, midway_text, midway_spells, midway_more}
use Rattle.dlk_machine.proofs.Closing.{midway_same, items_moves, close_moves, closing_moves}

operator_moves : (g : Sort) (o : Infix) (S : List Part) (p : Piece) (y : State) (all : List Lexeme) → HasRead g S p all
    → (after_operand g (By o) S p >>= λ T. Some (Wants T)) ≡ Some y → After g y (all ++ Op o ∷ [])
operator_moves g o S p y all h e =
    let b = bind_some (after_operand g (By o) S p) (λ T. Some (Wants T)) y e in
    moved g (Wants b.0) y _ b.2 (operator_spells g (By o) S p all b.0 h b.1)

-- the token & between formulas
and_joins : (g : Sort) (T : List Part) (q : Piece) (y : State) (all : List Lexeme) → Reduced g 4 T q all
    → (as_sort Formula q >>= λ a. when (fits g Formula T) (Some (Wants (Left (By And) a ∷ T)))) ≡ Some y → After g y (all ++ Op And ∷ [])
and_joins g T q y all r e =
    let c = bind_some (as_sort Formula q) (λ a. when (fits g Formula T) (Some (Wants (Left (By And) a ∷ T)))) y e in
    let w = when_is (fits g Formula T) (Some (Wants (Left (By And) c.0 ∷ T))) y c.2 in
    let operand = r.known unf c.0 (r.left (By And) refl) c.1 in
    let at : all ++ Op And ∷ [] ≡ r.front ++ (r.back ++ Op And ∷ []) =
    ap (λ (l : List Lexeme). l ++ Op And ∷ []) r.parts ∙ append_assoc r.front r.back (Op And ∷ []) in
    moved g (Wants (Left (By And) c.0 ∷ T)) y _ w.1
    (subst (λ (l : List Lexeme). Spells g (Left (By And) c.0 ∷ T) l) (sym at) (left r.spells operand r.loose w.0))

and_top_moves : (g : Sort) (T : List Part) (q : Piece) (y : State) (all : List Lexeme) → Reduced g 4 T q all → and_top g T q ≡ Some y
    → After g y (all ++ Op And ∷ [])
and_top_moves g (Inside (Evolves n l x) ∷ S) q y all r e =
    let o = open_inside r.spells in
    close_moves g (Op And) (Evolves n l x) S q y all o.0 o.1 r.back r.front r.height o.2 o.3 o.4 r.parts r.known r.some r.good e
and_top_moves g T q y all r e = and_joins g T q y all r e

infix_moves : (g : Sort) (o : Infix) (S : List Part) (p : Piece) (y : State) (all : List Lexeme) → HasRead g S p all → infix_after g o S p ≡ Some y
    → After g y (all ++ Op o ∷ [])
infix_moves g And S p y all h e =
    let b = bind_some (reduce 4 S p) (λ r. and_top g r.0 r.1) y e in
    and_top_moves g b.0.0 b.0.1 y all (reduced_all g 4 S p all b.0.0 b.0.1 h b.1) b.2
infix_moves g o S p y all h e = operator_moves g o S p y all h e

next_fits : (g : Sort) (S : List Part) (p : Piece) (T : List Part) → after_operand g Next S p ≡ Some T → fits g Program T ≡ true
next_fits g S p T e =
    let b = bind_some (reduce 2 S p) (λ r. as_sort Program r.1 >>= λ a. when (fits g Program r.0) (Some (Left Next a ∷ r.0))) T e in
    let c = bind_some (as_sort Program b.0.1) (λ a. when (fits g Program b.0.0) (Some (Left Next a ∷ b.0.0))) T b.2 in
    let w = when_is (fits g Program b.0.0) (Some (Left Next c.0 ∷ b.0.0)) T c.2 in
    subst (λ (U : List Part). fits g Program U ≡ true) (some_eq (Left Next c.0 ∷ b.0.0) T w.1) refl

next_moves : (g : Sort) (k : Lexeme) (S : List Part) (p : Piece) (y : State) (all : List Lexeme) → HasRead g S p all → next_after g S p k ≡ Some y
    → After g y (all ++ k ∷ [])
next_moves g k S p y all h e =
    let b = bind_some (after_operand g Next S p) (λ T. start_statement T k) y e in
    let sp : Spells g b.0 all = subst (λ (l : List Lexeme). Spells g b.0 l) (append-nil all) (operator_spells g Next S p all b.0 h b.1) in
    statement_moves g b.0 k y all (next_fits g S p b.0 b.1) sp b.2

-- more tokens of the piece
grows : (g : Sort) (S : List Part) (p q : Piece) (all r : List Lexeme) (c : Lexeme) (h : HasRead g S p all) → h.back ≡ r → Known 11 q (r ++ c ∷ [])
    → Tailed (tail_of q) q (r ++ c ∷ []) → Good g S q → HasRead g S q (all ++ c ∷ [])
grows g S p q all r c h e k t o =
    let at : all ++ c ∷ [] ≡ h.front ++ (r ++ c ∷ []) =
    ap (λ (l : List Lexeme). l ++ c ∷ []) (h.parts ∙ ap (λ (l : List Lexeme). h.front ++ l) e) ∙ append_assoc h.front r (c ∷ []) in
    subst (λ (l : List Lexeme). HasRead g S q l) (sym at) (as_text g S h.front (r ++ c ∷ []) q h.spells k t o)

program_fits : (g : Sort) (S : List Part) (r : Sort) → program_sort r ≡ true → fits g r S ≡ true → fits g Program S ≡ true
program_fits g S Program e f = f
program_fits g S Term e f = absurd cc
program_fits g S Formula e f = absurd cc

good_program : (g : Sort) (S : List Part) (p : Piece) → is_program p ≡ true → Good g S p → fits g Program S ≡ true
good_program g S p i o = program_fits g S o.0 (sym (piece_kind o.0 p o.1 o.2) ∙ i) o.3

good_term : (g : Sort) (S : List Part) (p : Piece) (t : Phrase) (l : Tail) → p ≡ Is Term t l → Good g S p → fits g Term S ≡ true
good_term g S p t l e o =
    let w = tree_of Term o.0 t o.1 l (subst (λ (q : Piece). as_sort o.0 q ≡ Some o.1) e o.2) in
    subst (λ (r : Sort). fits g r S ≡ true) (sym w.0) o.3

-- a token behind a brace
group_grows : (g : Sort) (S : List Part) (p : Piece) (all : List Lexeme) (h : HasRead g S p all) (c : Lexeme) (t : Phrase) (l : Tail) → is_program p ≡ true
    → Reads stmt (h.back ++ c ∷ []) t → Tailed l (Is Program t l) (h.back ++ c ∷ []) → HasRead g S (Is Program t l) (all ++ c ∷ [])
group_grows g S p all h c t l i d tail =
    grows g S p (Is Program t l) all h.back c h refl (from_stmt t l _ d) tail (Program, t, refl, good_program g S p i h.good)

star_moves : (g : Sort) (S : List Part) (p : Piece) (y : State) (all : List Lexeme) → HasRead g S p all → star_after S p ≡ Some y
    → After g y (all ++ Op Mul ∷ [])
star_moves g S (Is s t Braced) y all h e =
    let w = h.tail in
    let n : Noting (h.back ++ Op Mul ∷ []) (Loop w.0) = noting w.1 star-loop in
    moved g (Has S (Is Program (Loop w.0) Starred)) y _ (sym (ap (star_after S) w.2) ∙ e)
    (group_grows g S (Is s t Braced) all h (Op Mul) (Loop w.0) Starred (ap is_program w.2) (end_stmt (end_note n)) (Loop w.0, n, refl))
star_moves g S _ y all h e = absurd cc

semi_moves : (g : Sort) (S : List Part) (p : Piece) (y : State) (all : List Lexeme) → HasRead g S p all → semi_after S p ≡ Some y → After g y (all ++ Semi ∷ [])
semi_moves g S (Is s t Braced) y all h e =
    let w = h.tail in
    moved g (Has S (Is Program w.0 Done)) y _ (sym (ap (semi_after S) w.2) ∙ e)
    (group_grows g S (Is s t Braced) all h Semi w.0 Done (ap is_program w.2) (end_semi (end_note (note_brace w.1))) tt)
semi_moves g S (Is s t Starred) y all h e =
    let w = h.tail in
    moved g (Has S (Is Program w.0 Done)) y _ (sym (ap (semi_after S) w.2) ∙ e)
    (group_grows g S (Is s t Starred) all h Semi w.0 Done (ap is_program w.2) (end_semi (end_note w.1)) tt)
semi_moves g S (Is s t Annotated) y all h e =
    let w = h.tail in
    moved g (Has S (Is Program w.0 Done)) y _ (sym (ap (semi_after S) w.2) ∙ e)
    (group_grows g S (Is s t Annotated) all h Semi w.0 Done (ap is_program w.2) (end_semi w.1) tt)
semi_moves g S _ y all h e = absurd cc

notes_begin : (g : Sort) (S : List Part) (p : Piece) (all : List Lexeme) (h : HasRead g S p all) (t : Phrase) → is_program p ≡ true → Noting h.back t
    → After g (Invariants S t) (all ++ Invariant ∷ [])
notes_begin g S p all h t i n = (
  h.back,
  n,
  record {
    front = h.front;
    spells = h.spells;
    fit = good_program g S p i h.good;
    parts = ap (λ (l : List Lexeme). l ++ Invariant ∷ []) h.parts ∙ append_assoc h.front h.back (Invariant ∷ []);
  },
)

invariant_moves : (g : Sort) (S : List Part) (p : Piece) (y : State) (all : List Lexeme) → HasRead g S p all → invariant_after S p ≡ Some y
    → After g y (all ++ Invariant ∷ [])
invariant_moves g S (Is s t Braced) y all h e =
    let w = h.tail in
    moved g (Invariants S w.0) y _ (sym (ap (invariant_after S) w.2) ∙ e) (notes_begin g S (Is s t Braced) all h w.0 (ap is_program w.2) (note_brace w.1))
invariant_moves g S (Is s t Starred) y all h e =
    let w = h.tail in
    moved g (Invariants S w.0) y _ (sym (ap (invariant_after S) w.2) ∙ e) (notes_begin g S (Is s t Starred) all h w.0 (ap is_program w.2) w.1)
invariant_moves g S _ y all h e = absurd cc

-- a token behind a lone name
name_midway : (g : Sort) (S : List Part) (p : Piece) (all : List Lexeme) (h : HasRead g S p all) (n : ℕ) (x : Word) (k : Lexeme) (r : Sort)
    → h.back ≡ Name n x ∷ [] → fits g r S ≡ true → Midway g S (Name n x ∷ k ∷ []) r (all ++ k ∷ [])
name_midway g S p all h n x k r e f = record {
  front = h.front;
  spells = h.spells;
  fit = f;
  parts = ap (λ (l : List Lexeme). l ++ k ∷ []) (h.parts ∙ ap (λ (l : List Lexeme). h.front ++ l) e) ∙ append_assoc h.front (Name n x ∷ []) (k ∷ []);
}

name_moves : (g : Sort) (S : List Part) (p : Piece) (k : Lexeme) (y : State) (all : List Lexeme) (h : HasRead g S p all) (l : Tail) → Tailed l p h.back
    → name_after g S k l ≡ Some y → After g y (all ++ k ∷ [])
name_moves g S p Open y all h (Bare n x) t e = moved g (Calls S n x) y _ e (name_midway g S p all h n x Open Term t.0 (good_term g S p _ _ t.1 h.good))
name_moves g S p RoundBar y all h (Bare n x) t e = moved g (Bars S x) y _ e (n, name_midway g S p all h n x RoundBar Term t.0 (good_term g S p _ _ t.1 h.good))
name_moves g S p RoundBars y all h (Bare n x) t e =
    moved g (Has S (Symbol (Any x Everywhere) 0 Done)) y _ e
    (grows g S p (Symbol (Any x Everywhere) 0 Done) all (Name n x ∷ []) RoundBars h t.0 (from_symbol (Any x Everywhere) _ prim-any atom-any) tt
    (Term, Apply (Any x Everywhere), refl, good_term g S p _ _ t.1 h.good))
name_moves g S p (OpenBrace m) y all h (Bare n x) t e =
    let w = when_is (fits g Formula S) (Some (Wants (Inside (InContext x) ∷ S))) y e in
    let a = name_midway g S p all h n x (OpenBrace m) Formula t.0 w.0 in
    moved g (Wants (Inside (InContext x) ∷ S)) y _ w.1
    (subst (λ (l : List Lexeme). Spells g (Inside (InContext x) ∷ S) l) (sym a.parts) (inside a.spells (context-text a.fit)))
name_moves g S p _ y all h _ t e = absurd cc

primed_tail : (p : Piece) → is_program p ≡ false → tail_of (primed p) ≡ Done
primed_tail (Is Term t l) e = refl
primed_tail (Is Formula t l) e = refl
primed_tail (Is Program t l) e = absurd cc
primed_tail (Symbol x n l) e = refl

primed_from : (r : Sort) (p : Piece) (t : Phrase) → is_program p ≡ false → as_sort r (primed p) ≡ Some t
    → (u : Phrase) × (as_sort r p ≡ Some u) × (((r ≡ Term) × (Diff u ≡ t)) ⊎ ((r ≡ Formula) × (DiffF u ≡ t)))
primed_from Term (Is Term u l) t i e = (u, refl, inl (refl, some_eq _ t e))
primed_from Formula (Is Formula u l) t i e = (u, refl, inr (refl, some_eq _ t e))
primed_from Term (Symbol x n l) t i e = (primes n (Apply x), refl, inl (refl, some_eq _ t e))
primed_from Formula (Symbol x n l) t i e = (formula_primes n (Holds x), refl, inr (refl, some_eq _ t e))
primed_from Term (Is Formula u l) t i e = absurd cc
primed_from Formula (Is Term u l) t i e = absurd cc
primed_from Program (Is Term u l) t i e = absurd cc
primed_from Program (Is Formula u l) t i e = absurd cc
primed_from Program (Symbol x n l) t i e = absurd cc
primed_from r (Is Program u l) t i e = absurd cc

good_primed : (g : Sort) (S : List Part) (p : Piece) → is_program p ≡ false → Good g S p → Good g S (primed p)
good_primed g S p i o = go o.0 p o.1 i o.2 o.3
  where
    go : (r : Sort) (q : Piece) (t : Phrase) → is_program q ≡ false → as_sort r q ≡ Some t → fits g r S ≡ true → Good g S (primed q)
    go Term (Is Term u l) t i e f = (Term, Diff u, refl, f)
    go Formula (Is Formula u l) t i e f = (Formula, DiffF u, refl, f)
    go Term (Symbol x n l) t i e f = (Term, primes (suc n) (Apply x), refl, f)
    go Formula (Symbol x n l) t i e f = (Formula, formula_primes (suc n) (Holds x), refl, f)
    go Term (Is Formula u l) t i e f = absurd cc
    go Formula (Is Term u l) t i e f = absurd cc
    go Program (Is Term u l) t i e f = absurd cc
    go Program (Is Formula u l) t i e f = absurd cc
    go Program (Symbol x n l) t i e f = absurd cc
    go r (Is Program u l) t i e f = absurd cc

term_not_formula : Term ≡ Formula → ⊥
term_not_formula e = absurd cc

primed_known : (p : Piece) (s : List Lexeme) → is_program p ≡ false → ((t : Phrase) → as_sort Term p ≡ Some t → Reads term s t)
    → ((t : Phrase) → as_sort Formula p ≡ Some t → Reads formula s t) → Known 11 (primed p) (Open ∷ (s ++ Close ∷ Prime ∷ []))
primed_known p s i f g = known_from (primed p) (Open ∷ (s ++ Close ∷ Prime ∷ []))
    (λ t e.
    let w = primed_from Term p t i e in
    elim w.2
    [ inl v ↦ subst (λ (x : Phrase). Reads prim (Open ∷ (s ++ Close ∷ Prime ∷ [])) x) v.1 (prim-diff (f w.0 w.1)) | inr v ↦ absurd (term_not_formula v.0) ])
    (λ t e.
    let w = primed_from Formula p t i e in
    elim w.2 [
      | inl v ↦ absurd (term_not_formula (sym v.0))
      | inr v ↦ subst (λ (x : Phrase). Reads atom (Open ∷ (s ++ Close ∷ Prime ∷ [])) x) v.1 (atom-diff (g w.0 w.1))
    ])
    (λ t e. let w = primed_from Program p t i e in let z = not_program p i in absurd (let v = w.1 in cc))

prime_moves : (g : Sort) (S : List Part) (p : Piece) (y : State) (all : List Lexeme) (h : HasRead g S p all) (l : Tail) → Tailed l p h.back
    → prime_after S p l ≡ Some y → After g y (all ++ Prime ∷ [])
prime_moves g S p y all h (Bare n x) t e =
    moved g (Has S (Is Term (Variable x true) Done)) y _ e
    (grows g S p (Is Term (Variable x true) Done) all (Name n x ∷ []) Prime h t.0 (from_prim _ _ _ prim-primed) tt
    (Term, Variable x true, refl, good_term g S p _ _ t.1 h.good))
prime_moves g S p y all h Grouped t e =
    let at : (Open ∷ (t.0 ++ Close ∷ [])) ++ Prime ∷ [] ≡ Open ∷ (t.0 ++ Close ∷ Prime ∷ []) =
    ap (λ (l : List Lexeme). Open ∷ l) (append_assoc t.0 (Close ∷ []) (Prime ∷ [])) in
    moved g (Has S (primed p)) y _ e (grows g S p (primed p) all (Open ∷ (t.0 ++ Close ∷ [])) Prime h t.1
    (subst (λ (l : List Lexeme). Known 11 (primed p) l) (sym at) (primed_known p t.0 t.4 t.2 t.3))
    (subst (λ (k : Tail). Tailed k (primed p) ((Open ∷ (t.0 ++ Close ∷ [])) ++ Prime ∷ [])) (sym (primed_tail p t.4)) tt)
    (good_primed g S p t.4 h.good))
prime_moves g S p y all h _ t e = absurd cc

program_moves : (g : Sort) (S : List Part) (p : Piece) (k : Lexeme) (y : State) (all : List Lexeme) → HasRead g S p all → after_program g S p k ≡ Some y
    → After g y (all ++ k ∷ [])
program_moves g S p (Op Mul) y all h e = star_moves g S p y all h e
program_moves g S p (Op Choice) y all h e = infix_moves g Choice S p y all h e
program_moves g S p (Op Greater) y all h e = closing_moves g (Op Greater) S p y all h e
program_moves g S p Invariant y all h e = invariant_moves g S p y all h e
program_moves g S p Semi y all h e = semi_moves g S p y all h e
program_moves g S p CloseBox y all h e = closing_moves g CloseBox S p y all h e
program_moves g S p CloseBrace y all h e = closing_moves g CloseBrace S p y all h e
program_moves g S p (Name n x) y all h e = next_moves g (Name n x) S p y all h e
program_moves g S p Query y all h e = next_moves g Query S p y all h e
program_moves g S p (OpenBrace n) y all h e = next_moves g (OpenBrace n) S p y all h e
program_moves g S p _ y all h e = absurd cc

other_moves : (g : Sort) (S : List Part) (p : Piece) (k : Lexeme) (y : State) (all : List Lexeme) → HasRead g S p all → after_other g S p k ≡ Some y
    → After g y (all ++ k ∷ [])
other_moves g S p (Op o) y all h e = infix_moves g o S p y all h e
other_moves g S p Open y all h e = name_moves g S p Open y all h (tail_of p) h.tail e
other_moves g S p RoundBars y all h e = name_moves g S p RoundBars y all h (tail_of p) h.tail e
other_moves g S p RoundBar y all h e = name_moves g S p RoundBar y all h (tail_of p) h.tail e
other_moves g S p (OpenBrace m) y all h e = name_moves g S p (OpenBrace m) y all h (tail_of p) h.tail e
other_moves g S p Prime y all h e = prime_moves g S p y all h (tail_of p) h.tail e
other_moves g S p Close y all h e = closing_moves g Close S p y all h e
other_moves g S p CloseBrace y all h e = closing_moves g CloseBrace S p y all h e
other_moves g S p Comma y all h e = closing_moves g Comma S p y all h e
other_moves g S p Semi y all h e = closing_moves g Semi S p y all h e
other_moves g S p _ y all h e = absurd cc

args_begin : (g : Sort) (S : List Part) (n : ℕ) (x : Word) (k : Lexeme) (y : State) (all : List Lexeme) → Midway g S (Name n x ∷ Open ∷ []) Term all
    → start_operand g (Inside (Args n x none) ∷ S) k ≡ Some y → After g y (all ++ k ∷ [])
args_begin g S n x k y all a e =
    operand_moves g (Inside (Args n x none) ∷ S) k y all refl
    (subst (λ (l : List Lexeme). Spells g (Inside (Args n x none) ∷ S) l) (sym a.parts) (inside a.spells (args-text list-begins a.fit))) e

call_moves : (g : Sort) (S : List Part) (n : ℕ) (x : Word) (k : Lexeme) (y : State) (all : List Lexeme) → Midway g S (Name n x ∷ Open ∷ []) Term all
    → call_step g S n x k ≡ Some y → After g y (all ++ k ∷ [])
call_moves g S n x Close y all a e =
    moved g (Has S (Symbol (Call n x none) 0 Done)) y _ e
    (midway_text g S (Name n x ∷ Open ∷ []) Term all Close (Symbol (Call n x none) 0 Done) a (from_symbol (Call n x none) _ prim-nullary atom-nullary) tt
    (Term, Apply (Call n x none), refl, a.fit))
call_moves g S n x k y all a e = args_begin g S n x k y all a e

bars_moves : (g : Sort) (S : List Part) (x : Word) (k : Lexeme) (y : State) (all : List Lexeme) (n : ℕ) → Midway g S (Name n x ∷ RoundBar ∷ []) Term all
    → bars_step S x k ≡ Some y → After g y (all ++ k ∷ [])
bars_moves g S x (Name m z) y all n a e = moved g (BarsName S x z) y _ e (n, m, midway_more g S (Name n x ∷ RoundBar ∷ []) Term all (Name m z) a)
bars_moves g S x _ y all n a e = absurd cc

bars_name_moves : (g : Sort) (S : List Part) (x z : Word) (k : Lexeme) (y : State) (all : List Lexeme) (n m : ℕ)
    → Midway g S (Name n x ∷ RoundBar ∷ Name m z ∷ []) Term all → bars_name_step S x z k ≡ Some y → After g y (all ++ k ∷ [])
bars_name_moves g S x z BarRound y all n m a e =
    moved g (Has S (Symbol (Any x (Except z)) 0 Done)) y _ e
    (midway_text g S (Name n x ∷ RoundBar ∷ Name m z ∷ []) Term all BarRound (Symbol (Any x (Except z)) 0 Done) a
    (from_symbol (Any x (Except z)) _ prim-except atom-except) tt (Term, Apply (Any x (Except z)), refl, a.fit))
bars_name_moves g S x z _ y all n m a e = absurd cc

bound_text : (q : Quantifier) (n : ℕ) (x : Word) → PrefixText (Bound q x) (quantifier_token q ∷ Name n x ∷ [])
bound_text ForAll n x = forall-text
bound_text ForSome n x = exists-text

bind_moves : (g : Sort) (S : List Part) (q : Quantifier) (k : Lexeme) (y : State) (all : List Lexeme) → Midway g S (quantifier_token q ∷ []) Formula all
    → bind_step S q k ≡ Some y → After g y (all ++ k ∷ [])
bind_moves g S q (Name n x) y all a e =
    moved g (Wants (Before (Bound q x) ∷ S)) y _ e
    (midway_spells g S (Before (Bound q x) ∷ S) (quantifier_token q ∷ []) Formula all (Name n x) a
    (before a.spells (bound_text q n x) (loose_formula g S a.fit) a.fit))
bind_moves g S q _ y all a e = absurd cc

named_moves : (g : Sort) (S : List Part) (x : Word) (k : Lexeme) (y : State) (all : List Lexeme) (n : ℕ) → Midway g S (Name n x ∷ []) Program all
    → statement_step S x k ≡ Some y → After g y (all ++ k ∷ [])
named_moves g S x Semi y all n a e =
    moved g (Has S (Is Program (Const x) Done)) y _ e
    (midway_text g S (Name n x ∷ []) Program all Semi (Is Program (Const x) Done) a (from_stmt _ _ _ stmt-const) tt (Program, Const x, refl, a.fit))
named_moves g S x Gets y all n a e = moved g (StartsGets S x) y _ e (n, midway_more g S (Name n x ∷ []) Program all Gets a)
named_moves g S x Prime y all n a e = moved g (StartsPrime S x) y _ e (n, midway_more g S (Name n x ∷ []) Program all Prime a)
named_moves g S x _ y all n a e = absurd cc

named_prime_moves : (g : Sort) (S : List Part) (x : Word) (k : Lexeme) (y : State) (all : List Lexeme) (n : ℕ)
    → Midway g S (Name n x ∷ Prime ∷ []) Program all → statement_prime_step S x k ≡ Some y → After g y (all ++ k ∷ [])
named_prime_moves g S x Gets y all n a e =
    moved g (Wants (Inside (Assigns x true) ∷ S)) y _ e
    (midway_spells g S (Inside (Assigns x true) ∷ S) (Name n x ∷ Prime ∷ []) Program all Gets a (inside a.spells (assigns_prime-text a.fit)))
named_prime_moves g S x _ y all n a e = absurd cc

value_begin : (g : Sort) (S : List Part) (x : Word) (k : Lexeme) (y : State) (all : List Lexeme) (n : ℕ)
    → Midway g S (Name n x ∷ Gets ∷ []) Program all → start_operand g (Inside (Assigns x false) ∷ S) k ≡ Some y → After g y (all ++ k ∷ [])
value_begin g S x k y all n a e =
    operand_moves g (Inside (Assigns x false) ∷ S) k y all refl
    (subst (λ (l : List Lexeme). Spells g (Inside (Assigns x false) ∷ S) l) (sym a.parts) (inside a.spells (assigns-text a.fit))) e

named_gets_moves : (g : Sort) (S : List Part) (x : Word) (k : Lexeme) (y : State) (all : List Lexeme) (n : ℕ)
    → Midway g S (Name n x ∷ Gets ∷ []) Program all → statement_gets_step g S x k ≡ Some y → After g y (all ++ k ∷ [])
named_gets_moves g S x (Op Mul) y all n a e = moved g (StartsStar S x) y _ e (n, midway_more g S (Name n x ∷ Gets ∷ []) Program all (Op Mul) a)
named_gets_moves g S x k y all n a e = value_begin g S x k y all n a e

named_star_moves : (g : Sort) (S : List Part) (x : Word) (k : Lexeme) (y : State) (all : List Lexeme) (n : ℕ)
    → Midway g S (Name n x ∷ Gets ∷ Op Mul ∷ []) Program all → statement_star_step S x k ≡ Some y → After g y (all ++ k ∷ [])
named_star_moves g S x Semi y all n a e =
    moved g (Has S (Is Program (AssignAny x) Done)) y _ e
    (midway_text g S (Name n x ∷ Gets ∷ Op Mul ∷ []) Program all Semi (Is Program (AssignAny x) Done) a (from_stmt _ _ _ stmt-any) tt
    (Program, AssignAny x, refl, a.fit))
named_star_moves g S x _ y all n a e = absurd cc

-- the tokens behind a brace as those of its program
brace_midway : (g : Sort) (S : List Part) (n : ℕ) (own : List Lexeme) (all : List Lexeme) → Midway g S (OpenBrace n ∷ own) Program all
    → Midway g (Inside InBrace ∷ S) own Program all
brace_midway g S n own all a = record {
  front = a.front ++ OpenBrace n ∷ [];
  spells = inside a.spells (brace-text a.fit);
  fit = refl;
  parts = a.parts ∙ sym (append_assoc a.front (OpenBrace n ∷ []) own);
}

flow_moves : (g : Sort) (S : List Part) (n : ℕ) (l : Items) (x : Word) (k : Lexeme) (y : State) (all j : List Lexeme) (m : ℕ) → ItemsBefore l j
    → Midway g S (OpenBrace n ∷ (j ++ Name m x ∷ [])) Program all → items_step S n (add l (Flow x Everywhere)) k ≡ Some y → After g y (all ++ k ∷ [])
flow_moves g S n l x k y all j m b a e = items_moves g S n (add l (Flow x Everywhere)) k y all (j ++ Name m x ∷ []) (items_joined b item-flow) a e

item_name_moves : (g : Sort) (S : List Part) (n : ℕ) (l : Items) (x : Word) (k : Lexeme) (y : State) (all j : List Lexeme) (m : ℕ) → ItemsBefore l j
    → Midway g S (OpenBrace n ∷ (j ++ Name m x ∷ [])) Program all → item_name_step S n l x k ≡ Some y → After g y (all ++ k ∷ [])
item_name_moves g S n l x Prime y all j m b a e =
    moved g (ItemPrime S n l x) y _ e (
      j,
      m,
      b,
      midway_same g S _ _ Program _ (ap (λ (z : List Lexeme). OpenBrace n ∷ z) (append_assoc j (Name m x ∷ []) (Prime ∷ [])))
          (midway_more g S (OpenBrace n ∷ (j ++ Name m x ∷ [])) Program all Prime a),
    )
item_name_moves g S n l x BraceBar y all j m b a e =
    moved g (ItemBar S n l x) y _ e (
      j,
      m,
      b,
      midway_same g S _ _ Program _ (ap (λ (z : List Lexeme). OpenBrace n ∷ z) (append_assoc j (Name m x ∷ []) (BraceBar ∷ [])))
          (midway_more g S (OpenBrace n ∷ (j ++ Name m x ∷ [])) Program all BraceBar a),
    )
item_name_moves g S n l x k y all j m b a e = flow_moves g S n l x k y all j m b a e

item_prime_moves : (g : Sort) (S : List Part) (n : ℕ) (l : Items) (x : Word) (k : Lexeme) (y : State) (all j : List Lexeme) (m : ℕ) → ItemsBefore l j
    → Midway g S (OpenBrace n ∷ (j ++ Name m x ∷ Prime ∷ [])) Program all → item_prime_step S n l x k ≡ Some y → After g y (all ++ k ∷ [])
item_prime_moves g S n l x (Op Equal) y all j m b a e =
    let c =
    midway_same g S _ _ Program _ (ap (λ (z : List Lexeme). OpenBrace n ∷ z) (append_assoc j (Name m x ∷ Prime ∷ []) (Op Equal ∷ [])))
    (midway_more g S (OpenBrace n ∷ (j ++ Name m x ∷ Prime ∷ [])) Program all (Op Equal) a) in
    moved g (Wants (Inside (Evolves n l x) ∷ S)) y _ e
    (subst (λ (z : List Lexeme). Spells g (Inside (Evolves n l x) ∷ S) z) (sym c.parts) (inside c.spells (evolves-text m b c.fit)))
item_prime_moves g S n l x _ y all j m b a e = absurd cc

items_begin_moves : (g : Sort) (S : List Part) (n : ℕ) (l : Items) (k : Lexeme) (y : State) (all j : List Lexeme) → ItemsBefore l j
    → Midway g S (OpenBrace n ∷ j) Program all → items_begin S n l k ≡ Some y → After g y (all ++ k ∷ [])
items_begin_moves g S n l (Name m x) y all j b a e = moved g (ItemName S n l x) y _ e (j, m, b, midway_more g S (OpenBrace n ∷ j) Program all (Name m x) a)
items_begin_moves g S n l _ y all j b a e = absurd cc

item_bar_moves : (g : Sort) (S : List Part) (n : ℕ) (l : Items) (x : Word) (k : Lexeme) (y : State) (all j : List Lexeme) (m : ℕ) → ItemsBefore l j
    → Midway g S (OpenBrace n ∷ (j ++ Name m x ∷ BraceBar ∷ [])) Program all → item_bar_step S n l x k ≡ Some y → After g y (all ++ k ∷ [])
item_bar_moves g S n l x (Name o z) y all j m b a e =
    moved g (ItemBarName S n l x z) y _ e (
      j,
      m,
      o,
      b,
      midway_same g S _ _ Program _ (ap (λ (z : List Lexeme). OpenBrace n ∷ z) (append_assoc j (Name m x ∷ BraceBar ∷ []) (Name o z ∷ [])))
          (midway_more g S (OpenBrace n ∷ (j ++ Name m x ∷ BraceBar ∷ [])) Program all (Name o z) a),
    )
item_bar_moves g S n l x _ y all j m b a e = absurd cc

item_bar_name_moves : (g : Sort) (S : List Part) (n : ℕ) (l : Items) (x z : Word) (k : Lexeme) (y : State) (all j : List Lexeme) (m o : ℕ) → ItemsBefore l j
    → Midway g S (OpenBrace n ∷ (j ++ Name m x ∷ BraceBar ∷ Name o z ∷ [])) Program all → item_bar_name_step S n l x z k ≡ Some y → After g y (all ++ k ∷ [])
item_bar_name_moves g S n l x z BarBrace y all j m o b a e =
    moved g (ItemEnds S n (add l (Flow x (Except z)))) y _ e (
      j ++ Name m x ∷ BraceBar ∷ Name o z ∷ BarBrace ∷ [],
      items_joined b item-except,
      midway_same g S _ _ Program _ (ap (λ (z : List Lexeme). OpenBrace n ∷ z) (append_assoc j (Name m x ∷ BraceBar ∷ Name o z ∷ []) (BarBrace ∷ [])))
          (midway_more g S (OpenBrace n ∷ (j ++ Name m x ∷ BraceBar ∷ Name o z ∷ [])) Program all BarBrace a),
    )
item_bar_name_moves g S n l x z _ y all j m o b a e = absurd cc

brace_begin : (g : Sort) (S : List Part) (n : ℕ) (k : Lexeme) (y : State) (all : List Lexeme) → Midway g S (OpenBrace n ∷ []) Program all
    → start_statement (Inside InBrace ∷ S) k ≡ Some y → After g y (all ++ k ∷ [])
brace_begin g S n k y all a e =
    statement_moves g (Inside InBrace ∷ S) k y all refl
    (subst (λ (z : List Lexeme). Spells g (Inside InBrace ∷ S) z) (sym a.parts) (inside a.spells (brace-text a.fit))) e

opens_moves : (g : Sort) (S : List Part) (n : ℕ) (k : Lexeme) (y : State) (all : List Lexeme) → Midway g S (OpenBrace n ∷ []) Program all
    → opens_step S n k ≡ Some y → After g y (all ++ k ∷ [])
opens_moves g S n (Name m x) y all a e = moved g (OpensName S n x) y _ e (m, midway_more g S (OpenBrace n ∷ []) Program all (Name m x) a)
opens_moves g S n k y all a e = brace_begin g S n k y all a e

opens_name_moves : (g : Sort) (S : List Part) (n : ℕ) (x : Word) (k : Lexeme) (y : State) (all : List Lexeme) (m : ℕ)
    → Midway g S (OpenBrace n ∷ Name m x ∷ []) Program all → opens_name_step S n x k ≡ Some y → After g y (all ++ k ∷ [])
opens_name_moves g S n x Prime y all m a e = moved g (OpensPrime S n x) y _ e (m, midway_more g S (OpenBrace n ∷ Name m x ∷ []) Program all Prime a)
opens_name_moves g S n x Semi y all m a e = named_moves g (Inside InBrace ∷ S) x Semi y all m (brace_midway g S n (Name m x ∷ []) all a) e
opens_name_moves g S n x Gets y all m a e = named_moves g (Inside InBrace ∷ S) x Gets y all m (brace_midway g S n (Name m x ∷ []) all a) e
opens_name_moves g S n x k y all m a e = item_name_moves g S n no_items x k y all [] m items-begin a e

opens_prime_moves : (g : Sort) (S : List Part) (n : ℕ) (x : Word) (k : Lexeme) (y : State) (all : List Lexeme) (m : ℕ)
    → Midway g S (OpenBrace n ∷ Name m x ∷ Prime ∷ []) Program all → opens_prime_step S n x k ≡ Some y → After g y (all ++ k ∷ [])
opens_prime_moves g S n x Gets y all m a e = named_prime_moves g (Inside InBrace ∷ S) x Gets y all m (brace_midway g S n (Name m x ∷ Prime ∷ []) all a) e
opens_prime_moves g S n x k y all m a e = item_prime_moves g S n no_items x k y all [] m items-begin a e

invariants_moves : (g : Sort) (S : List Part) (t : Phrase) (k : Lexeme) (y : State) (all r : List Lexeme) → Noting r t
    → Midway g S (r ++ Invariant ∷ []) Program all → invariants_step S t k ≡ Some y → After g y (all ++ k ∷ [])
invariants_moves g S t Open y all r n a e =
    let c = midway_same g S _ _ Program _ (append_assoc r (Invariant ∷ []) (Open ∷ [])) (midway_more g S (r ++ Invariant ∷ []) Program all Open a) in
    moved g (Wants (Inside (Notes t none) ∷ S)) y _ e
    (subst (λ (z : List Lexeme). Spells g (Inside (Notes t none) ∷ S) z) (sym c.parts) (inside c.spells (notes-text n list-begins c.fit)))
invariants_moves g S t _ y all r n a e = absurd cc

pub moves : (g : Sort) (x : State) (k : Lexeme) (y : State) (all : List Lexeme) → After g x all → step g x k ≡ Some y → After g y (all ++ k ∷ [])
moves g (Wants S) k y all a e = wants_moves g S k y all a e
moves g (Has S p) k y all a e =
    elim (chosen (is_program p) (after_program g S p k) (after_other g S p k) (Some y) e) [
      | inl h ↦ program_moves g S p k y all a h.1
      | inr h ↦ other_moves g S p k y all a h.1
    ]
moves g (Calls S n x) k y all a e = call_moves g S n x k y all a e
moves g (Bars S x) k y all a e = bars_moves g S x k y all a.0 a.1 e
moves g (BarsName S x z) k y all a e = bars_name_moves g S x z k y all a.0 a.1 a.2 e
moves g (Binds S q) k y all a e = bind_moves g S q k y all a e
moves g (Starts S x) k y all a e = named_moves g S x k y all a.0 a.1 e
moves g (StartsPrime S x) k y all a e = named_prime_moves g S x k y all a.0 a.1 e
moves g (StartsGets S x) k y all a e = named_gets_moves g S x k y all a.0 a.1 e
moves g (StartsStar S x) k y all a e = named_star_moves g S x k y all a.0 a.1 e
moves g (Opens S n) k y all a e = opens_moves g S n k y all a e
moves g (OpensName S n x) k y all a e = opens_name_moves g S n x k y all a.0 a.1 e
moves g (OpensPrime S n x) k y all a e = opens_prime_moves g S n x k y all a.0 a.1 e
moves g (WantsItem S n l) k y all a e = items_begin_moves g S n l k y all a.0 a.1 a.2 e
moves g (ItemName S n l x) k y all a e = item_name_moves g S n l x k y all a.0 a.1 a.2 a.3 e
moves g (ItemPrime S n l x) k y all a e = item_prime_moves g S n l x k y all a.0 a.1 a.2 a.3 e
moves g (ItemBar S n l x) k y all a e = item_bar_moves g S n l x k y all a.0 a.1 a.2 a.3 e
moves g (ItemBarName S n l x z) k y all a e = item_bar_name_moves g S n l x z k y all a.0 a.1 a.2 a.3 a.4 e
moves g (ItemEnds S n l) k y all a e = items_moves g S n l k y all a.0 a.1 a.2 e
moves g (Invariants S t) k y all a e = invariants_moves g S t k y all a.0 a.1 a.2 e

pub spells_nothing : {g : Sort} {f : List Lexeme} → Spells g [] f → f ≡ []
spells_nothing nothing = refl

top_need : (g : Sort) (n : ℕ) → 1 ≤ n → need (top g) ≤ n
top_need Term n h = omega arith
top_need Formula n h = h
top_need Program n h = h

ends_all : (g h : Sort) (T : List Part) (q : Piece) (all : List Lexeme) (t : Phrase) → Reduced g 0 T q all → whole h T q ≡ Some t → Reads (top h) all t
ends_all g h [] q all t r e =
    subst (λ (l : List Lexeme). Reads (top h) l t) (sym (r.parts ∙ ap (λ (l : List Lexeme). l ++ r.back) (spells_nothing r.spells)))
    (r.known (top h) t (top_need h r.height r.some) (subst (λ (k : Sort). as_sort k q ≡ Some t) (sym (top_sort h)) e))
ends_all g h (x ∷ T) q all t r e = absurd cc

pub ends : (g h : Sort) (x : State) (all : List Lexeme) (t : Phrase) → After g x all → ended h x ≡ Some t → Reads (top h) all t
ends g h (Has S p) all t a e =
    let b = bind_some (reduce 0 S p) (λ r. whole h r.0 r.1) t e in
    ends_all g h b.0.0 b.0.1 all t (reduced_all g 0 S p all b.0.0 b.0.1 a b.1) b.2
ends g h _ all t a e = absurd cc
