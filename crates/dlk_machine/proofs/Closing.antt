-- What is read is in the grammar, where a token begins an operand or closes a holder.
use Rattle.std.proofs.Common.{◌≡◌, ℕ, ◌≤◌, ◌⊎◌, inl, inr, Bool, true, false, List, [], ◌∷◌, ◌++◌, Some, None, refl, sym, ap, subst, ◌∙◌, append_assoc, arith}
use Rattle.dlk_grammar.specs.declared.token.Infix.TheVariants.{And, Equal, Greater, Less, Sub}
use Rattle.dlk_grammar.specs.Lexemes.{Word, Lexeme, Name, Number, Dot, Blank, True, False, All, Exist, Invariant, Open, Close, OpenBox, CloseBox}
use Rattle.dlk_grammar.specs.Lexemes.{OpenBrace, CloseBrace, Bang, Prime, Gets, Query, Semi, Comma, Op}
use Rattle.dlk_grammar.specs.Phrases.{Phrase, Literal, Argument, Variable, Apply, Truth, Falsity, Hole, Holds, Context, Assign, Test, System, Noted}
use Rattle.dlk_grammar.specs.Phrases.{snoc, Head, Call, Evolve, Items, add}
use Rattle.dlk_grammar.specs.Grammar.{formula, atom, term, prim, prog, stmt, Reads, atom-true, atom-false, atom-hole, atom-holds, atom-context}
use Rattle.dlk_grammar.specs.Grammar.{atom-bracket, prim-number, prim-dot, prim-name, prim-apply, prim-bracket, stmt-assign, stmt-assign_prime}
use Rattle.dlk_grammar.specs.Grammar.{stmt-test, ReadsBrace, brace-prog, brace-items, brace-domain, ReadsItems, item-evolve}
use Rattle.dlk_tree.specs.declared.op.Sort.{Sort}
use Rattle.dlk_tree.specs.declared.op.Sort.TheVariants.{Term, Formula, Program}
use Rattle.dlk_machine.specs.Levels.{form_sort}
use Rattle.dlk_machine.specs.Machine.{◌>>=◌, when, Between, ForAll, ForSome, InBox, InDia, Bang', Modal, Holder, Round, Args, InContext, In, InBrace}
use Rattle.dlk_machine.specs.Machine.{Assigns, Tests, Evolves, Domain, Notes, Part, Left, Before, Inside, level, operand_sort, result_sort, Tail}
use Rattle.dlk_machine.specs.Machine.{Done, Bare, Grouped, Braced, Annotated, Piece, Is, Symbol, State, Wants, Has, Binds, Starts, Opens, WantsItem}
use Rattle.dlk_machine.specs.Machine.{as_sort, tail_of, with_tail, program_sort, is_program, reduce, round_sort, place, allows, fits, start_operand}
use Rattle.dlk_machine.specs.Machine.{start_statement, start, after_operand, items_step, close, close_top, closing}
use Rattle.dlk_machine.proofs.Opening.{bind_some, when_is}
use Rattle.dlk_machine.proofs.Climb.{left_form, formula_level, program_level, need_below, stands}
use Rattle.dlk_machine.proofs.OpenParts.{place_kind}
use Rattle.dlk_machine.proofs.Spelled.{mark, table, list_joined, items_joined, note_brace, end_note, end_stmt, end_invariants, HolderText, Spells}
use Rattle.dlk_machine.proofs.Spelled.{Known, known_tree, Good, Reduced, left_of_top, chosen, some_eq, reduced, loose_nine, loose_top, loose_formula}
use Rattle.dlk_machine.proofs.Spelled.{Tailed, HasRead, Midway, After, minus-text, bang-text, boxed-text, dia-text, list-goes_on, items-go_on}
use Rattle.dlk_machine.proofs.Spelled.{round-text, args-text, context-text, box-text, in_dia-text, brace-text, assigns-text, assigns_prime-text}
use Rattle.dlk_machine.proofs.Spelled.{tests-text, evolves-text, domain-text, notes-text, left, before, inside}

-- the new state, by the state that the step gives
pub moved : (g : Sort) (x y : State) (all : List Lexeme) → Some x ≡ Some y → After g x all → After g y all
moved g x y all e a = subst (λ (z : State). After g z all) (some_eq x y e) a

pub as_text : (g : Sort) (S : List Part) (s r : List Lexeme) (p : Piece) → Spells g S s → Known 11 p r → Tailed (tail_of p) p r → Good g S p
    → HasRead g S p (s ++ r)
as_text g S s r p sp k x o = record { front = s; back = r; spells = sp; known = k; tail = x; good = o; parts = refl }

sort_is : (s : Sort) → (s ≡ Term) ⊎ (s ≡ Formula) ⊎ (s ≡ Program)
sort_is Term = inl refl
sort_is Formula = inr (inl refl)
sort_is Program = inr (inr refl)

-- what is a primary of each sort
pub known_from : (p : Piece) (s : List Lexeme) → ((t : Phrase) → as_sort Term p ≡ Some t → Reads prim s t)
    → ((t : Phrase) → as_sort Formula p ≡ Some t → Reads atom s t) → ((t : Phrase) → as_sort Program p ≡ Some t → Reads stmt s t) → Known 11 p s
known_from p s f g h m t n e =
    elim (sort_is (form_sort m)) [
      | inl w ↦ stands prim m s t n (sym w) (f t (subst (λ (k : Sort). as_sort k p ≡ Some t) w e))
      | inr (inl w) ↦ stands atom m s t (omega (arith, need_below m, formula_level m w)) (sym w) (g t (subst (λ (k : Sort). as_sort k p ≡ Some t) w e))
      | inr (inr w) ↦ stands stmt m s t (omega (arith, need_below m, program_level m w)) (sym w) (h t (subst (λ (k : Sort). as_sort k p ≡ Some t) w e))
    ]

pub from_prim : (t : Phrase) (l : Tail) (s : List Lexeme) → Reads prim s t → Known 11 (Is Term t l) s
from_prim t l s d = known_tree prim 11 Term s t l refl d refl

from_atom : (t : Phrase) (l : Tail) (s : List Lexeme) → Reads atom s t → Known 11 (Is Formula t l) s
from_atom t l s d = known_from (Is Formula t l) s (λ u e. absurd cc) (λ u e. subst (λ (x : Phrase). Reads atom s x) (some_eq t u e) d) (λ u e. absurd cc)

pub from_stmt : (t : Phrase) (l : Tail) (s : List Lexeme) → Reads stmt s t → Known 11 (Is Program t l) s
from_stmt t l s d = known_from (Is Program t l) s (λ u e. absurd cc) (λ u e. absurd cc) (λ u e. subst (λ (x : Phrase). Reads stmt s x) (some_eq t u e) d)

pub from_symbol : (x : Head) (s : List Lexeme) → Reads prim s (Apply x) → Reads atom s (Holds x) → Known 11 (Symbol x 0 Done) s
from_symbol x s d e =
    known_from (Symbol x 0 Done) s (λ u h. subst (λ (y : Phrase). Reads prim s y) (some_eq (Apply x) u h) d)
    (λ u h. subst (λ (y : Phrase). Reads atom s y) (some_eq (Holds x) u h) e) (λ u h. absurd cc)

settled_sort : (s : Sort) (p : Piece) (k : Tail) → as_sort s (with_tail k p) ≡ as_sort s p
settled_sort Term (Is Term t l) k = refl
settled_sort Term (Is Formula t l) k = refl
settled_sort Term (Is Program t l) k = refl
settled_sort Term (Symbol x n l) k = refl
settled_sort Formula (Is Term t l) k = refl
settled_sort Formula (Is Formula t l) k = refl
settled_sort Formula (Is Program t l) k = refl
settled_sort Formula (Symbol x n l) k = refl
settled_sort Program (Is Term t l) k = refl
settled_sort Program (Is Formula t l) k = refl
settled_sort Program (Is Program t l) k = refl
settled_sort Program (Symbol x n l) k = refl

settled_tail : (p : Piece) (k : Tail) → tail_of (with_tail k p) ≡ k
settled_tail (Is s t l) k = refl
settled_tail (Symbol x n l) k = refl

settled_program : (p : Piece) (k : Tail) → is_program (with_tail k p) ≡ is_program p
settled_program (Is s t l) k = refl
settled_program (Symbol x n l) k = refl

pub not_program : (p : Piece) → is_program p ≡ false → as_sort Program p ≡ None
not_program (Is Term t l) e = refl
not_program (Is Formula t l) e = refl
not_program (Is Program t l) e = absurd cc
not_program (Symbol x n l) e = refl

fits_operand : (p : Sort) → program_sort p ≡ false → allows p Term ≡ true
fits_operand Term e = refl
fits_operand Formula e = refl
fits_operand Program e = absurd cc

fits_statement : (p : Sort) → program_sort p ≡ true → allows p Program ≡ true
fits_statement Program e = refl
fits_statement Term e = absurd cc
fits_statement Formula e = absurd cc

pub operand_moves : (g : Sort) (S : List Part) (k : Lexeme) (y : State) (all : List Lexeme) → fits g Term S ≡ true → Spells g S all
    → start_operand g S k ≡ Some y → After g y (all ++ k ∷ [])
operand_moves g S (Name n x) y all f a e =
    moved g _ y _ e
    (as_text g S all (Name n x ∷ []) (Is Term (Variable x false) (Bare n x)) a (from_prim _ _ _ prim-name) (refl, refl) (Term, Variable x false, refl, f))
operand_moves g S (Number n) y all f a e =
    moved g _ y _ e (as_text g S all (Number n ∷ []) (Is Term (Literal n) Done) a (from_prim _ _ _ prim-number) tt (Term, Literal n, refl, f))
operand_moves g S (Dot n) y all f a e =
    moved g _ y _ e (as_text g S all (Dot n ∷ []) (Is Term (Argument n) Done) a (from_prim _ _ _ prim-dot) tt (Term, Argument n, refl, f))
operand_moves g S True y all f a e =
    let w = when_is (fits g Formula S) (Some (Has S (Is Formula Truth Done))) y e in
    moved g _ y _ w.1 (as_text g S all (True ∷ []) (Is Formula Truth Done) a (from_atom _ _ _ atom-true) tt (Formula, Truth, refl, w.0))
operand_moves g S False y all f a e =
    let w = when_is (fits g Formula S) (Some (Has S (Is Formula Falsity Done))) y e in
    moved g _ y _ w.1 (as_text g S all (False ∷ []) (Is Formula Falsity Done) a (from_atom _ _ _ atom-false) tt (Formula, Falsity, refl, w.0))
operand_moves g S Blank y all f a e =
    let w = when_is (fits g Formula S) (Some (Has S (Is Formula Hole Done))) y e in
    moved g _ y _ w.1 (as_text g S all (Blank ∷ []) (Is Formula Hole Done) a (from_atom _ _ _ atom-hole) tt (Formula, Hole, refl, w.0))
operand_moves g S Bang y all f a e =
    let w = when_is (fits g Formula S) (Some (Wants (Before Bang' ∷ S))) y e in
    moved g _ y _ w.1 (before a bang-text (loose_formula g S w.0) w.0)
operand_moves g S All y all f a e =
    let w = when_is (fits g Formula S) (Some (Binds S ForAll)) y e in
    moved g (Binds S ForAll) y _ w.1 (record { front = all; spells = a; fit = w.0; parts = refl })
operand_moves g S Exist y all f a e =
    let w = when_is (fits g Formula S) (Some (Binds S ForSome)) y e in
    moved g (Binds S ForSome) y _ w.1 (record { front = all; spells = a; fit = w.0; parts = refl })
operand_moves g S OpenBox y all f a e =
    let w = when_is (fits g Formula S) (Some (Wants (Inside (In InBox) ∷ S))) y e in
    moved g _ y _ w.1 (inside a (box-text w.0))
operand_moves g S (Op Less) y all f a e =
    let w = when_is (fits g Formula S) (Some (Wants (Inside (In InDia) ∷ S))) y e in
    moved g _ y _ w.1 (inside a (in_dia-text w.0))
operand_moves g S Open y all f a e = moved g _ y _ e (inside a (round-text refl f))
operand_moves g S (Op Sub) y all f a e = moved g _ y _ e (before a minus-text (loose_nine S) f)
operand_moves g S _ y all f a e = absurd cc

pub statement_moves : (g : Sort) (S : List Part) (k : Lexeme) (y : State) (all : List Lexeme) → fits g Program S ≡ true → Spells g S all
    → start_statement S k ≡ Some y → After g y (all ++ k ∷ [])
statement_moves g S (Name n x) y all f a e = moved g (Starts S x) y _ e (n, record { front = all; spells = a; fit = f; parts = refl })
statement_moves g S Query y all f a e = moved g _ y _ e (inside a (tests-text f))
statement_moves g S (OpenBrace n) y all f a e = moved g (Opens S n) y _ e (record { front = all; spells = a; fit = f; parts = refl })
statement_moves g S _ y all f a e = absurd cc

pub wants_moves : (g : Sort) (S : List Part) (k : Lexeme) (y : State) (all : List Lexeme) → Spells g S all → start g S k ≡ Some y → After g y (all ++ k ∷ [])
wants_moves g S k y all a e =
    elim (chosen (program_sort (place g S)) (start_statement S k) (start_operand g S k) (Some y) e) [
      | inl h ↦ statement_moves g S k y all (fits_statement (place g S) h.0) a h.1
      | inr h ↦ operand_moves g S k y all (fits_operand (place g S) h.0) a h.1
    ]

pub reduced_all : (g : Sort) (n : ℕ) (S : List Part) (p : Piece) (all : List Lexeme) (T : List Part) (q : Piece) → HasRead g S p all
    → reduce n S p ≡ Some (T, q) → Reduced g n T q all
reduced_all g n S p all T q h e =
    subst (λ (l : List Lexeme). Reduced g n T q l) (sym h.parts)
    (reduced g n 11 S h.front h.back p T q h.spells h.known (loose_top S) (omega arith) (λ o _. left_of_top o) h.good e)

-- an operator behind an operand
pub operator_spells : (g : Sort) (o : Between) (S : List Part) (p : Piece) (all : List Lexeme) (T : List Part) → HasRead g S p all
    → after_operand g o S p ≡ Some T → Spells g T (all ++ mark o)
operator_spells g o S p all T h e =
    let b = bind_some (reduce (level o) S p) (λ r. as_sort (operand_sort o) r.1 >>= λ a. when (fits g (result_sort o) r.0) (Some (Left o a ∷ r.0))) T e in
    let c = bind_some (as_sort (operand_sort o) b.0.1) (λ a. when (fits g (result_sort o) b.0.0) (Some (Left o a ∷ b.0.0))) T b.2 in
    let w = when_is (fits g (result_sort o) b.0.0) (Some (Left o c.0 ∷ b.0.0)) T c.2 in
    let r = reduced_all g (level o) S p all b.0.0 b.0.1 h b.1 in
    let operand = r.known (left_form o) c.0 (r.left o refl) (subst (λ (k : Sort). as_sort k b.0.1 ≡ Some c.0) (sym (table o).left_sort) c.1) in
    let at : all ++ mark o ≡ r.front ++ (r.back ++ mark o) = ap (λ (l : List Lexeme). l ++ mark o) r.parts ∙ append_assoc r.front r.back (mark o) in
    subst (λ (U : List Part). Spells g U (all ++ mark o)) (some_eq _ T w.1)
    (subst (λ (l : List Lexeme). Spells g (Left o c.0 ∷ b.0.0) l) (sym at) (left r.spells operand r.loose w.0))

pub open_inside : {g : Sort} {S : List Part} {f : List Lexeme} {h : Holder} → Spells g (Inside h ∷ S) f
    → (s k : List Lexeme) × Spells g S s × HolderText g h S k × (f ≡ s ++ k)
open_inside (inside {s = s} {k = k} sp t) = (s, k, sp, t, refl)

-- the text of a holder's whole, from what stands in it
record Whole (g : Sort) (S : List Part) (k r : List Lexeme) (c : Lexeme) (p : Piece) : Type 0 where
  known : Known 11 p (k ++ (r ++ c ∷ []))
  tail : Tailed (tail_of p) p (k ++ (r ++ c ∷ []))
  good : Good g S p

whole_after : (g : Sort) (S : List Part) (s k r : List Lexeme) (c : Lexeme) (p : Piece) (all f : List Lexeme) → Spells g S s → f ≡ s ++ k → all ≡ f ++ r
    → Whole g S k r c p → HasRead g S p (all ++ c ∷ [])
whole_after g S s k r c p all f sp e a w =
    let at : all ++ c ∷ [] ≡ s ++ (k ++ (r ++ c ∷ [])) = ap (λ (l : List Lexeme). l ++ c ∷ []) (a ∙ ap (λ (l : List Lexeme). l ++ r) e) ∙ simp append_assoc in
    subst (λ (l : List Lexeme). HasRead g S p l) (sym at) (as_text g S s (k ++ (r ++ c ∷ [])) p sp w.known w.tail w.good)

wants_after : (g : Sort) (S : List Part) (s k r : List Lexeme) (c : Lexeme) (h : Part) (all f : List Lexeme) → f ≡ s ++ k → all ≡ f ++ r
    → Spells g (h ∷ S) (s ++ (k ++ (r ++ c ∷ []))) → Spells g (h ∷ S) (all ++ c ∷ [])
wants_after g S s k r c h all f e a w =
    let at : all ++ c ∷ [] ≡ s ++ (k ++ (r ++ c ∷ [])) = ap (λ (l : List Lexeme). l ++ c ∷ []) (a ∙ ap (λ (l : List Lexeme). l ++ r) e) ∙ simp append_assoc in
    subst (λ (l : List Lexeme). Spells g (h ∷ S) l) (sym at) w

round_fits : (g : Sort) (S : List Part) (b : Bool) (r : Sort) → b ≡ fits g Formula S → fits g Term S ≡ true → allows (round_sort b) r ≡ true → fits g r S ≡ true
round_fits g S true Term e f h = f
round_fits g S true Formula e f h = sym e
round_fits g S true Program e f h = absurd cc
round_fits g S false Term e f h = f
round_fits g S false Formula e f h = absurd cc
round_fits g S false Program e f h = absurd cc

good_settled : (g : Sort) (b : Bool) (S : List Part) (q : Piece) (l : Tail) → b ≡ fits g Formula S → fits g Term S ≡ true → Good g (Inside (Round b) ∷ S) q
    → Good g S (with_tail l q)
good_settled g b S q l e f o = (o.0, o.1, settled_sort o.0 q l ∙ o.2, round_fits g S b o.0 e f o.3)

pub piece_kind : (r : Sort) (q : Piece) (t : Phrase) → as_sort r q ≡ Some t → is_program q ≡ program_sort r
piece_kind Term (Is Term t l) u e = refl
piece_kind Formula (Is Formula t l) u e = refl
piece_kind Program (Is Program t l) u e = refl
piece_kind Term (Symbol x n l) u e = refl
piece_kind Formula (Symbol x n l) u e = refl
piece_kind Program (Symbol x n l) u e = absurd cc
piece_kind Term (Is Formula t l) u e = absurd cc
piece_kind Term (Is Program t l) u e = absurd cc
piece_kind Formula (Is Term t l) u e = absurd cc
piece_kind Formula (Is Program t l) u e = absurd cc
piece_kind Program (Is Term t l) u e = absurd cc
piece_kind Program (Is Formula t l) u e = absurd cc

round_kind : (b : Bool) → program_sort (round_sort b) ≡ false
round_kind true = refl
round_kind false = refl

good_kind : (g : Sort) (b : Bool) (S : List Part) (q : Piece) → Good g (Inside (Round b) ∷ S) q → is_program q ≡ false
good_kind g b S q o = piece_kind o.0 q o.1 o.2 ∙ sym (place_kind (round_sort b) o.0 o.3) ∙ round_kind b

grouped_tail : (q : Piece) (k : Tail) (r : List Lexeme) → Tailed k (with_tail k q) r → Tailed (tail_of (with_tail k q)) (with_tail k q) r
grouped_tail q k r t = subst (λ (l : Tail). Tailed l (with_tail k q) r) (sym (settled_tail q k)) t

round_known : (q : Piece) (n : ℕ) (r : List Lexeme) → 1 ≤ n → is_program q ≡ false → Known n q r → Known 11 (with_tail Grouped q) (Open ∷ (r ++ Close ∷ []))
round_known q n r h i k = known_from (with_tail Grouped q) (Open ∷ (r ++ Close ∷ []))
    (λ t e. prim-bracket (k term t (omega arith) (sym (settled_sort Term q Grouped) ∙ e)))
    (λ t e. atom-bracket (k formula t h (sym (settled_sort Formula q Grouped) ∙ e)))
    (λ t e. absurd (let w = not_program q i in let v : as_sort Program q ≡ Some t = sym (settled_sort Program q Grouped) ∙ e in cc))

pub midway_text : (g : Sort) (S : List Part) (own : List Lexeme) (r : Sort) (all : List Lexeme) (k : Lexeme) (p : Piece) (a : Midway g S own r all)
    → Known 11 p (own ++ k ∷ []) → Tailed (tail_of p) p (own ++ k ∷ []) → Good g S p → HasRead g S p (all ++ k ∷ [])
midway_text g S own r all k p a kn t o =
    let at : all ++ k ∷ [] ≡ a.front ++ (own ++ k ∷ []) = ap (λ (l : List Lexeme). l ++ k ∷ []) a.parts ∙ append_assoc a.front own (k ∷ []) in
    subst (λ (l : List Lexeme). HasRead g S p l) (sym at) (as_text g S a.front (own ++ k ∷ []) p a.spells kn t o)

pub midway_spells : (g : Sort) (S T : List Part) (own : List Lexeme) (r : Sort) (all : List Lexeme) (k : Lexeme) (a : Midway g S own r all)
    → Spells g T (a.front ++ (own ++ k ∷ [])) → Spells g T (all ++ k ∷ [])
midway_spells g S T own r all k a sp =
    let at : all ++ k ∷ [] ≡ a.front ++ (own ++ k ∷ []) = ap (λ (l : List Lexeme). l ++ k ∷ []) a.parts ∙ append_assoc a.front own (k ∷ []) in
    subst (λ (l : List Lexeme). Spells g T l) (sym at) sp

-- one more token of its own
pub midway_more : (g : Sort) (S : List Part) (own : List Lexeme) (r : Sort) (all : List Lexeme) (k : Lexeme) → Midway g S own r all
    → Midway g S (own ++ k ∷ []) r (all ++ k ∷ [])
midway_more g S own r all k a = record {
  front = a.front;
  spells = a.spells;
  fit = a.fit;
  parts = ap (λ (l : List Lexeme). l ++ k ∷ []) a.parts ∙ append_assoc a.front own (k ∷ []);
}

pub midway_same : (g : Sort) (S : List Part) (own new : List Lexeme) (r : Sort) (all : List Lexeme) → own ≡ new → Midway g S own r all → Midway g S new r all
midway_same g S own new r all e a = subst (λ (l : List Lexeme). Midway g S l r all) e a

from_brace : (t : Phrase) (s : List Lexeme) → ReadsBrace s t → Known 11 (Is Program t Braced) s
from_brace t s d = from_stmt t Braced s (end_stmt (end_note (note_brace d)))

-- a token behind whole items
pub items_moves : (g : Sort) (S : List Part) (n : ℕ) (l : Items) (k : Lexeme) (y : State) (all s : List Lexeme) → ReadsItems s l
    → Midway g S (OpenBrace n ∷ s) Program all → items_step S n l k ≡ Some y → After g y (all ++ k ∷ [])
items_moves g S n l Comma y all s d a e =
    moved g (WantsItem S n l) y _ e (s ++ Comma ∷ [], items-go_on d, midway_more g S (OpenBrace n ∷ s) Program all Comma a)
items_moves g S n l (Op And) y all s d a e =
    moved g (Wants (Inside (Domain n l) ∷ S)) y _ e
    (midway_spells g S (Inside (Domain n l) ∷ S) (OpenBrace n ∷ s) Program all (Op And) a (inside a.spells (domain-text d a.fit)))
items_moves g S n l CloseBrace y all s d a e =
    let b : ReadsBrace (OpenBrace n ∷ (s ++ CloseBrace ∷ [])) (System n l Truth) = brace-items d in
    moved g (Has S (Is Program (System n l Truth) Braced)) y _ e
    (midway_text g S (OpenBrace n ∷ s) Program all CloseBrace (Is Program (System n l Truth) Braced) a (from_brace _ _ b) (System n l Truth, b, refl)
    (Program, System n l Truth, refl, a.fit))
items_moves g S n l _ y all s d a e = absurd cc

evolve_text : (n m : ℕ) (x : Word) (s k r f all : List Lexeme) → f ≡ s ++ (OpenBrace n ∷ (k ++ Name m x ∷ Prime ∷ Op Equal ∷ [])) → all ≡ f ++ r
    → all ≡ s ++ (OpenBrace n ∷ (k ++ Name m x ∷ Prime ∷ Op Equal ∷ r))
evolve_text n m x s k r f all e a = a ∙ ap (λ (l : List Lexeme). l ++ r) e ∙ simp append_assoc

evolve_moves : {g : Sort} {S : List Part} {n : ℕ} {l : Items} {x : Word} {k : List Lexeme} → HolderText g (Evolves n l x) S k
    → (c : Lexeme) (y : State) (all s r f : List Lexeme) (t : Phrase) → Spells g S s → f ≡ s ++ k → all ≡ f ++ r → Reads term r t
    → items_step S n (add l (Evolve x t)) c ≡ Some y → After g y (all ++ c ∷ [])
evolve_moves {g = g} {S = S} {n = n} {l = l} {x = x} (evolves-text {k = k} m b fit) c y all s r f t sp e a d u =
    items_moves g S n (add l (Evolve x t)) c y all (k ++ Name m x ∷ Prime ∷ Op Equal ∷ r) (items_joined b (item-evolve d))
    (record { front = s; spells = sp; fit = fit; parts = evolve_text n m x s k r f all e a }) u

pub close_moves : (g : Sort) (c : Lexeme) (h : Holder) (S : List Part) (q : Piece) (y : State) (all s k r : List Lexeme) (f : List Lexeme) (n : ℕ)
    → Spells g S s → HolderText g h S k → f ≡ s ++ k → all ≡ f ++ r → Known n q r → 1 ≤ n → Good g (Inside h ∷ S) q → close c h S q ≡ Some y
    → After g y (all ++ c ∷ [])
close_moves g c (Evolves m l x) S q y all s k r f n sp text e a known low good u =
    let b = bind_some (as_sort Term q) (λ t. items_step S m (add l (Evolve x t)) c) y u in
    evolve_moves text c y all s r f b.0 sp e a (known term b.0 (omega arith) b.1) b.2
close_moves g Close (Round b) S q y all s k r f n sp (round-text same fit) e a known low good u =
    let i = good_kind g b S q good in
    moved g (Has S (with_tail Grouped q)) y _ u (whole_after g S s (Open ∷ []) r Close (with_tail Grouped q) all f sp e a (record {
      known = round_known q n r low i known;
      tail =
          grouped_tail q Grouped (Open ∷ (r ++ Close ∷ [])) (
            r,
            refl,
            (λ t h. known term t (omega arith) (sym (settled_sort Term q Grouped) ∙ h)),
            (λ t h. known formula t low (sym (settled_sort Formula q Grouped) ∙ h)),
            settled_program q Grouped ∙ i,
          );
      good = good_settled g b S q Grouped same fit good;
    }))
close_moves g Close (Args m x l) S q y all s k r f n sp (args-text {k = j} begun fit) e a known low good u =
    let b = bind_some (as_sort Term q) (λ t. Some (Has S (Symbol (Call m x (snoc l t)) 0 Done))) y u in
    let d = list_joined begun r b.0 (known term b.0 (omega arith) b.1) in
    let at : (Name m x ∷ Open ∷ j) ++ (r ++ Close ∷ []) ≡ Name m x ∷ Open ∷ ((j ++ r) ++ Close ∷ []) =
    ap (λ (z : List Lexeme). Name m x ∷ Open ∷ z) (sym (append_assoc j r (Close ∷ []))) in
    moved g (Has S (Symbol (Call m x (snoc l b.0)) 0 Done)) y _ b.2
    (whole_after g S s (Name m x ∷ Open ∷ j) r Close (Symbol (Call m x (snoc l b.0)) 0 Done) all f sp e a (record {
      known =
          subst (λ (z : List Lexeme). Known 11 (Symbol (Call m x (snoc l b.0)) 0 Done) z) (sym at)
          (from_symbol (Call m x (snoc l b.0)) _ (prim-apply d) (atom-holds d));
      tail = tt;
      good = (Term, Apply (Call m x (snoc l b.0)), refl, fit);
    }))
close_moves g Comma (Args m x l) S q y all s k r f n sp (args-text {k = j} begun fit) e a known low good u =
    let b = bind_some (as_sort Term q) (λ t. Some (Wants (Inside (Args m x (snoc l t)) ∷ S))) y u in
    let d = list_joined begun r b.0 (known term b.0 (omega arith) b.1) in
    let at : (Name m x ∷ Open ∷ j) ++ (r ++ Comma ∷ []) ≡ Name m x ∷ Open ∷ ((j ++ r) ++ Comma ∷ []) =
    ap (λ (z : List Lexeme). Name m x ∷ Open ∷ z) (sym (append_assoc j r (Comma ∷ []))) in
    moved g (Wants (Inside (Args m x (snoc l b.0)) ∷ S)) y _ b.2 (wants_after g S s (Name m x ∷ Open ∷ j) r Comma (Inside (Args m x (snoc l b.0))) all f e a
    (subst (λ (z : List Lexeme). Spells g (Inside (Args m x (snoc l b.0)) ∷ S) (s ++ z)) (sym at) (inside sp (args-text (list-goes_on d) fit))))
close_moves g CloseBrace (InContext x) S q y all s k r f n sp (context-text {n = i} {m = j} fit) e a known low good u =
    let b = bind_some (as_sort Formula q) (λ t. Some (Has S (Is Formula (Context x t) Done))) y u in
    moved g (Has S (Is Formula (Context x b.0) Done)) y _ b.2
    (whole_after g S s (Name i x ∷ OpenBrace j ∷ []) r CloseBrace (Is Formula (Context x b.0) Done) all f sp e a (record {
      known = from_atom (Context x b.0) Done _ (atom-context (known formula b.0 low b.1));
      tail = tt;
      good = (Formula, Context x b.0, refl, fit);
    }))
close_moves g CloseBox (In InBox) S q y all s k r f n sp (box-text fit) e a known low good u =
    let b = bind_some (as_sort Program q) (λ t. Some (Wants (Before (Modal InBox t) ∷ S))) y u in
    moved g (Wants (Before (Modal InBox b.0) ∷ S)) y _ b.2 (wants_after g S s (OpenBox ∷ []) r CloseBox (Before (Modal InBox b.0)) all f e a
    (before sp (boxed-text (known prog b.0 low b.1)) (loose_formula g S fit) fit))
close_moves g (Op Greater) (In InDia) S q y all s k r f n sp (in_dia-text fit) e a known low good u =
    let b = bind_some (as_sort Program q) (λ t. Some (Wants (Before (Modal InDia t) ∷ S))) y u in
    moved g (Wants (Before (Modal InDia b.0) ∷ S)) y _ b.2 (wants_after g S s (Op Less ∷ []) r (Op Greater) (Before (Modal InDia b.0)) all f e a
    (before sp (dia-text (known prog b.0 low b.1)) (loose_formula g S fit) fit))
close_moves g CloseBrace InBrace S q y all s k r f n sp (brace-text {n = i} fit) e a known low good u =
    let b = bind_some (as_sort Program q) (λ t. Some (Has S (Is Program t Braced))) y u in
    let d : ReadsBrace (OpenBrace i ∷ (r ++ CloseBrace ∷ [])) b.0 = brace-prog (known prog b.0 low b.1) in
    moved g (Has S (Is Program b.0 Braced)) y _ b.2 (whole_after g S s (OpenBrace i ∷ []) r CloseBrace (Is Program b.0 Braced) all f sp e a (record {
      known = from_brace b.0 _ d;
      tail = (b.0, d, refl);
      good = (Program, b.0, refl, fit);
    }))
close_moves g Semi (Assigns x false) S q y all s k r f n sp (assigns-text {n = i} fit) e a known low good u =
    let b = bind_some (as_sort Term q) (λ t. Some (Has S (Is Program (Assign x false t) Done))) y u in
    moved g (Has S (Is Program (Assign x false b.0) Done)) y _ b.2
    (whole_after g S s (Name i x ∷ Gets ∷ []) r Semi (Is Program (Assign x false b.0) Done) all f sp e a (record {
      known = from_stmt (Assign x false b.0) Done _ (stmt-assign (known term b.0 (omega arith) b.1));
      tail = tt;
      good = (Program, Assign x false b.0, refl, fit);
    }))
close_moves g Semi (Assigns x true) S q y all s k r f n sp (assigns_prime-text {n = i} fit) e a known low good u =
    let b = bind_some (as_sort Term q) (λ t. Some (Has S (Is Program (Assign x true t) Done))) y u in
    moved g (Has S (Is Program (Assign x true b.0) Done)) y _ b.2
    (whole_after g S s (Name i x ∷ Prime ∷ Gets ∷ []) r Semi (Is Program (Assign x true b.0) Done) all f sp e a (record {
      known = from_stmt (Assign x true b.0) Done _ (stmt-assign_prime (known term b.0 (omega arith) b.1));
      tail = tt;
      good = (Program, Assign x true b.0, refl, fit);
    }))
close_moves g Semi Tests S q y all s k r f n sp (tests-text fit) e a known low good u =
    let b = bind_some (as_sort Formula q) (λ t. Some (Has S (Is Program (Test t) Done))) y u in
    moved g (Has S (Is Program (Test b.0) Done)) y _ b.2 (whole_after g S s (Query ∷ []) r Semi (Is Program (Test b.0) Done) all f sp e a (record {
      known = from_stmt (Test b.0) Done _ (stmt-test (known formula b.0 low b.1));
      tail = tt;
      good = (Program, Test b.0, refl, fit);
    }))
close_moves g CloseBrace (Domain i l) S q y all s k r f n sp (domain-text {s = j} items fit) e a known low good u =
    let b = bind_some (as_sort Formula q) (λ t. Some (Has S (Is Program (System i l t) Braced))) y u in
    let d : ReadsBrace (OpenBrace i ∷ (j ++ Op And ∷ (r ++ CloseBrace ∷ []))) (System i l b.0) = brace-domain items (known formula b.0 low b.1) in
    let d' : ReadsBrace ((OpenBrace i ∷ (j ++ Op And ∷ [])) ++ (r ++ CloseBrace ∷ [])) (System i l b.0) =
    subst (λ (z : List Lexeme). ReadsBrace (OpenBrace i ∷ z) (System i l b.0)) (sym (append_assoc j (Op And ∷ []) (r ++ CloseBrace ∷ []))) d in
    moved g (Has S (Is Program (System i l b.0) Braced)) y _ b.2
    (whole_after g S s (OpenBrace i ∷ (j ++ Op And ∷ [])) r CloseBrace (Is Program (System i l b.0) Braced) all f sp e a (record {
      known = from_brace (System i l b.0) _ d';
      tail = (System i l b.0, d', refl);
      good = (Program, System i l b.0, refl, fit);
    }))
close_moves g Close (Notes p l) S q y all s k r f n sp (notes-text {k = j} note begun fit) e a known low good u =
    let b = bind_some (as_sort Formula q) (λ t. Some (Has S (Is Program (Noted p (snoc l t)) Annotated))) y u in
    let d = end_invariants note begun r b.0 (known formula b.0 low b.1) in
    moved g (Has S (Is Program (Noted p (snoc l b.0)) Annotated)) y _ b.2
    (whole_after g S s _ r Close (Is Program (Noted p (snoc l b.0)) Annotated) all f sp e a (record {
      known = from_stmt (Noted p (snoc l b.0)) Annotated _ (end_stmt d);
      tail = (Noted p (snoc l b.0), d, refl);
      good = (Program, Noted p (snoc l b.0), refl, fit);
    }))
close_moves g Comma (Notes p l) S q y all s k r f n sp (notes-text {r = i} {k = j} note begun fit) e a known low good u =
    let b = bind_some (as_sort Formula q) (λ t. Some (Wants (Inside (Notes p (snoc l t)) ∷ S))) y u in
    let d = list_joined begun r b.0 (known formula b.0 low b.1) in
    let at : (i ++ Invariant ∷ Open ∷ j) ++ (r ++ Comma ∷ []) ≡ i ++ Invariant ∷ Open ∷ ((j ++ r) ++ Comma ∷ []) = simp append_assoc in
    moved g (Wants (Inside (Notes p (snoc l b.0)) ∷ S)) y _ b.2 (wants_after g S s (i ++ Invariant ∷ Open ∷ j) r Comma (Inside (Notes p (snoc l b.0))) all f e a
    (subst (λ (z : List Lexeme). Spells g (Inside (Notes p (snoc l b.0)) ∷ S) (s ++ z)) (sym at) (inside sp (notes-text note (list-goes_on d) fit))))
close_moves g _ _ S q y all s k r f n sp text e a known low good u = absurd cc

close_top_moves : (g : Sort) (c : Lexeme) (T : List Part) (q : Piece) (y : State) (all : List Lexeme) → Reduced g 0 T q all → close_top c T q ≡ Some y
    → After g y (all ++ c ∷ [])
close_top_moves g c [] q y all r e = absurd cc
close_top_moves g c (Left o a ∷ S) q y all r e = absurd cc
close_top_moves g c (Before o ∷ S) q y all r e = absurd cc
close_top_moves g c (Inside h ∷ S) q y all r e =
    let o = open_inside r.spells in
    close_moves g c h S q y all o.0 o.1 r.back r.front r.height o.2 o.3 o.4 r.parts r.known r.some r.good e

pub closing_moves : (g : Sort) (c : Lexeme) (S : List Part) (p : Piece) (y : State) (all : List Lexeme) → HasRead g S p all → closing c S p ≡ Some y
    → After g y (all ++ c ∷ [])
closing_moves g c S p y all h e =
    let b = bind_some (reduce 0 S p) (λ r. close_top c r.0 r.1) y e in
    close_top_moves g c b.0.0 b.0.1 y all (reduced_all g 0 S p all b.0.0 b.0.1 h b.1) b.2
