-- What is in the grammar is read, whatever stands behind it.
use Rattle.std.proofs.Common.{◌≡◌, ℕ, true, false, List, [], ◌∷◌, ◌++◌, Option, Some, refl, sym, ap, subst, ◌∙◌, append_assoc, arith}
use Rattle.std.proofs.lemmas.List.{append-nil}
use Rattle.dlk_grammar.specs.declared.token.Infix.{Infix}
use Rattle.dlk_grammar.specs.declared.token.Infix.TheVariants.{Equiv, Imply, Or, And, Equal, NotEqual, AtLeast, Greater, AtMost, Less, Add, Sub, Mul}
use Rattle.dlk_grammar.specs.declared.token.Infix.TheVariants.{Div, Pow, Choice}
use Rattle.dlk_grammar.specs.Lexemes.{Word, Lexeme, Name, Number, Dot, Blank, True, False, All, Exist, Invariant, RoundBars, RoundBar, BarRound, Open}
use Rattle.dlk_grammar.specs.Lexemes.{Close, OpenBox, CloseBox, OpenBrace, CloseBrace, Bang, Prime, Gets, Query, Semi, Comma, Op}
use Rattle.dlk_grammar.specs.Phrases.{Everywhere, Except, Phrase, Literal, Argument, Variable, Apply, Diff, Truth, Falsity, Hole, Holds, DiffF, Const}
use Rattle.dlk_grammar.specs.Phrases.{Assign, AssignAny, Test, System, Noted, Phrases, none, Call, Any, Item, Evolve, Flow, Items, no_items, add}
use Rattle.dlk_grammar.specs.Grammar.{Nonterminal, formula, imp, disj, conj, unf, atom, term, mul, neg, pow, prim, prog, seq, stmt, Reads}
use Rattle.dlk_grammar.specs.Grammar.{formula-imp, formula-equiv, imp-disj, imp-imply, disj-conj, disj-or, conj-unf, conj-and, unf-not, unf-forall}
use Rattle.dlk_grammar.specs.Grammar.{unf-exists, unf-box, unf-dia, unf-atom, atom-true, atom-false, atom-hole, atom-compare, atom-nullary}
use Rattle.dlk_grammar.specs.Grammar.{atom-holds, atom-any, atom-except, atom-context, atom-bracket, atom-diff, term-mul, term-add, term-sub, mul-neg}
use Rattle.dlk_grammar.specs.Grammar.{mul-times, mul-over, neg-pow, neg-minus, pow-prim, pow-power, prim-number, prim-dot, prim-name, prim-primed}
use Rattle.dlk_grammar.specs.Grammar.{prim-nullary, prim-apply, prim-any, prim-except, prim-bracket, prim-diff, prog-seq, prog-choice, seq-stmt}
use Rattle.dlk_grammar.specs.Grammar.{seq-then, stmt-const, stmt-assign, stmt-assign_prime, stmt-any, stmt-test, stmt-group, Compares, cmp-equal}
use Rattle.dlk_grammar.specs.Grammar.{cmp-not_equal, cmp-at_least, cmp-greater, cmp-at_most, cmp-less, ReadsList, list-one, list-more, ReadsBrace}
use Rattle.dlk_grammar.specs.Grammar.{brace-prog, brace-items, brace-domain, ReadsItems, items-one, items-more, ReadsItem, item-evolve, item-flow}
use Rattle.dlk_grammar.specs.Grammar.{item-except, ReadsStar, star-none, star-loop, ReadsInv, inv-none, inv-some, ReadsSemi, semi-none, semi-some}
use Rattle.dlk_tree.specs.declared.op.Sort.{Sort}
use Rattle.dlk_tree.specs.declared.op.Sort.TheVariants.{Term, Formula, Program}
use Rattle.dlk_machine.specs.Levels.{form_level, form_sort, top}
use Rattle.dlk_machine.specs.Machine.{◌>>=◌, By, Next, ForAll, ForSome, InBox, InDia, Minus, Bang', Bound, Modal, Holder, Round, Args, InContext, In}
use Rattle.dlk_machine.specs.Machine.{InBrace, Assigns, Tests, Evolves, Domain, Notes, Part, Left, Before, Inside, right_level, operand_sort, Tail}
use Rattle.dlk_machine.specs.Machine.{Done, Bare, Grouped, Braced, Starred, Annotated, Piece, Is, State, Wants, Has, Binds, Starts, Opens, WantsItem}
use Rattle.dlk_machine.specs.Machine.{as_sort, is_program, reduce, place, allows, fits, items_step, close, item_name_step, opens_name_step, step}
use Rattle.dlk_machine.specs.Machine.{ended}
use Rattle.dlk_machine.specs.Parse.{reader}
use Rattle.dlk_machine.proofs.Opening.{states}
use Rattle.dlk_machine.proofs.Firsts.{first, first_list}
use Rattle.dlk_machine.proofs.OpenParts.{Tight, Loose, arrive, fold, Tight-less, reduce-tight, Loose-more, Ends, Lists, EndsList, up, single}
use Rattle.dlk_machine.proofs.OpenParts.{operand_wanted, statement_wanted, Fitting, fitting, met, both, go, binary_ends, before, other_step}
use Rattle.dlk_machine.proofs.OpenParts.{program_step, closing_raw, gets_run, next_run, opens_run, round_term, held, bracket, primed_term}
use Rattle.dlk_machine.proofs.OpenParts.{primed_formula, diffed, list_held, called, symbol, list_first, list_next, args_lists, notes_lists, statement}
use Rattle.dlk_machine.proofs.OpenParts.{modal, context}

-- the tokens that end an item
pub data EndsItem : Lexeme → Type 0 where
  item-comma : EndsItem Comma
  item-and : EndsItem (Op And)
  item-brace : EndsItem CloseBrace

-- what is read from a state on, where the state is a step's
abbrev pub run_from : Sort → Option State → List Lexeme → Option State
run_from g o rest = o >>= λ y. arrive g y rest

-- the token that ends an item, behind its term
evolve_step : (g : Sort) (S : List Part) (n : ℕ) (l : Items) (x : Word) (F : List Part) (last value : Piece) {k : Lexeme} → EndsItem k
    → is_program last ≡ false → Tight 7 F → fold F last ≡ Some value → step g (Has (F ++ Inside (Evolves n l x) ∷ S) last) k ≡ close k (Evolves n l x) S value
evolve_step g S n l x F last value item-comma e t f =
    other_step g (F ++ Inside (Evolves n l x) ∷ S) last Comma e ∙ closing_raw F last value (Evolves n l x) S Comma (Tight-less 0 7 F (omega arith) t) f
evolve_step g S n l x F last value item-brace e t f =
    other_step g (F ++ Inside (Evolves n l x) ∷ S) last CloseBrace e
    ∙ closing_raw F last value (Evolves n l x) S CloseBrace (Tight-less 0 7 F (omega arith) t) f
evolve_step g S n l x F last value item-and e t f =
    let reduced : reduce 4 (F ++ Inside (Evolves n l x) ∷ S) last ≡ Some (Inside (Evolves n l x) ∷ S, value) =
    reduce-tight 4 F (Inside (Evolves n l x) ∷ S) last value (Tight-less 4 7 F (omega arith) t) f in
    other_step g (F ++ Inside (Evolves n l x) ∷ S) last (Op And) e ∙ rw reduced refl

evolve_ends : (g : Sort) (S : List Part) (n : ℕ) (l : Items) (x : Word) (s : List Lexeme) (a : Phrase) {k : Lexeme} (c : EndsItem k)
    → Ends g (Inside (Evolves n l x) ∷ S) s term a → (rest : List Lexeme)
    → arrive g (Wants (Inside (Evolves n l x) ∷ S)) (s ++ (k ∷ rest)) ≡ run_from g (items_step S n (add l (Evolve x a)) k) rest
evolve_ends g S n l x s a {k} c y rest =
    let e : step g (Has (y.parts ++ Inside (Evolves n l x) ∷ S) y.last) k ≡ items_step S n (add l (Evolve x a)) k =
    evolve_step g S n l x y.parts y.last y.value c y.kind y.tight y.folds
    ∙ ap (λ (o : Option Phrase). o >>= λ t. items_step S n (add l (Evolve x t)) k) y.tree in
    y.runs (k ∷ rest) ∙ ap (λ (o : Option State). run_from g o rest) e

flow_ends : (g : Sort) (S : List Part) (n : ℕ) (l : Items) (x : Word) {k : Lexeme} → EndsItem k
    → item_name_step S n l x k ≡ items_step S n (add l (Flow x Everywhere)) k
flow_ends g S n l x item-comma = refl
flow_ends g S n l x item-and = refl
flow_ends g S n l x item-brace = refl

flow_opens : (g : Sort) (S : List Part) (n : ℕ) (x : Word) {k : Lexeme} → EndsItem k → opens_name_step S n x k ≡ item_name_step S n no_items x k
flow_opens g S n x item-comma = refl
flow_opens g S n x item-and = refl
flow_opens g S n x item-brace = refl

-- the first item behind a brace, where a program could stand too
item_opens : {s : List Lexeme} {i : Item} → ReadsItem s i → (g : Sort) (S : List Part) (n : ℕ) {k : Lexeme} → EndsItem k → (rest : List Lexeme)
    → arrive g (Opens S n) (s ++ (k ∷ rest)) ≡ arrive g (WantsItem S n no_items) (s ++ (k ∷ rest))
item_opens (item-evolve d) g S n c rest = refl
item_opens (item-flow {x = x}) g S n c rest = ap (λ (o : Option State). run_from g o rest) (flow_opens g S n x c)
item_opens item-except g S n c rest = refl

items_open : {s : List Lexeme} {l : Items} → ReadsItems s l → (g : Sort) (S : List Part) (n : ℕ) {k : Lexeme} → EndsItem k → (rest : List Lexeme)
    → arrive g (Opens S n) (s ++ (k ∷ rest)) ≡ arrive g (WantsItem S n no_items) (s ++ (k ∷ rest))
items_open (items-one d) g S n c rest = item_opens d g S n c rest
items_open (items-more {s = s} {r = r} d e) g S n {k} c rest =
    let at : (s ++ Comma ∷ r) ++ (k ∷ rest) ≡ s ++ (Comma ∷ (r ++ (k ∷ rest))) = append_assoc s (Comma ∷ r) (k ∷ rest) in
    ap (arrive g (Opens S n)) at ∙ items_open d g S n item-comma (r ++ (k ∷ rest)) ∙ ap (arrive g (WantsItem S n no_items)) (sym at)

-- after which a star, an invariant or a semicolon may come
pub data MayNote : Tail → Type 0 where
  note-braced : MayNote Braced
  note-starred : MayNote Starred

pub data MayEnd : Tail → Type 0 where
  end-braced : MayEnd Braced
  end-starred : MayEnd Starred
  end-annotated : MayEnd Annotated

may_end : {l : Tail} → MayNote l → MayEnd l
may_end note-braced = end-braced
may_end note-starred = end-starred

star_ends : {q : List Lexeme} {a b : Phrase} → ReadsStar q a b → (g : Sort) (S : List Part)
    → (l : Tail) × MayNote l × ((rest : List Lexeme) → arrive g (Has S (Is Program a Braced)) (q ++ rest) ≡ arrive g (Has S (Is Program b l)) rest)
star_ends star-none g S = (Braced, note-braced, λ rest. refl)
star_ends star-loop g S = (Starred, note-starred, λ rest. refl)

invariant_run : {l : Tail} → MayNote l → (g : Sort) (S : List Part) (a : Phrase) (rest : List Lexeme)
    → arrive g (Has S (Is Program a l)) (Invariant ∷ Open ∷ rest) ≡ arrive g (Wants (Inside (Notes a none) ∷ S)) rest
invariant_run note-braced g S a rest = refl
invariant_run note-starred g S a rest = refl

notes_end : {l : Tail} → MayNote l → (g : Sort) (S : List Part) (a : Phrase) (s : List Lexeme) (m : Phrases) → EndsList g (Notes a) formula S s m
    → (rest : List Lexeme)
    → arrive g (Has S (Is Program a l)) ((Invariant ∷ Open ∷ (s ++ Close ∷ [])) ++ rest) ≡ arrive g (Has S (Is Program (Noted a m) Annotated)) rest
notes_end c g S a s m y rest =
    let closed : close Close (Notes a y.front) S y.value ≡ Some (Has S (Is Program (Noted a m) Annotated)) =
    rw y.is (ap (λ (z : Phrases). Some (Has S (Is Program (Noted a z) Annotated))) y.list) in
    invariant_run c g S a ((s ++ Close ∷ []) ++ rest) ∙ ap (arrive g (Wants (Inside (Notes a none) ∷ S))) (append_assoc s (Close ∷ []) rest)
    ∙ list_held g (Notes a) formula S s m Close (Has S (Is Program (Noted a m) Annotated)) y (λ T p e. other_step g T p Close e) closed rest

semi_ends : {e : List Lexeme} → ReadsSemi e → {l : Tail} → MayEnd l → (g : Sort) (S : List Part) (a : Phrase)
    → (m : Tail) × ((rest : List Lexeme) → arrive g (Has S (Is Program a l)) (e ++ rest) ≡ arrive g (Has S (Is Program a m)) rest)
semi_ends semi-none {l} c g S a = (l, λ rest. refl)
semi_ends semi-some end-braced g S a = (Done, λ rest. refl)
semi_ends semi-some end-starred g S a = (Done, λ rest. refl)
semi_ends semi-some end-annotated g S a = (Done, λ rest. refl)

formula_allows : (p : Sort) → allows p Formula ≡ true → allows p Term ≡ true
formula_allows Term e = refl
formula_allows Formula e = refl
formula_allows Program e = absurd cc

formula_term : (g : Sort) (S : List Part) → fits g Formula S ≡ true → fits g Term S ≡ true
formula_term g S f = formula_allows (place g S) f

pub top_sort : (g : Sort) → form_sort (top g) ≡ g
top_sort Term = refl
top_sort Formula = refl
top_sort Program = refl

compare_fits : {o : Infix} → Compares o → Fitting (By o) atom term term
compare_fits cmp-equal = fitting Equal
compare_fits cmp-not_equal = fitting NotEqual
compare_fits cmp-at_least = fitting AtLeast
compare_fits cmp-greater = fitting Greater
compare_fits cmp-at_most = fitting AtMost
compare_fits cmp-less = fitting Less

compare_right : {o : Infix} → Compares o → right_level (By o) ≡ 7
compare_right cmp-equal = refl
compare_right cmp-not_equal = refl
compare_right cmp-at_least = refl
compare_right cmp-greater = refl
compare_right cmp-at_most = refl
compare_right cmp-less = refl

compare_operand : {o : Infix} → Compares o → operand_sort (By o) ≡ Term
compare_operand cmp-equal = refl
compare_operand cmp-not_equal = refl
compare_operand cmp-at_least = refl
compare_operand cmp-greater = refl
compare_operand cmp-at_most = refl
compare_operand cmp-less = refl

four_parts : (s q i e rest : List Lexeme) → (s ++ (q ++ (i ++ e))) ++ rest ≡ s ++ (q ++ (i ++ (e ++ rest)))
four_parts s q i e rest = simp append_assoc

mutual
  -- From a state that wants an operand of the level, a text of a nonterminal is read as its tree.
  pub only : {n : Nonterminal} {s : List Lexeme} {t : Phrase} → Reads n s t → (g : Sort) (S : List Part) → Loose (form_level n) S
      → fits g (form_sort n) S ≡ true → Ends g S s n t
  only (formula-imp d) g S l f = up g S _ imp formula _ refl (omega arith) (only d g S (Loose-more _ _ S (omega arith) l) f)
  only (formula-equiv d e) g S l f =
      binary_ends g S _ _ Equiv formula imp formula _ _ (fitting Equiv) l f
      (only d g S (Loose-more _ _ S (omega arith) l) f) (only e g _ (omega arith) refl)
  only (imp-disj d) g S l f = up g S _ disj imp _ refl (omega arith) (only d g S (Loose-more _ _ S (omega arith) l) f)
  only (imp-imply d e) g S l f =
      binary_ends g S _ _ Imply imp disj imp _ _ (fitting Imply) l f
      (only d g S (Loose-more _ _ S (omega arith) l) f) (only e g _ (omega arith) refl)
  only (disj-conj d) g S l f = up g S _ conj disj _ refl (omega arith) (only d g S (Loose-more _ _ S (omega arith) l) f)
  only (disj-or d e) g S l f =
      binary_ends g S _ _ Or disj conj disj _ _ (fitting Or) l f
      (only d g S (Loose-more _ _ S (omega arith) l) f) (only e g _ (omega arith) refl)
  only (conj-unf d) g S l f = up g S _ unf conj _ refl (omega arith) (only d g S (Loose-more _ _ S (omega arith) l) f)
  only (conj-and d e) g S l f =
      binary_ends g S _ _ And conj unf conj _ _ (fitting And) l f
      (only d g S (Loose-more _ _ S (omega arith) l) f) (only e g _ (omega arith) refl)
  only (unf-not d) g S l f =
      before g S (Bang ∷ []) _ Bang' unf _ refl (omega arith)
      (λ rest. go g (Wants S) Bang rest (Wants (Before Bang' ∷ S)) (operand_wanted g Formula S Bang refl f ∙ rw f refl)) (only d g _ (omega arith) refl)
  only (unf-forall {n = n} {x = x} d) g S l f =
      before g S (All ∷ Name n x ∷ []) _ (Bound ForAll x) unf _ refl (omega arith)
      (λ rest. go g (Wants S) All (Name n x ∷ rest) (Binds S ForAll) (operand_wanted g Formula S All refl f ∙ rw f refl)) (only d g _ (omega arith) refl)
  only (unf-exists {n = n} {x = x} d) g S l f =
      before g S (Exist ∷ Name n x ∷ []) _ (Bound ForSome x) unf _ refl (omega arith)
      (λ rest. go g (Wants S) Exist (Name n x ∷ rest) (Binds S ForSome) (operand_wanted g Formula S Exist refl f ∙ rw f refl)) (only d g _ (omega arith) refl)
  only (unf-box {s = s} {r = r} {p = p} {a = a} d e) g S l f =
      modal g S InBox OpenBox CloseBox s r p a (operand_wanted g Formula S OpenBox refl f ∙ rw f refl) (λ T q k. program_step g T q CloseBox k) (λ q. refl)
      (only d g (Inside (In InBox) ∷ S) (omega arith) refl) (only e g (Before (Modal InBox p) ∷ S) (omega arith) refl)
  only (unf-dia {s = s} {r = r} {p = p} {a = a} d e) g S l f =
      modal g S InDia (Op Less) (Op Greater) s r p a (operand_wanted g Formula S (Op Less) refl f ∙ rw f refl) (λ T q k. program_step g T q (Op Greater) k)
      (λ q. refl) (only d g (Inside (In InDia) ∷ S) (omega arith) refl) (only e g (Before (Modal InDia p) ∷ S) (omega arith) refl)
  only (unf-atom d) g S l f = up g S _ atom unf _ refl (omega arith) (only d g S (Loose-more _ _ S (omega arith) l) f)
  only atom-true g S l f =
      single g S _ atom _ (Is Formula Truth Done)
      (λ rest. go g (Wants S) True rest (Has S (Is Formula Truth Done)) (operand_wanted g Formula S True refl f ∙ rw f refl)) refl refl
  only atom-false g S l f =
      single g S _ atom _ (Is Formula Falsity Done)
      (λ rest. go g (Wants S) False rest (Has S (Is Formula Falsity Done)) (operand_wanted g Formula S False refl f ∙ rw f refl)) refl refl
  only atom-hole g S l f =
      single g S _ atom _ (Is Formula Hole Done)
      (λ rest. go g (Wants S) Blank rest (Has S (Is Formula Hole Done)) (operand_wanted g Formula S Blank refl f ∙ rw f refl)) refl refl
  only (atom-compare {o = o} c d e) g S l f = let w = compare_fits c in binary_ends g S _ _ o atom term term _ _ w l f
      (only d g S (Loose-more _ _ S (omega arith) l) (formula_term g S f)) (only e g _ (omega (arith, compare_right c)) (rw (compare_operand c) refl))
  only (atom-nullary {n = n} {x = x}) g S l f = symbol g S n x (Open ∷ Close ∷ []) (Call n x none) atom (Holds (Call n x none)) refl f refl (λ rest. refl)
  only (atom-holds {n = n} {x = x} {s = s} {l = m} d) g S l f =
      called g S n x s m atom (Holds (Call n x m)) (first_list d) refl f refl (only_list d g (Args n x) S (args_lists g n x S))
  only (atom-any {n = n} {x = x}) g S l f = symbol g S n x (RoundBars ∷ []) (Any x Everywhere) atom (Holds (Any x Everywhere)) refl f refl (λ rest. refl)
  only (atom-except {n = n} {m = m} {x = x} {y = y}) g S l f =
      symbol g S n x (RoundBar ∷ Name m y ∷ BarRound ∷ []) (Any x (Except y)) atom (Holds (Any x (Except y))) refl f refl (λ rest. refl)
  only (atom-context {n = n} {m = m} {x = x} {s = s} {a = a} d) g S l f = context g S n m x s a f (only d g (Inside (InContext x) ∷ S) (omega arith) refl)
  only (atom-bracket {s = s} d) g S l f = bracket g S s formula atom _ refl refl f (only d g (Inside (Round (fits g Formula S)) ∷ S) (omega arith) (rw f refl))
  only (atom-diff {s = s} {a = a} d) g S l f =
      let x = only d g (Inside (Round (fits g Formula S)) ∷ S) (omega arith) (rw f refl) in
      diffed g S s formula atom a (DiffF a) refl refl f x (primed_formula x.value Grouped a x.tree)
  only (term-mul d) g S l f = up g S _ mul term _ refl (omega arith) (only d g S (Loose-more _ _ S (omega arith) l) f)
  only (term-add d e) g S l f =
      binary_ends g S _ _ Add term term mul _ _ (fitting Add) l f
      (only d g S (Loose-more _ _ S (omega arith) l) f) (only e g _ (omega arith) refl)
  only (term-sub d e) g S l f =
      binary_ends g S _ _ Sub term term mul _ _ (fitting Sub) l f
      (only d g S (Loose-more _ _ S (omega arith) l) f) (only e g _ (omega arith) refl)
  only (mul-neg d) g S l f = up g S _ neg mul _ refl (omega arith) (only d g S (Loose-more _ _ S (omega arith) l) f)
  only (mul-times d e) g S l f =
      binary_ends g S _ _ Mul mul mul neg _ _ (fitting Mul) l f
      (only d g S (Loose-more _ _ S (omega arith) l) f) (only e g _ (omega arith) refl)
  only (mul-over d e) g S l f =
      binary_ends g S _ _ Div mul mul neg _ _ (fitting Div) l f
      (only d g S (Loose-more _ _ S (omega arith) l) f) (only e g _ (omega arith) refl)
  only (neg-pow d) g S l f = up g S _ pow neg _ refl (omega arith) (only d g S (Loose-more _ _ S (omega arith) l) f)
  only (neg-minus d) g S l f =
      before g S (Op Sub ∷ []) _ Minus neg _ refl (omega arith)
      (λ rest. go g (Wants S) (Op Sub) rest (Wants (Before Minus ∷ S)) (operand_wanted g Term S (Op Sub) refl f)) (only d g _ (omega arith) refl)
  only (pow-prim d) g S l f = up g S _ prim pow _ refl (omega arith) (only d g S (Loose-more _ _ S (omega arith) l) f)
  only (pow-power d e) g S l f =
      binary_ends g S _ _ Pow pow prim neg _ _ (fitting Pow) l f
      (only d g S (Loose-more _ _ S (omega arith) l) f) (only e g _ (omega arith) refl)
  only (prim-number {n = k}) g S l f =
      single g S _ prim _ (Is Term (Literal k) Done)
      (λ rest. go g (Wants S) (Number k) rest (Has S (Is Term (Literal k) Done)) (operand_wanted g Term S (Number k) refl f)) refl refl
  only (prim-dot {n = k}) g S l f =
      single g S _ prim _ (Is Term (Argument k) Done)
      (λ rest. go g (Wants S) (Dot k) rest (Has S (Is Term (Argument k) Done)) (operand_wanted g Term S (Dot k) refl f)) refl refl
  only (prim-name {n = n} {x = x}) g S l f =
      single g S _ prim _ (Is Term (Variable x false) (Bare n x))
      (λ rest. go g (Wants S) (Name n x) rest (Has S (Is Term (Variable x false) (Bare n x))) (operand_wanted g Term S (Name n x) refl f)) refl refl
  only (prim-primed {n = n} {x = x}) g S l f =
      single g S _ prim _ (Is Term (Variable x true) Done)
      (λ rest. go g (Wants S) (Name n x) (Prime ∷ rest) (Has S (Is Term (Variable x false) (Bare n x))) (operand_wanted g Term S (Name n x) refl f)) refl refl
  only (prim-nullary {n = n} {x = x}) g S l f = symbol g S n x (Open ∷ Close ∷ []) (Call n x none) prim (Apply (Call n x none)) refl f refl (λ rest. refl)
  only (prim-apply {n = n} {x = x} {s = s} {l = m} d) g S l f =
      called g S n x s m prim (Apply (Call n x m)) (first_list d) refl f refl (only_list d g (Args n x) S (args_lists g n x S))
  only (prim-any {n = n} {x = x}) g S l f = symbol g S n x (RoundBars ∷ []) (Any x Everywhere) prim (Apply (Any x Everywhere)) refl f refl (λ rest. refl)
  only (prim-except {n = n} {m = m} {x = x} {y = y}) g S l f =
      symbol g S n x (RoundBar ∷ Name m y ∷ BarRound ∷ []) (Any x (Except y)) prim (Apply (Any x (Except y))) refl f refl (λ rest. refl)
  only (prim-bracket {s = s} d) g S l f = bracket g S s term prim _ refl refl f (only d g (Inside (Round (fits g Formula S)) ∷ S) (omega arith) (round_term _))
  only (prim-diff {s = s} {a = a} d) g S l f =
      let x = only d g (Inside (Round (fits g Formula S)) ∷ S) (omega arith) (round_term _) in
      diffed g S s term prim a (Diff a) refl refl f x (primed_term x.value Grouped a x.tree)
  only (prog-seq d) g S l f = up g S _ seq prog _ refl (omega arith) (only d g S (Loose-more _ _ S (omega arith) l) f)
  only (prog-choice d e) g S l f =
      binary_ends g S _ _ Choice prog seq prog _ _ (fitting Choice) l f
      (only d g S (Loose-more _ _ S (omega arith) l) f) (only e g _ (omega arith) refl)
  only (seq-stmt d) g S l f = up g S _ stmt seq _ refl (omega arith) (only d g S (Loose-more _ _ S (omega arith) l) f)
  only (seq-then {s = s} {r = r} {a = a} {b = b} d e) g S l f =
      let x = only d g S (Loose-more _ _ S (omega arith) l) f in
      let m = met g S s Next seq stmt a x refl refl (omega arith) (omega arith) l f in
      both g S s r Next seq seq a b refl refl (omega arith) (omega arith) refl
      (λ rest. x.runs (r ++ rest) ∙ next_run g (x.parts ++ S) S x.last a rest (first e) x.kind m) (only e g (Left Next a ∷ S) (omega arith) refl)
  only (stmt-const {n = n} {x = x}) g S l f =
      single g S _ stmt _ (Is Program (Const x) Done) (λ rest. go g (Wants S) (Name n x) (Semi ∷ rest) (Starts S x) (statement_wanted g S (Name n x) f)) refl
      refl
  only (stmt-assign {n = n} {x = x} {s = s} {a = a} d) g S l f =
      let z = only d g (Inside (Assigns x false) ∷ S) (omega arith) refl in
      statement g S (Name n x ∷ Gets ∷ []) s (Assigns x false) term a (Assign x false a) f
      (λ rest. go g (Wants S) (Name n x) (Gets ∷ (s ++ rest)) (Starts S x) (statement_wanted g S (Name n x) f) ∙ gets_run g S x s rest (first d)) z
      (held g S (Assigns x false) s term a Semi (Has S (Is Program (Assign x false a) Done)) z
      (other_step g (z.parts ++ Inside (Assigns x false) ∷ S) z.last Semi z.kind) (rw z.tree refl))
  only (stmt-assign_prime {n = n} {x = x} {s = s} {a = a} d) g S l f =
      let z = only d g (Inside (Assigns x true) ∷ S) (omega arith) refl in
      statement g S (Name n x ∷ Prime ∷ Gets ∷ []) s (Assigns x true) term a (Assign x true a) f
      (λ rest. go g (Wants S) (Name n x) (Prime ∷ Gets ∷ (s ++ rest)) (Starts S x) (statement_wanted g S (Name n x) f)) z
      (held g S (Assigns x true) s term a Semi (Has S (Is Program (Assign x true a) Done)) z
      (other_step g (z.parts ++ Inside (Assigns x true) ∷ S) z.last Semi z.kind) (rw z.tree refl))
  only (stmt-any {n = n} {x = x}) g S l f = single g S _ stmt _ (Is Program (AssignAny x) Done)
      (λ rest. go g (Wants S) (Name n x) (Gets ∷ Op Mul ∷ Semi ∷ rest) (Starts S x) (statement_wanted g S (Name n x) f)) refl refl
  only (stmt-test {s = s} {a = a} d) g S l f =
      let z = only d g (Inside Tests ∷ S) (omega arith) refl in
      statement g S (Query ∷ []) s Tests formula a (Test a) f
      (λ rest. go g (Wants S) Query (s ++ rest) (Wants (Inside Tests ∷ S)) (statement_wanted g S Query f)) z
      (held g S Tests s formula a Semi (Has S (Is Program (Test a) Done)) z (other_step g (z.parts ++ Inside Tests ∷ S) z.last Semi z.kind) (rw z.tree refl))
  only (stmt-group {s = s} {q = q} {i = i} {e = e} {a = a} {b = b} {c = c} d star inv semi) g S l f =
      let x = star_ends star g S in
      let y = only_inv inv x.1 g S in
      let z = semi_ends semi y.1 g S c in
      single g S (s ++ (q ++ (i ++ e))) stmt c (Is Program c z.0)
      (λ rest.
      ap (arrive g (Wants S)) (four_parts s q i e rest) ∙ only_brace d g S f (q ++ (i ++ (e ++ rest))) ∙ x.2 (i ++ (e ++ rest)) ∙ y.2 (e ++ rest) ∙ z.1 rest)
      refl refl

  only_list : {f : Nonterminal} {s : List Lexeme} {l : Phrases} → ReadsList f s l → (g : Sort) (h : Phrases → Holder) (S : List Part) → Lists g h f S
      → EndsList g h f S s l
  only_list (list-one {f = f} {s = s} {a = a} d) g h S c = list_first g h f S s a c.operand (only d g (Inside (h none) ∷ S) (omega arith) (c.fit none))
  only_list (list-more {f = f} {s = s} {r = r} {l = l} {a = a} d e) g h S c =
      list_next g h f S s r l a c (only_list d g h S c) (only e g (Inside (h l) ∷ S) (omega arith) (c.fit l))

  -- An item and the token behind it, where an item is wanted.
  only_item : {s : List Lexeme} {i : Item} → ReadsItem s i → (g : Sort) (S : List Part) (n : ℕ) (l : Items) {k : Lexeme} → EndsItem k → (rest : List Lexeme)
      → arrive g (WantsItem S n l) (s ++ (k ∷ rest)) ≡ run_from g (items_step S n (add l i) k) rest
  only_item (item-evolve {x = x} {s = s} {a = a} d) g S n l c rest = evolve_ends g S n l x s a c (only d g (Inside (Evolves n l x) ∷ S) (omega arith) refl) rest
  only_item (item-flow {x = x}) g S n l c rest = ap (λ (o : Option State). run_from g o rest) (flow_ends g S n l x c)
  only_item item-except g S n l c rest = refl

  -- Items and the token behind them, where the first item is wanted.
  pub only_items : {s : List Lexeme} {l : Items} → ReadsItems s l → (g : Sort) (S : List Part) (n : ℕ) {k : Lexeme} → EndsItem k → (rest : List Lexeme)
      → arrive g (WantsItem S n no_items) (s ++ (k ∷ rest)) ≡ run_from g (items_step S n l k) rest
  only_items (items-one d) g S n c rest = only_item d g S n no_items c rest
  only_items (items-more {s = s} {r = r} {l = l} d e) g S n {k} c rest =
      ap (arrive g (WantsItem S n no_items)) (append_assoc s (Comma ∷ r) (k ∷ rest)) ∙ only_items d g S n item-comma (r ++ (k ∷ rest))
      ∙ only_item e g S n l c rest

  only_brace : {s : List Lexeme} {a : Phrase} → ReadsBrace s a → (g : Sort) (S : List Part) → fits g Program S ≡ true → (rest : List Lexeme)
      → arrive g (Wants S) (s ++ rest) ≡ arrive g (Has S (Is Program a Braced)) rest
  only_brace (brace-prog {n = n} {s = s} {a = a} d) g S f rest =
      let x = only d g (Inside InBrace ∷ S) (omega arith) refl in
      go g (Wants S) (OpenBrace n) ((s ++ CloseBrace ∷ []) ++ rest) (Opens S n) (statement_wanted g S (OpenBrace n) f)
      ∙ ap (arrive g (Opens S n)) (append_assoc s (CloseBrace ∷ []) rest) ∙ opens_run g S n (CloseBrace ∷ rest) (first d)
      ∙ held g S InBrace s prog a CloseBrace (Has S (Is Program a Braced)) x (program_step g (x.parts ++ Inside InBrace ∷ S) x.last CloseBrace x.kind)
      (rw x.tree refl) rest
  only_brace (brace-items {n = n} {s = s} {l = l} d) g S f rest =
      go g (Wants S) (OpenBrace n) ((s ++ CloseBrace ∷ []) ++ rest) (Opens S n) (statement_wanted g S (OpenBrace n) f)
      ∙ ap (arrive g (Opens S n)) (append_assoc s (CloseBrace ∷ []) rest) ∙ items_open d g S n item-brace rest ∙ only_items d g S n item-brace rest
  only_brace (brace-domain {n = n} {s = s} {r = r} {l = l} {a = a} d e) g S f rest =
      let x = only e g (Inside (Domain n l) ∷ S) (omega arith) refl in
      go g (Wants S) (OpenBrace n) ((s ++ Op And ∷ (r ++ CloseBrace ∷ [])) ++ rest) (Opens S n) (statement_wanted g S (OpenBrace n) f)
      ∙ ap (arrive g (Opens S n)) (append_assoc s (Op And ∷ (r ++ CloseBrace ∷ [])) rest) ∙ items_open d g S n item-and ((r ++ CloseBrace ∷ []) ++ rest)
      ∙ only_items d g S n item-and ((r ++ CloseBrace ∷ []) ++ rest)
      ∙ ap (arrive g (Wants (Inside (Domain n l) ∷ S))) (append_assoc r (CloseBrace ∷ []) rest)
      ∙ held g S (Domain n l) r formula a CloseBrace (Has S (Is Program (System n l a) Braced)) x
      (other_step g (x.parts ++ Inside (Domain n l) ∷ S) x.last CloseBrace x.kind) (rw x.tree refl) rest

  only_inv : {i : List Lexeme} {a b : Phrase} → ReadsInv i a b → {l : Tail} → MayNote l → (g : Sort) (S : List Part)
      → (m : Tail) × MayEnd m × ((rest : List Lexeme) → arrive g (Has S (Is Program a l)) (i ++ rest) ≡ arrive g (Has S (Is Program b m)) rest)
  only_inv inv-none {l} c g S = (l, may_end c, λ rest. refl)
  only_inv (inv-some {s = s} {a = a} {l = m} d) c g S = (Annotated, end-annotated, notes_end c g S a s m (only_list d g (Notes a) S (notes_lists g a S)))

-- A text of a sort is read as its tree where the sort is allowed.
pub only_at : (g h : Sort) (s : List Lexeme) (t : Phrase) → Reads (top h) s t → allows g h ≡ true
    → (y : State) × (states (reader g) (Wants []) s ≡ Some y) × (ended h y ≡ Some t)
only_at g h s t d a =
    let x = only d g [] tt (ap (allows g) (top_sort h) ∙ a) in
    let reduced : reduce 0 (x.parts ++ []) x.last ≡ Some ([], x.value) =
    reduce-tight 0 x.parts [] x.last x.value (Tight-less 0 _ x.parts (omega arith) x.tight) x.folds in (
      Has (x.parts ++ []) x.last,
      ap (arrive g (Wants [])) (sym (append-nil s)) ∙ x.runs [],
      rw reduced (subst (λ (k : Sort). as_sort k x.value ≡ Some t) (top_sort h) x.tree),
    )
