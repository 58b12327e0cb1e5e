-- Every state that is reached has a text that ends it.
use Rattle.std.proofs.Common.{◌≡◌, ℕ, ◌≤◌, Bool, true, false, List, [], ◌∷◌, ◌++◌, Some, refl, sym, ap, subst, ◌∙◌, append_assoc, arith}
use Rattle.std.proofs.lemmas.List.{append-nil}
use Rattle.dlk_grammar.specs.declared.token.Infix.TheVariants.{Equiv, Imply, Or, And, Equal, NotEqual, AtLeast, Greater, AtMost, Less, Add, Sub, Mul}
use Rattle.dlk_grammar.specs.declared.token.Infix.TheVariants.{Div, Pow, Choice}
use Rattle.dlk_grammar.specs.Lexemes.{Lexeme, Name, Number, True, Invariant, RoundBar, BarRound, BraceBar, BarBrace, Open, Close, OpenBox, CloseBox}
use Rattle.dlk_grammar.specs.Lexemes.{OpenBrace, CloseBrace, Prime, Gets, Query, Semi, Op}
use Rattle.dlk_grammar.specs.Phrases.{Except, Phrase, Literal, Apply, Truth, Forall, Exists, Binary, Const, Assign, AssignAny, System, none, Call, Any, Items}
use Rattle.dlk_grammar.specs.Grammar.{Nonterminal, formula, unf, atom, term, prim, prog, stmt, Reads, formula-imp, imp-disj, disj-conj, conj-unf}
use Rattle.dlk_grammar.specs.Grammar.{unf-forall, unf-exists, unf-box, unf-dia, unf-atom, atom-true, atom-compare, atom-context, atom-bracket}
use Rattle.dlk_grammar.specs.Grammar.{term-mul, mul-neg, neg-pow, pow-prim, prim-number, prim-nullary, prim-apply, prim-except, prim-bracket}
use Rattle.dlk_grammar.specs.Grammar.{stmt-const, stmt-assign, stmt-assign_prime, stmt-any, stmt-test, cmp-less, ReadsBrace, brace-prog, brace-items}
use Rattle.dlk_grammar.specs.Grammar.{brace-domain, ReadsItems, items-one, item-evolve, item-flow, item-except}
use Rattle.dlk_tree.specs.declared.op.Num.{Num}
use Rattle.dlk_tree.specs.declared.op.Sort.{Sort}
use Rattle.dlk_tree.specs.declared.op.Sort.TheVariants.{Term, Formula, Program}
use Rattle.dlk_machine.specs.Levels.{form_level, form_sort, top}
use Rattle.dlk_machine.specs.Machine.{By, Next, Quantifier, ForAll, ForSome, InBox, InDia, Minus, Bang', Bound, Modal, Holder, Round, Args, InContext}
use Rattle.dlk_machine.specs.Machine.{In, InBrace, Assigns, Tests, Evolves, Domain, Notes, Part, Left, Before, Inside, binary, unary, Piece, State}
use Rattle.dlk_machine.specs.Machine.{Wants, Has, Calls, Bars, BarsName, Binds, Starts, StartsPrime, StartsGets, StartsStar, Opens, OpensName}
use Rattle.dlk_machine.specs.Machine.{OpensPrime, WantsItem, ItemName, ItemPrime, ItemBar, ItemBarName, ItemEnds, Invariants, as_sort, round_sort}
use Rattle.dlk_machine.specs.Machine.{held_sort, place, allows, fits, step}
use Rattle.dlk_machine.specs.Parse.{reader}
use Rattle.dlk_machine.proofs.Opening.{some_is, bind_some, Plain, plain_append, Opening, opening_more, states}
use Rattle.dlk_machine.proofs.Climb.{own_form, right_form, formula_level, level_above, need, need_below, stands}
use Rattle.dlk_machine.proofs.OpenParts.{Loose, Loose-more}
use Rattle.dlk_machine.proofs.Spelled.{prefix_form, mark, binary_reads, unary_reads, prefix_table, table, list-begins, list_joined, items_joined}
use Rattle.dlk_machine.proofs.Spelled.{note_brace, end_note, end_stmt, end_invariants, HolderText, round-text, args-text, context-text, box-text}
use Rattle.dlk_machine.proofs.Spelled.{in_dia-text, brace-text, assigns-text, assigns_prime-text, tests-text, evolves-text, domain-text, notes-text}
use Rattle.dlk_machine.proofs.Spelled.{Spells, nothing, left, before, inside, Known, loose_top, loose_formula, Midway, quantifier_token, After}
use Rattle.dlk_machine.proofs.Found.{moves}
use Rattle.dlk_machine.proofs.Only.{top_sort}

-- a text that can stand under the open parts
record Fills (g : Sort) (S : List Part) (r : List Lexeme) : Type 0 where
  form : Nonterminal
  tree : Phrase
  reads : Reads form r tree
  loose : Loose (form_level form) S
  fit : fits g (form_sort form) S ≡ true

abbrev pub nought : Num
nought = record { digits = 0; scale = 0 }

-- what makes an atom of a term
abbrev below_zero : List Lexeme
below_zero = Op Less ∷ Number nought ∷ []

zero_prim : Reads prim (Number nought ∷ []) (Literal nought)
zero_prim = prim-number

pub zero_reads : Reads term (Number nought ∷ []) (Literal nought)
zero_reads = term-mul (mul-neg (neg-pow (pow-prim prim-number)))

true_unf : Reads unf (True ∷ []) Truth
true_unf = unf-atom atom-true

pub true_reads : Reads formula (True ∷ []) Truth
true_reads = formula-imp (imp-disj (disj-conj (conj-unf (unf-atom atom-true))))

compared : (n : Nonterminal) (r : List Lexeme) (t : Phrase) → form_sort n ≡ Term → Reads n r t → Reads atom (r ++ below_zero) (Binary Less t (Literal nought))
compared n r t e d = atom-compare cmp-less (stands n term r t (omega arith) e d) zero_reads

-- a text in a place for a nonterminal: as it is, or compared
record Formed (m : Nonterminal) (r : List Lexeme) : Type 0 where
  more : List Lexeme
  plain : Plain more
  tree : Phrase
  reads : Reads m (r ++ more) tree

to_form : (m n : Nonterminal) (r : List Lexeme) (t : Phrase) → Reads n r t → allows (form_sort m) (form_sort n) ≡ true → need m ≤ form_level n → Formed m r
to_form m n r t d a h = go (form_sort m) (form_sort n) refl refl a
  where
    as_it_is : form_sort n ≡ form_sort m → Formed m r
    as_it_is e = record { more = []; plain = tt; tree = t; reads = rw append-nil (stands n m r t h e d) }

    go : (p q : Sort) → form_sort m ≡ p → form_sort n ≡ q → allows p q ≡ true → Formed m r
    go Term Term e f x = as_it_is (f ∙ sym e)
    go Formula Formula e f x = as_it_is (f ∙ sym e)
    go Program Program e f x = as_it_is (f ∙ sym e)
    go Formula Term e f x = record {
      more = below_zero;
      plain = (refl, (refl, tt));
      tree = Binary Less t (Literal nought);
      reads = stands atom m _ _ (omega (arith, need_below m, formula_level m e)) (sym e) (compared n r t f d);
    }
    go Term Formula e f x = absurd cc
    go Term Program e f x = absurd cc
    go Formula Program e f x = absurd cc
    go Program Term e f x = absurd cc
    go Program Formula e f x = absurd cc

pub top_need : (g : Sort) (n : Nonterminal) → need (top g) ≤ form_level n
top_need Term n = omega arith
top_need Formula n = level_above n
top_need Program n = level_above n

loose_program : (g : Sort) (S : List Part) → fits g Program S ≡ true → Loose 3 S
loose_program g [] f = tt
loose_program g (Left (By Equiv) a ∷ S) f = absurd cc
loose_program g (Left (By Imply) a ∷ S) f = absurd cc
loose_program g (Left (By Or) a ∷ S) f = absurd cc
loose_program g (Left (By And) a ∷ S) f = absurd cc
loose_program g (Left (By Equal) a ∷ S) f = absurd cc
loose_program g (Left (By NotEqual) a ∷ S) f = absurd cc
loose_program g (Left (By AtLeast) a ∷ S) f = absurd cc
loose_program g (Left (By Greater) a ∷ S) f = absurd cc
loose_program g (Left (By AtMost) a ∷ S) f = absurd cc
loose_program g (Left (By Less) a ∷ S) f = absurd cc
loose_program g (Left (By Add) a ∷ S) f = absurd cc
loose_program g (Left (By Sub) a ∷ S) f = absurd cc
loose_program g (Left (By Mul) a ∷ S) f = absurd cc
loose_program g (Left (By Div) a ∷ S) f = absurd cc
loose_program g (Left (By Pow) a ∷ S) f = absurd cc
loose_program g (Left (By Choice) a ∷ S) f = omega arith
loose_program g (Left Next a ∷ S) f = omega arith
loose_program g (Before Minus ∷ S) f = absurd cc
loose_program g (Before Bang' ∷ S) f = absurd cc
loose_program g (Before (Bound q x) ∷ S) f = absurd cc
loose_program g (Before (Modal m p) ∷ S) f = absurd cc
loose_program g (Inside h ∷ S) f = omega arith

-- a holder with what stands in it, as a text in its place
record Held (g : Sort) (S : List Part) (k r : List Lexeme) : Type 0 where
  more : List Lexeme
  plain : Plain more
  fills : Fills g S (k ++ (r ++ more))

round_held : (g : Sort) (S : List Part) (b : Bool) (r : List Lexeme) (n : Nonterminal) (t : Phrase) → b ≡ fits g Formula S → fits g Term S ≡ true
    → Reads n r t → allows (round_sort b) (form_sort n) ≡ true → Held g S (Open ∷ []) r
round_held g S b r n t same fit d a = go b (form_sort n) refl same a
  where
    term_held : form_sort n ≡ Term → Held g S (Open ∷ []) r
    term_held e = record {
      more = Close ∷ [];
      plain = (refl, tt);
      fills = record { form = prim; tree = t; reads = prim-bracket (stands n term r t (omega arith) e d); loose = loose_top S; fit = fit };
    }

    go : (c : Bool) (q : Sort) → form_sort n ≡ q → c ≡ fits g Formula S → allows (round_sort c) q ≡ true → Held g S (Open ∷ []) r
    go true Term e f x = term_held e
    go false Term e f x = term_held e
    go true Formula e f x = record {
      more = Close ∷ [];
      plain = (refl, tt);
      fills =
          record {
            form = atom;
            tree = t;
            reads = atom-bracket (stands n formula r t (level_above n) e d);
            loose = Loose-more 5 6 S (omega arith) (loose_formula g S (sym f));
            fit = sym f;
          };
    }
    go false Formula e f x = absurd cc
    go true Program e f x = absurd cc
    go false Program e f x = absurd cc

-- what fills a place: by its sort
term_fills : (g : Sort) (S : List Part) (s : List Lexeme) (t : Phrase) → fits g Term S ≡ true → Reads prim s t → Fills g S s
term_fills g S s t f d = record { form = prim; tree = t; reads = d; loose = loose_top S; fit = f }

atom_fills : (g : Sort) (S : List Part) (s : List Lexeme) (t : Phrase) → fits g Formula S ≡ true → Reads atom s t → Fills g S s
atom_fills g S s t f d = record { form = atom; tree = t; reads = d; loose = Loose-more 5 6 S (omega arith) (loose_formula g S f); fit = f }

unf_fills : (g : Sort) (S : List Part) (s : List Lexeme) (t : Phrase) → fits g Formula S ≡ true → Reads unf s t → Fills g S s
unf_fills g S s t f d = record { form = unf; tree = t; reads = d; loose = loose_formula g S f; fit = f }

stmt_fills : (g : Sort) (S : List Part) (s : List Lexeme) (t : Phrase) → fits g Program S ≡ true → Reads stmt s t → Fills g S s
stmt_fills g S s t f d = record { form = stmt; tree = t; reads = d; loose = loose_program g S f; fit = f }

brace_fills : (g : Sort) (S : List Part) (s : List Lexeme) (t : Phrase) → fits g Program S ≡ true → ReadsBrace s t → Fills g S s
brace_fills g S s t f d = stmt_fills g S s t f (end_stmt (end_note (note_brace d)))

-- a few plain tokens behind what made a nonterminal
held_by : (g : Sort) (S : List Part) (k r new : List Lexeme) (m : Nonterminal) (w : Formed m r) (c : List Lexeme) → Plain c
    → new ≡ k ++ (r ++ (w.more ++ c)) → Fills g S new → Held g S k r
held_by g S k r new m w c p e f = record { more = w.more ++ c; plain = plain_append w.more c w.plain p; fills = subst (Fills g S) e f }

hold : (g : Sort) (h : Holder) (S : List Part) (k r : List Lexeme) (n : Nonterminal) (t : Phrase) → HolderText g h S k → Reads n r t
    → allows (held_sort h) (form_sort n) ≡ true → Held g S k r
hold g (Round b) S k r n t (round-text same fit) d a = round_held g S b r n t same fit d a
hold g (Args m x l) S k r n t (args-text {k = j} begun fit) d a =
    let w = to_form term n r t d a (omega arith) in
    held_by g S _ r (Name m x ∷ Open ∷ ((j ++ (r ++ w.more)) ++ Close ∷ [])) term w (Close ∷ []) (refl, tt)
    (ap (λ (z : List Lexeme). Name m x ∷ Open ∷ z) (simp append_assoc)) (term_fills g S _ _ fit (prim-apply (list_joined begun (r ++ w.more) w.tree w.reads)))
hold g (InContext x) S k r n t (context-text {n = i} {m = j} fit) d a =
    let w = to_form formula n r t d a (level_above n) in
    held_by g S _ r (Name i x ∷ OpenBrace j ∷ ((r ++ w.more) ++ CloseBrace ∷ [])) formula w (CloseBrace ∷ []) (refl, tt)
    (ap (λ (z : List Lexeme). Name i x ∷ OpenBrace j ∷ z) (append_assoc r w.more (CloseBrace ∷ []))) (atom_fills g S _ _ fit (atom-context w.reads))
hold g (In InBox) S k r n t (box-text fit) d a =
    let w = to_form prog n r t d a (level_above n) in
    held_by g S _ r (OpenBox ∷ ((r ++ w.more) ++ CloseBox ∷ True ∷ [])) prog w (CloseBox ∷ True ∷ []) (refl, (refl, tt))
    (ap (λ (z : List Lexeme). OpenBox ∷ z) (append_assoc r w.more (CloseBox ∷ True ∷ []))) (unf_fills g S _ _ fit (unf-box w.reads true_unf))
hold g (In InDia) S k r n t (in_dia-text fit) d a =
    let w = to_form prog n r t d a (level_above n) in
    held_by g S _ r (Op Less ∷ ((r ++ w.more) ++ Op Greater ∷ True ∷ [])) prog w (Op Greater ∷ True ∷ []) (refl, (refl, tt))
    (ap (λ (z : List Lexeme). Op Less ∷ z) (append_assoc r w.more (Op Greater ∷ True ∷ []))) (unf_fills g S _ _ fit (unf-dia w.reads true_unf))
hold g InBrace S k r n t (brace-text {n = i} fit) d a =
    let w = to_form prog n r t d a (level_above n) in
    held_by g S _ r (OpenBrace i ∷ ((r ++ w.more) ++ CloseBrace ∷ [])) prog w (CloseBrace ∷ []) (refl, tt)
    (ap (λ (z : List Lexeme). OpenBrace i ∷ z) (append_assoc r w.more (CloseBrace ∷ []))) (brace_fills g S _ _ fit (brace-prog w.reads))
hold g (Assigns x false) S k r n t (assigns-text {n = i} fit) d a =
    let w = to_form term n r t d a (omega arith) in
    held_by g S _ r (Name i x ∷ Gets ∷ ((r ++ w.more) ++ Semi ∷ [])) term w (Semi ∷ []) (refl, tt)
    (ap (λ (z : List Lexeme). Name i x ∷ Gets ∷ z) (append_assoc r w.more (Semi ∷ []))) (stmt_fills g S _ _ fit (stmt-assign w.reads))
hold g (Assigns x true) S k r n t (assigns_prime-text {n = i} fit) d a =
    let w = to_form term n r t d a (omega arith) in
    held_by g S _ r (Name i x ∷ Prime ∷ Gets ∷ ((r ++ w.more) ++ Semi ∷ [])) term w (Semi ∷ []) (refl, tt)
    (ap (λ (z : List Lexeme). Name i x ∷ Prime ∷ Gets ∷ z) (append_assoc r w.more (Semi ∷ []))) (stmt_fills g S _ _ fit (stmt-assign_prime w.reads))
hold g Tests S k r n t (tests-text fit) d a =
    let w = to_form formula n r t d a (level_above n) in
    held_by g S _ r (Query ∷ ((r ++ w.more) ++ Semi ∷ [])) formula w (Semi ∷ []) (refl, tt)
    (ap (λ (z : List Lexeme). Query ∷ z) (append_assoc r w.more (Semi ∷ []))) (stmt_fills g S _ _ fit (stmt-test w.reads))
hold g (Evolves i l x) S k r n t (evolves-text {k = j} m begun fit) d a =
    let w = to_form term n r t d a (omega arith) in
    held_by g S _ r (OpenBrace i ∷ ((j ++ Name m x ∷ Prime ∷ Op Equal ∷ (r ++ w.more)) ++ CloseBrace ∷ [])) term w (CloseBrace ∷ []) (refl, tt)
    (ap (λ (z : List Lexeme). OpenBrace i ∷ z) (simp append_assoc)) (brace_fills g S _ _ fit (brace-items (items_joined begun (item-evolve w.reads))))
hold g (Domain i l) S k r n t (domain-text {s = j} items fit) d a =
    let w = to_form formula n r t d a (level_above n) in
    held_by g S _ r (OpenBrace i ∷ (j ++ Op And ∷ ((r ++ w.more) ++ CloseBrace ∷ []))) formula w (CloseBrace ∷ []) (refl, tt)
    (ap (λ (z : List Lexeme). OpenBrace i ∷ z) (simp append_assoc)) (brace_fills g S _ _ fit (brace-domain items w.reads))
hold g (Notes p l) S k r n t (notes-text {r = i} {k = j} note begun fit) d a =
    let w = to_form formula n r t d a (level_above n) in
    held_by g S _ r ((i ++ Invariant ∷ Open ∷ j) ++ ((r ++ w.more) ++ Close ∷ [])) formula w (Close ∷ []) (refl, tt)
    (ap (λ (z : List Lexeme). (i ++ Invariant ∷ Open ∷ j) ++ z) (append_assoc r w.more (Close ∷ [])))
    (stmt_fills g S _ _ fit (end_stmt (end_invariants note begun (r ++ w.more) w.tree w.reads)))

pub brace_parts : (n : ℕ) (k m : List Lexeme) (c : Lexeme) → OpenBrace n ∷ ((k ++ m) ++ c ∷ []) ≡ (OpenBrace n ∷ k) ++ (m ++ c ∷ [])
brace_parts n k m c = ap (λ (z : List Lexeme). OpenBrace n ∷ z) (append_assoc k m (c ∷ []))

pub item_parts : (n : ℕ) (k m r : List Lexeme) (c : Lexeme) → OpenBrace n ∷ ((k ++ (m ++ r)) ++ c ∷ []) ≡ (OpenBrace n ∷ (k ++ m)) ++ (r ++ c ∷ [])
item_parts n k m r c = ap (λ (z : List Lexeme). OpenBrace n ∷ z) (simp append_assoc)

invariant_parts : (r : List Lexeme) → (r ++ Invariant ∷ Open ∷ []) ++ (True ∷ Close ∷ []) ≡ (r ++ Invariant ∷ []) ++ (Open ∷ True ∷ Close ∷ [])
invariant_parts r = simp append_assoc

module _ (g : Sort) where
  close_text : {S : List Part} {s : List Lexeme} → Spells g S s → (r : List Lexeme) → Fills g S r → Opening (Reads (top g)) (s ++ r)
  close_text nothing r f =
      let w = to_form (top g) f.form r f.tree f.reads (subst (λ (k : Sort). allows k (form_sort f.form) ≡ true) (sym (top_sort g)) f.fit) (top_need g f.form) in
      record { more = w.more; plain = w.plain; tree = w.tree; reads = w.reads }
  close_text (left {S = S} {s = s} {r = l} {o = o} {a = a} sp d loose fit) r f =
      let t = table o in
      let w =
      to_form (right_form o) f.form r f.tree f.reads (subst (λ (k : Sort). allows k (form_sort f.form) ≡ true) (sym t.right_sort) f.fit)
      (omega (arith, t.right, f.loose)) in
      let b = close_text sp (l ++ (mark o ++ (r ++ w.more))) (record {
        form = own_form o;
        tree = binary o a w.tree;
        reads = binary_reads o l (r ++ w.more) a w.tree d w.reads;
        loose = subst (λ (k : ℕ). Loose k S) (sym t.own) loose;
        fit = subst (λ (k : Sort). fits g k S ≡ true) (sym t.own_sort) fit;
      }) in
      let at : s ++ (l ++ (mark o ++ (r ++ w.more))) ≡ ((s ++ (l ++ mark o)) ++ r) ++ w.more = sym (simp append_assoc) in
      opening_more (Reads (top g)) ((s ++ (l ++ mark o)) ++ r) w.more w.plain (subst (Opening (Reads (top g))) at b)
  close_text (before {S = S} {s = s} {k = k} {o = o} sp text loose fit) r f =
      let t = prefix_table o in
      let w =
      to_form (prefix_form o) f.form r f.tree f.reads (subst (λ (k : Sort). allows k (form_sort f.form) ≡ true) (sym t.sort) f.fit)
      (omega (arith, t.operand, f.loose)) in
      let b = close_text sp (k ++ (r ++ w.more)) (record {
        form = prefix_form o;
        tree = unary o w.tree;
        reads = unary_reads text (r ++ w.more) w.tree w.reads;
        loose = subst (λ (k : ℕ). Loose k S) (sym t.own) loose;
        fit = subst (λ (k : Sort). fits g k S ≡ true) (sym t.sort) fit;
      }) in
      let at : s ++ (k ++ (r ++ w.more)) ≡ ((s ++ k) ++ r) ++ w.more = sym (simp append_assoc) in
      opening_more (Reads (top g)) ((s ++ k) ++ r) w.more w.plain (subst (Opening (Reads (top g))) at b)
  close_text (inside {S = S} {s = s} {k = k} {h = h} sp text) r f =
      let w = hold g h S k r f.form f.tree text f.reads f.fit in
      let b = close_text sp (k ++ (r ++ w.more)) w.fills in
      let at : s ++ (k ++ (r ++ w.more)) ≡ ((s ++ k) ++ r) ++ w.more = sym (simp append_assoc) in
      opening_more (Reads (top g)) ((s ++ k) ++ r) w.more w.plain (subst (Opening (Reads (top g))) at b)

  -- something that may stand under any open parts
  record Filler (S : List Part) : Type 0 where
    tokens : List Lexeme
    plain : Plain tokens
    fills : Fills g S tokens

  filler : (S : List Part) (p : Sort) → place g S ≡ p → Filler S
  filler S Term e = record { tokens = Number nought ∷ []; plain = (refl, tt); fills = term_fills g S _ _ (rw e refl) (prim-number {n = nought}) }
  filler S Formula e = record { tokens = Number nought ∷ []; plain = (refl, tt); fills = term_fills g S _ _ (rw e refl) (prim-number {n = nought}) }
  filler S Program e = record {
    tokens = Query ∷ True ∷ Semi ∷ [];
    plain = (refl, (refl, (refl, tt)));
    fills = stmt_fills g S _ _ (rw e refl) (stmt-test true_reads);
  }

  wants_live : (S : List Part) (all : List Lexeme) → Spells g S all → Opening (Reads (top g)) all
  wants_live S all a = let w = filler S (place g S) refl in opening_more (Reads (top g)) all w.tokens w.plain (close_text a w.tokens w.fills)

  has_fills : (S : List Part) (p : Piece) (r : List Lexeme) → Known 11 p r → (q : Sort) (t : Phrase) → as_sort q p ≡ Some t → fits g q S ≡ true → Fills g S r
  has_fills S p r k Term t e f = term_fills g S r t f (k prim t (omega arith) e)
  has_fills S p r k Formula t e f = atom_fills g S r t f (k atom t (omega arith) e)
  has_fills S p r k Program t e f = stmt_fills g S r t f (k stmt t (omega arith) e)

  midway_live : (S : List Part) (own : List Lexeme) (q : Sort) (all more new : List Lexeme) → Midway g S own q all → Plain more → new ≡ own ++ more
      → (fits g q S ≡ true → Fills g S new) → Opening (Reads (top g)) all
  midway_live S own q all more new a p e f =
      let b = close_text a.spells (own ++ more) (subst (Fills g S) e (f a.fit)) in
      let at : a.front ++ (own ++ more) ≡ (a.front ++ own) ++ more = sym (append_assoc a.front own more) in
      subst (Opening (Reads (top g))) (sym a.parts) (opening_more (Reads (top g)) (a.front ++ own) more p (subst (Opening (Reads (top g))) at b))

  bound_fills : (q : Quantifier) (S : List Part) → fits g Formula S ≡ true → Fills g S (quantifier_token q ∷ Name 0 [] ∷ True ∷ [])
  bound_fills ForAll S f = unf_fills g S _ (Forall [] Truth) f (unf-forall true_unf)
  bound_fills ForSome S f = unf_fills g S _ (Exists [] Truth) f (unf-exists true_unf)

  -- a system of items, as what ends a state
  items_fill : (S : List Part) (n : ℕ) (s : List Lexeme) (l : Items) → ReadsItems s l → fits g Program S ≡ true
      → Fills g S (OpenBrace n ∷ (s ++ CloseBrace ∷ []))
  items_fill S n s l d f = brace_fills g S _ (System n l Truth) f (brace-items d)

  -- the tokens that lead to a state are the front of a text
  pub live : (x : State) (all : List Lexeme) → After g x all → Opening (Reads (top g)) all
  live (Wants S) all a = wants_live S all a
  live (Has S p) all a =
      subst (Opening (Reads (top g))) (sym a.parts) (close_text a.spells a.back (has_fills S p a.back a.known a.good.0 a.good.1 a.good.2 a.good.3))
  live (Calls S n x) all a =
      midway_live S _ Term all (Close ∷ []) _ a (refl, tt) refl (λ f. term_fills g S (Name n x ∷ Open ∷ Close ∷ []) (Apply (Call n x none)) f prim-nullary)
  live (Bars S x) all a =
      midway_live S _ Term all (Name 0 [] ∷ BarRound ∷ []) _ a.1 (refl, (refl, tt)) refl
      (λ f. term_fills g S (Name a.0 x ∷ RoundBar ∷ Name 0 [] ∷ BarRound ∷ []) (Apply (Any x (Except []))) f prim-except)
  live (BarsName S x y) all a =
      midway_live S _ Term all (BarRound ∷ []) _ a.2 (refl, tt) refl
      (λ f. term_fills g S (Name a.0 x ∷ RoundBar ∷ Name a.1 y ∷ BarRound ∷ []) (Apply (Any x (Except y))) f prim-except)
  live (Binds S q) all a = midway_live S _ Formula all (Name 0 [] ∷ True ∷ []) _ a (refl, (refl, tt)) refl (bound_fills q S)
  live (Starts S x) all a = midway_live S _ Program all (Semi ∷ []) _ a.1 (refl, tt) refl (λ f. stmt_fills g S (Name a.0 x ∷ Semi ∷ []) (Const x) f stmt-const)
  live (StartsPrime S x) all a =
      midway_live S _ Program all (Gets ∷ Number nought ∷ Semi ∷ []) _ a.1 (refl, (refl, (refl, tt))) refl
      (λ f. stmt_fills g S (Name a.0 x ∷ Prime ∷ Gets ∷ Number nought ∷ Semi ∷ []) (Assign x true (Literal nought)) f (stmt-assign_prime zero_reads))
  live (StartsGets S x) all a = midway_live S _ Program all (Op Mul ∷ Semi ∷ []) _ a.1 (refl, (refl, tt)) refl
      (λ f. stmt_fills g S (Name a.0 x ∷ Gets ∷ Op Mul ∷ Semi ∷ []) (AssignAny x) f stmt-any)
  live (StartsStar S x) all a = midway_live S _ Program all (Semi ∷ []) _ a.1 (refl, tt) refl
      (λ f. stmt_fills g S (Name a.0 x ∷ Gets ∷ Op Mul ∷ Semi ∷ []) (AssignAny x) f stmt-any)
  live (Opens S n) all a =
      midway_live S _ Program all (Name 0 [] ∷ CloseBrace ∷ []) _ a (refl, (refl, tt)) refl (items_fill S n (Name 0 [] ∷ []) _ (items-one item-flow))
  live (OpensName S n x) all a = midway_live S _ Program all (CloseBrace ∷ []) _ a.1 (refl, tt) refl (items_fill S n (Name a.0 x ∷ []) _ (items-one item-flow))
  live (OpensPrime S n x) all a =
      midway_live S _ Program all (Op Equal ∷ Number nought ∷ CloseBrace ∷ []) _ a.1 (refl, (refl, (refl, tt))) refl
      (items_fill S n (Name a.0 x ∷ Prime ∷ Op Equal ∷ Number nought ∷ []) _ (items-one (item-evolve zero_reads)))
  live (WantsItem S n l) all a =
      midway_live S _ Program all (Name 0 [] ∷ CloseBrace ∷ []) _ a.2 (refl, (refl, tt)) (brace_parts n a.0 (Name 0 [] ∷ []) CloseBrace)
      (items_fill S n (a.0 ++ Name 0 [] ∷ []) _ (items_joined a.1 item-flow))
  live (ItemName S n l x) all a =
      midway_live S _ Program all (CloseBrace ∷ []) _ a.3 (refl, tt) refl (items_fill S n (a.0 ++ Name a.1 x ∷ []) _ (items_joined a.2 item-flow))
  live (ItemPrime S n l x) all a =
      midway_live S _ Program all (Op Equal ∷ Number nought ∷ CloseBrace ∷ []) _ a.3 (refl, (refl, (refl, tt)))
      (item_parts n a.0 (Name a.1 x ∷ Prime ∷ []) (Op Equal ∷ Number nought ∷ []) CloseBrace)
      (items_fill S n (a.0 ++ Name a.1 x ∷ Prime ∷ Op Equal ∷ Number nought ∷ []) _ (items_joined a.2 (item-evolve zero_reads)))
  live (ItemBar S n l x) all a =
      midway_live S _ Program all (Name 0 [] ∷ BarBrace ∷ CloseBrace ∷ []) _ a.3 (refl, (refl, (refl, tt)))
      (item_parts n a.0 (Name a.1 x ∷ BraceBar ∷ []) (Name 0 [] ∷ BarBrace ∷ []) CloseBrace)
      (items_fill S n (a.0 ++ Name a.1 x ∷ BraceBar ∷ Name 0 [] ∷ BarBrace ∷ []) _ (items_joined a.2 item-except))
  live (ItemBarName S n l x y) all a =
      midway_live S _ Program all (BarBrace ∷ CloseBrace ∷ []) _ a.4 (refl, (refl, tt))
      (item_parts n a.0 (Name a.1 x ∷ BraceBar ∷ Name a.2 y ∷ []) (BarBrace ∷ []) CloseBrace)
      (items_fill S n (a.0 ++ Name a.1 x ∷ BraceBar ∷ Name a.2 y ∷ BarBrace ∷ []) _ (items_joined a.3 item-except))
  live (ItemEnds S n l) all a = midway_live S _ Program all (CloseBrace ∷ []) _ a.2 (refl, tt) refl (items_fill S n a.0 l a.1)
  live (Invariants S t) all a =
      midway_live S _ Program all (Open ∷ True ∷ Close ∷ []) _ a.2 (refl, (refl, (refl, tt))) (invariant_parts a.0)
      (λ f. stmt_fills g S ((a.0 ++ Invariant ∷ Open ∷ []) ++ (True ∷ Close ∷ [])) _ f (end_stmt (end_invariants a.1 list-begins (True ∷ []) Truth true_reads)))

  pub states_after : (x : State) (all s : List Lexeme) (y : State) → After g x all → states (reader g) x s ≡ Some y → After g y (all ++ s)
  states_after x all [] y a e = rw append-nil (subst (λ (z : State). After g z all) (some_is x y e) a)
  states_after x all (k ∷ s) y a e =
      let b = bind_some (step g x k) (λ z. states (reader g) z s) y e in
      subst (λ (l : List Lexeme). After g y l) (append_assoc all (k ∷ []) s) (states_after b.0 (all ++ k ∷ []) s y (moves g x k b.0 all a b.1) b.2)
