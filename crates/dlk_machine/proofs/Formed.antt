-- What is read is well made, where the names, numbers and dots of the lexemes are real.
use Rattle.std.proofs.Common.{◌≡◌, ℕ, zero, suc, ◌+◌, ◌<◌, ◌≤◌, Bool, true, false, nat_le, List, [], ◌∷◌, ◌++◌, length, refl, sym, ap, ◌∙◌, arith}
use Rattle.std.proofs.Common.{IsTrue, length-append}
use Rattle.std.specs.Prelude.{replicate, not}
use Rattle.std.specs.List.{list_all, All as AllOf}
use Rattle.std.proofs.lemmas.Bool.{le-leb, lt-ltb, ltb-false, and_from, or_parts, not-false}
use Rattle.std.proofs.lemmas.List.{append-nil, replicate_more}
use Rattle.std.proofs.lemmas.List.Elements.{All-nil, All-cons}
use Rattle.std.proofs.lemmas.List.Folds.{list_all-append}
use Rattle.dlk_tree.specs.Names.{is_name}
use Rattle.dlk_tree.specs.Table.{is_num, is_sym_of, is_item, taboo_is_name, are_items, all_distinct, evolved, sort_of, kid_sorts, has_parts}
use Rattle.dlk_tree.specs.Trees.{Tree, node, forest, sort, sorts, WellMade, AllWellMade}
use Rattle.dlk_tree.specs.Occurs.{has_dots, has_hole, any_has, is_some_dot, is_hole}
use Rattle.dlk_tree.specs.declared.op.Op.{Op as TreeOp}
use Rattle.dlk_tree.specs.declared.op.Op.TheVariants as op
use Rattle.dlk_tree.specs.declared.op.OdeItem.{OdeItem}
use Rattle.dlk_tree.specs.declared.op.OdeItem.TheVariants as ode
use Rattle.dlk_tree.specs.declared.op.Kind.TheVariants.{Func, UnitFunc, Pred, UnitPred, Quant, Prog}
use Rattle.dlk_tree.specs.declared.op.Sort.{Sort}
use Rattle.dlk_tree.specs.declared.op.Sort.TheVariants.{Term, Formula, Program}
use Rattle.dlk_calculus.specs.Sequents.{IsFormula, IsSequent}
use Rattle.dlk_grammar.specs.declared.token.Dots.TheVariants.{Refused}
use Rattle.dlk_grammar.specs.declared.token.Infix.{Infix}
use Rattle.dlk_grammar.specs.declared.token.Infix.TheVariants.{Equiv, Imply, Or, And, Equal, NotEqual, AtLeast, Greater, AtMost, Less, Add, Sub, Mul}
use Rattle.dlk_grammar.specs.declared.token.Infix.TheVariants.{Div, Pow, Choice}
use Rattle.dlk_grammar.specs.Lexemes.{Word, Lexeme, Name, Number, Dot, Invariant, Open, Close, OpenBox, CloseBox, OpenBrace, CloseBrace, Prime, Gets}
use Rattle.dlk_grammar.specs.Lexemes.{Query, Semi, Comma, Turnstile, Op}
use Rattle.dlk_grammar.specs.Phrases.{Space, Everywhere, Except, Phrase, Phrases, none, Apply, Holds, Call, Item, Evolve, Flow, Items, no_items, add}
use Rattle.dlk_grammar.specs.Phrases.{System, Truth}
use Rattle.dlk_grammar.specs.Grammar.{Nonterminal, formula, Reads, formula-imp, formula-equiv, imp-disj, imp-imply, disj-conj, disj-or, conj-unf}
use Rattle.dlk_grammar.specs.Grammar.{conj-and, unf-not, unf-forall, unf-exists, unf-box, unf-dia, unf-atom, atom-true, atom-false, atom-hole}
use Rattle.dlk_grammar.specs.Grammar.{atom-compare, atom-nullary, atom-holds, atom-any, atom-except, atom-context, atom-bracket, atom-diff, term-mul}
use Rattle.dlk_grammar.specs.Grammar.{term-add, term-sub, mul-neg, mul-times, mul-over, neg-pow, neg-minus, pow-prim, pow-power, prim-number}
use Rattle.dlk_grammar.specs.Grammar.{prim-dot, prim-name, prim-primed, prim-nullary, prim-apply, prim-any, prim-except, prim-bracket, prim-diff}
use Rattle.dlk_grammar.specs.Grammar.{prog-seq, prog-choice, seq-stmt, seq-then, stmt-const, stmt-assign, stmt-assign_prime, stmt-any, stmt-test}
use Rattle.dlk_grammar.specs.Grammar.{stmt-group, Compares, cmp-equal, cmp-not_equal, cmp-at_least, cmp-greater, cmp-at_most, cmp-less, ReadsList}
use Rattle.dlk_grammar.specs.Grammar.{list-one, list-more, ReadsBrace, brace-prog, brace-items, brace-domain, ReadsItems, items-one, items-more}
use Rattle.dlk_grammar.specs.Grammar.{ReadsItem, item-evolve, item-flow, item-except, ReadsStar, star-none, star-loop, ReadsInv, inv-none, inv-some}
use Rattle.dlk_grammar.specs.Grammar.{ReadsSide, side-nothing, side-list, Sides, Turned, ReadsSequent, sequent-sides, ReadsExpression, as-formula}
use Rattle.dlk_grammar.specs.Grammar.{as-program, as-term}
use Rattle.dlk_grammar.specs.Erased.{erase, erase_all, item_of, ode_items, item_terms, symbol, taboo, ills, ills_of_all, ills_of_items, count}
use Rattle.dlk_grammar.specs.Erased.{is_ill_call, is_ill_system, place_if, infix_op}
use Rattle.dlk_grammar.specs.Readings.{permits, Permitted, erase_sides}
use Rattle.dlk_machine.specs.Levels.{form_sort}

abbrev pub Each : {X : Type 0} → (X → Type 0) → List X → Type 0
Each P [] = Unit {0}
Each P (x ∷ xs) = P x × Each P xs

pub each_parts : {X : Type 0} (P : X → Type 0) (s r : List X) → Each P (s ++ r) → Each P s × Each P r
each_parts P [] r h = (tt, h)
each_parts P (k ∷ s) r h = let w = each_parts P s r h.1 in ((h.0, w.0), w.1)

pub each_append : {X : Type 0} (P : X → Type 0) (s r : List X) → Each P s → Each P r → Each P (s ++ r)
each_append P [] r h g = g
each_append P (k ∷ s) r h g = (h.0, each_append P s r h.1 g)

-- the name, number or dot of a lexeme is one that a tree may have
abbrev pub IsReal : Lexeme → Type 0
IsReal (Name n x) = IsTrue (is_name x)
IsReal (Number d) = IsTrue (is_num d)
IsReal (Dot n) = n < 8
IsReal _ = Unit {0}

abbrev pub AreReal : List Lexeme → Type 0
AreReal s = Each IsReal s

-- the place of a name or brace is below a number
abbrev pub IsBelow : ℕ → Lexeme → Type 0
IsBelow m (Name n x) = n < m
IsBelow m (OpenBrace n) = n < m
IsBelow m _ = Unit {0}

abbrev pub AreBelow : ℕ → List Lexeme → Type 0
AreBelow m s = Each (IsBelow m) s

-- a lexeme that may stand where dots are refused
abbrev pub IsPlain : Lexeme → Type 0
IsPlain k = permits Refused k ≡ true

abbrev pub ArePlain : List Lexeme → Type 0
ArePlain s = Each IsPlain s

pub plain_from : (s : List Lexeme) → Permitted Refused s → ArePlain s
plain_from [] h = tt
plain_from (k ∷ s) h = (h.0, plain_from s h.1)

-- no dot and no hole stands in the trees
pub record AreBare (ts : List Tree) : Type 0 where
  pub no_dot : any_has is_some_dot (forest ts) ≡ false
  pub no_hole : any_has is_hole (forest ts) ≡ false

-- What is known of the trees that some lexemes are: their sorts, and the places of ill shape.
pub record Grown (s : List Lexeme) (kinds : List Sort) (places : List ℕ) (ts : List Tree) : Type 0 where
  pub sorts_are : sorts (forest ts) ≡ kinds
  pub below : (m : ℕ) → AreBelow m s → Each (λ n. n < m) places
  pub made : AreReal s → places ≡ [] → AllWellMade (forest ts)
  pub bare : ArePlain s → AreBare ts

-- lists of trees
sorts_append : (ts us : List Tree) → sorts (forest (ts ++ us)) ≡ sorts (forest ts) ++ sorts (forest us)
sorts_append [] us = refl
sorts_append (t ∷ ts) us = ap (λ (l : List Sort). sort t ∷ l) (sorts_append ts us)

made_append : (ts us : List Tree) → AllWellMade (forest ts) → AllWellMade (forest us) → AllWellMade (forest (ts ++ us))
made_append [] us h g = g
made_append (t ∷ ts) us h g = (h.0, made_append ts us h.1 g)

has_append : (test : TreeOp → Bool) (ts us : List Tree) → any_has test (forest ts) ≡ false → any_has test (forest us) ≡ false
    → any_has test (forest (ts ++ us)) ≡ false
has_append test [] us h g = g
has_append test (t ∷ ts) us h g = let w = or_parts _ (any_has test (forest ts)) h in rw (w.0) (has_append test ts us w.1 g)

pub none_left : {X : Type 0} (xs ys : List X) → xs ++ ys ≡ [] → xs ≡ []
none_left [] ys e = refl
none_left (x ∷ xs) ys e = absurd cc

pub none_right : {X : Type 0} (xs ys : List X) → xs ++ ys ≡ [] → ys ≡ []
none_right [] ys e = e
none_right (x ∷ xs) ys e = absurd cc

-- some of the lexemes of w
abbrev pub Part : List Lexeme → List Lexeme → Type 1
Part s w = (P : Lexeme → Type 0) → Each P w → Each P s

part_front : (s r : List Lexeme) → Part s (s ++ r)
part_front s r P h = (each_parts P s r h).0

part_behind : (s r : List Lexeme) → Part r (s ++ r)
part_behind s r P h = (each_parts P s r h).1

part_in : (k : Lexeme) (s r : List Lexeme) → Part s (k ∷ (s ++ r))
part_in k s r P h = (each_parts P s r h.1).0

pub part_last : (s r : List Lexeme) (k : Lexeme) → Part r (s ++ k ∷ r)
part_last s r k P h = (each_parts P s _ h).1.1

pub widen : {s w : List Lexeme} {kinds : List Sort} {places : List ℕ} {ts : List Tree} → Part s w → Grown s kinds places ts → Grown w kinds places ts
widen part g = record {
  sorts_are = g.sorts_are;
  below = λ m h. g.below m (part (IsBelow m) h);
  made = λ h e. g.made (part IsReal h) e;
  bare = λ h. g.bare (part IsPlain h);
}

-- trees of the same lexemes, in order
join : {w : List Lexeme} {kinds more : List Sort} {places others : List ℕ} {ts us : List Tree} → Grown w kinds places ts → Grown w more others us
    → Grown w (kinds ++ more) (places ++ others) (ts ++ us)
join {kinds = kinds} {places = places} {others = others} {ts = ts} {us = us} g h = record {
  sorts_are = sorts_append ts us ∙ ap (λ (l : List Sort). l ++ sorts (forest us)) g.sorts_are ∙ ap (λ (l : List Sort). kinds ++ l) h.sorts_are;
  below = λ m b. each_append _ places others (g.below m b) (h.below m b);
  made = λ r e. made_append ts us (g.made r (none_left places others e)) (h.made r (none_right places others e));
  bare =
      λ p.
      record {
        no_dot = has_append is_some_dot ts us (g.bare p).no_dot (h.bare p).no_dot;
        no_hole = has_append is_hole ts us (g.bare p).no_hole (h.bare p).no_hole;
      };
}

nothing : {w : List Lexeme} → Grown w [] [] []
nothing = record { sorts_are = refl; below = λ m h. tt; made = λ h e. tt; bare = λ h. record { no_dot = refl; no_hole = refl } }

-- other words for the sorts
resort : {w : List Lexeme} {kinds others : List Sort} {places : List ℕ} {ts : List Tree} → kinds ≡ others → Grown w kinds places ts → Grown w others places ts
resort e g = record { sorts_are = g.sorts_are ∙ e; below = g.below; made = g.made; bare = g.bare }

-- what leaves nothing in the tree
noted : {w : List Lexeme} {kinds more : List Sort} {places others : List ℕ} {ts us : List Tree} → Grown w kinds places ts → Grown w more others us
    → Grown w kinds (places ++ others) ts
noted {places = places} {others = others} g h = record {
  sorts_are = g.sorts_are;
  below = λ m b. each_append _ places others (g.below m b) (h.below m b);
  made = λ r e. g.made r (none_left places others e);
  bare = g.bare;
}

-- A tree over such kids, which may itself be of ill shape.
over_ill : {w : List Lexeme} {kinds : List Sort} {places : List ℕ} {ts : List Tree} (o : TreeOp) (own : List ℕ) → Grown w kinds places ts
    → kinds ≡ kid_sorts o → ((m : ℕ) → AreBelow m w → Each (λ n. n < m) own) → (AreReal w → own ≡ [] → IsTrue (has_parts o)) → is_some_dot o ≡ false
    → is_hole o ≡ false
    → Grown w (sort_of o ∷ []) (own ++ places) (node o (forest ts) ∷ [])
over_ill {places = places} {ts = ts} o own g k b p d n = record {
  sorts_are = refl;
  below = λ m h. each_append _ own places (b m h) (g.below m h);
  made = λ h e. ((record { kids_fit = g.sorts_are ∙ k; parts_fit = p h (none_left own places e) }, g.made h (none_right own places e)), tt);
  bare = λ h. let w = g.bare h in record { no_dot = rw (d, w.no_dot) refl; no_hole = rw (n, w.no_hole) refl };
}

-- A tree over such kids.
over : {w : List Lexeme} {kinds : List Sort} {places : List ℕ} {ts : List Tree} (o : TreeOp) → Grown w kinds places ts → kinds ≡ kid_sorts o
    → (AreReal w → IsTrue (has_parts o)) → is_some_dot o ≡ false → is_hole o ≡ false → Grown w (sort_of o ∷ []) places (node o (forest ts) ∷ [])
over o g k p d n = over_ill o [] g k (λ m b. tt) (λ r e. p r) d n

-- a tree without kids
leaf : {w : List Lexeme} (o : TreeOp) → [] ≡ kid_sorts o → (AreReal w → IsTrue (has_parts o)) → is_some_dot o ≡ false → is_hole o ≡ false
    → Grown w (sort_of o ∷ []) [] (node o (forest []) ∷ [])
leaf o k p d n = over o nothing k p d n

-- operators over one and over two trees, with no parts of their own
one : {s w : List Lexeme} {x : Sort} {places : List ℕ} {t : Tree} (o : TreeOp) → Part s w → Grown s (x ∷ []) places (t ∷ []) → x ∷ [] ≡ kid_sorts o
    → (AreReal w → IsTrue (has_parts o)) → is_some_dot o ≡ false → is_hole o ≡ false → Grown w (sort_of o ∷ []) places (node o (forest (t ∷ [])) ∷ [])
one o part g k p d n = over o (widen part g) k p d n

two : {s r w : List Lexeme} {x y : Sort} {places others : List ℕ} {t u : Tree} (o : TreeOp) → Part s w → Part r w → Grown s (x ∷ []) places (t ∷ [])
    → Grown r (y ∷ []) others (u ∷ []) → x ∷ y ∷ [] ≡ kid_sorts o → IsTrue (has_parts o) → is_some_dot o ≡ false → is_hole o ≡ false
    → Grown w (sort_of o ∷ []) (places ++ others) (node o (forest (t ∷ u ∷ [])) ∷ [])
two o front behind g h k p d n = over o (join (widen front g) (widen behind h)) k (λ r. p) d n

-- an operator's token between two operands
between : {s r : List Lexeme} {x y : Sort} {places others : List ℕ} {t u : Tree} (k : Lexeme) (o : TreeOp) → Grown s (x ∷ []) places (t ∷ [])
    → Grown r (y ∷ []) others (u ∷ []) → x ∷ y ∷ [] ≡ kid_sorts o → IsTrue (has_parts o) → is_some_dot o ≡ false → is_hole o ≡ false
    → Grown (s ++ k ∷ r) (sort_of o ∷ []) (places ++ others) (node o (forest (t ∷ u ∷ [])) ∷ [])
between {s = s} {r = r} k o g h e p d n = two o (part_front s (k ∷ r)) (part_last s r k) g h e p d n

-- symbols
place_below : (ill : Bool) (n m : ℕ) → n < m → Each (λ k. k < m) (place_if ill n)
place_below true n m h = (h, tt)
place_below false n m h = tt

no_place : (ill : Bool) (n : ℕ) → place_if ill n ≡ [] → ill ≡ false
no_place true n e = absurd cc
no_place false n e = refl

few : (l : Phrases) → is_ill_call l ≡ false → nat_le (count l) 8 ≡ true
few l e = le-leb (count l) 8 (ltb-false 8 (count l) e)

func_parts : (x : Word) (l : Phrases) → IsTrue (is_name x) → is_ill_call l ≡ false → is_sym_of Func (symbol Func x (count l) Everywhere) ≡ true
func_parts x l h e = rw (h, few l e) refl

pred_parts : (x : Word) (l : Phrases) → IsTrue (is_name x) → is_ill_call l ≡ false → is_sym_of Pred (symbol Pred x (count l) Everywhere) ≡ true
pred_parts x l h e = rw (h, few l e) refl

-- applications
applied : {w : List Lexeme} (n : ℕ) (x : Word) (l : Phrases) → ((m : ℕ) → AreBelow m w → n < m) → (AreReal w → IsTrue (is_name x))
    → Grown w (replicate (count l) Term) (ills_of_all l) (erase_all l) → Grown w (Term ∷ []) (ills (Apply (Call n x l))) (erase (Apply (Call n x l)) ∷ [])
applied n x l b h g =
    over_ill (op.Apply (symbol Func x (count l) Everywhere)) (place_if (is_ill_call l) n) g refl (λ m c. place_below (is_ill_call l) n m (b m c))
    (λ r e. func_parts x l (h r) (no_place (is_ill_call l) n e)) refl refl

held : {w : List Lexeme} (n : ℕ) (x : Word) (l : Phrases) → ((m : ℕ) → AreBelow m w → n < m) → (AreReal w → IsTrue (is_name x))
    → Grown w (replicate (count l) Term) (ills_of_all l) (erase_all l) → Grown w (Formula ∷ []) (ills (Holds (Call n x l))) (erase (Holds (Call n x l)) ∷ [])
held n x l b h g =
    over_ill (op.Holds (symbol Pred x (count l) Everywhere)) (place_if (is_ill_call l) n) g refl (λ m c. place_below (is_ill_call l) n m (b m c))
    (λ r e. pred_parts x l (h r) (no_place (is_ill_call l) n e)) refl refl

-- items of a system
pub record GrownItems (w : List Lexeme) (l : Items) : Type 0 where
  pub grown : Grown w (replicate (length (evolved (ode_items l))) Term) (ills_of_items l) (item_terms l)
  pub real : AreReal w → list_all is_item (ode_items l) ≡ true

evolved_append : (xs ys : List OdeItem) → evolved (xs ++ ys) ≡ evolved xs ++ evolved ys
evolved_append [] ys = refl
evolved_append (ode.Evolve x ∷ xs) ys = ap (λ (l : List Word). x ∷ l) (evolved_append xs ys)
evolved_append (ode.Const s ∷ xs) ys = evolved_append xs ys

evolved_more : (xs : List OdeItem) (x : Word) → replicate (length (evolved xs)) Term ++ Term ∷ [] ≡ replicate (length (evolved (xs ++ ode.Evolve x ∷ []))) Term
evolved_more xs x =
    let count : length (evolved (xs ++ ode.Evolve x ∷ [])) ≡ length (evolved xs) + 1 =
    ap length (evolved_append xs (ode.Evolve x ∷ [])) ∙ length-append (evolved xs) (x ∷ []) in
    replicate_more (length (evolved xs)) Term ∙ ap (λ n. replicate n Term) (sym count)

add_item : {s r : List Lexeme} (l : Items) (i : Item) → GrownItems s l → GrownItems r (add no_items i) → GrownItems (s ++ Comma ∷ r) (add l i)
add_item {s = s} {r = r} l (Evolve x a) g h = record {
  grown = resort (evolved_more (ode_items l) x) (join (widen (part_front s (Comma ∷ r)) g.grown) (widen (part_last s r Comma) h.grown));
  real =
      λ p.
      list_all-append is_item (ode_items l) (ode.Evolve x ∷ [])
      ∙ and_from _ _ (g.real (part_front s (Comma ∷ r) IsReal p)) (h.real (part_last s r Comma IsReal p));
}
add_item {s = s} {r = r} l (Flow x e) g h = record {
  grown =
      resort
      (ap (λ (k : List Word). replicate (length k) Term) (sym (evolved_append (ode_items l) (item_of (Flow x e) ∷ []) ∙ append-nil (evolved (ode_items l)))))
      (widen (part_front s (Comma ∷ r)) g.grown);
  real =
      λ p.
      list_all-append is_item (ode_items l) (item_of (Flow x e) ∷ [])
      ∙ and_from _ _ (g.real (part_front s (Comma ∷ r) IsReal p)) (h.real (part_last s r Comma IsReal p));
}

items_in : {s w : List Lexeme} {l : Items} → Part s w → GrownItems s l → GrownItems w l
items_in part g = record { grown = widen part g.grown; real = λ r. g.real (part IsReal r) }

some_items : {s : List Lexeme} {l : Items} → ReadsItems s l → 1 ≤ length (ode_items l)
some_items (items-one {i = i} d) = omega arith
some_items (items-more {l = l} {i = i} p d) = omega (arith, length-append (ode_items l) (item_of i ∷ []))

system_parts : (l : Items) → 1 ≤ length (ode_items l) → list_all is_item (ode_items l) ≡ true → is_ill_system l ≡ false → are_items (ode_items l) ≡ true
system_parts l some items e =
    let w = or_parts _ (not (all_distinct (evolved (ode_items l)))) e in
    let most : nat_le (length (ode_items l)) 64 ≡ true = le-leb _ 64 (ltb-false 64 _ w.0) in
    let least : nat_le 1 (length (ode_items l)) ≡ true = le-leb 1 _ some in
    rw (least, most, items, not-false _ w.1) refl

system : {w : List Lexeme} (n : ℕ) (l : Items) (a : Phrase) → ((m : ℕ) → AreBelow m w → n < m) → 1 ≤ length (ode_items l) → GrownItems w l
    → Grown w (Formula ∷ []) (ills a) (erase a ∷ []) → Grown w (Program ∷ []) (ills (System n l a)) (erase (System n l a) ∷ [])
system n l a b some g h =
    over_ill (op.System (ode_items l)) (place_if (is_ill_system l) n) (join g.grown h) refl (λ m c. place_below (is_ill_system l) n m (b m c))
    (λ r e. system_parts l some (g.real r) (no_place (is_ill_system l) n e)) refl refl

-- symbols without arguments
unit_pred : (x : Word) (e : Space) → IsTrue (is_name x) → taboo_is_name (taboo e) ≡ true → is_sym_of UnitPred (symbol UnitPred x 0 e) ≡ true
unit_pred x Everywhere h e = rw h refl
unit_pred x (Except y) h e = rw (h, e) refl

unit_func : (x : Word) (e : Space) → IsTrue (is_name x) → taboo_is_name (taboo e) ≡ true → is_sym_of UnitFunc (symbol UnitFunc x 0 e) ≡ true
unit_func x Everywhere h e = rw h refl
unit_func x (Except y) h e = rw (h, e) refl

flow_parts : (x : Word) (e : Space) → IsTrue (is_name x) → taboo_is_name (taboo e) ≡ true → list_all is_item (ode_items (add no_items (Flow x e))) ≡ true
flow_parts x Everywhere h e = rw h refl
flow_parts x (Except y) h e = rw (h, e) refl

quant_parts : (x : Word) → IsTrue (is_name x) → is_sym_of Quant (symbol Quant x 0 Everywhere) ≡ true
quant_parts x h = rw h refl

prog_parts : (x : Word) → IsTrue (is_name x) → is_sym_of Prog (symbol Prog x 0 Everywhere) ≡ true
prog_parts x h = rw h refl

not_plain : false ≡ true → ⊥
not_plain e = absurd cc

compared : {o : Infix} {s r : List Lexeme} {places others : List ℕ} {t u : Tree} → Compares o → Grown s (Term ∷ []) places (t ∷ [])
    → Grown r (Term ∷ []) others (u ∷ []) → Grown (s ++ Op o ∷ r) (Formula ∷ []) (places ++ others) (node (infix_op o) (forest (t ∷ u ∷ [])) ∷ [])
compared cmp-equal g h = between (Op Equal) op.Eq g h refl refl refl refl
compared cmp-not_equal g h = between (Op NotEqual) op.Ne g h refl refl refl refl
compared cmp-at_least g h = between (Op AtLeast) op.Ge g h refl refl refl refl
compared cmp-greater g h = between (Op Greater) op.Gt g h refl refl refl refl
compared cmp-at_most g h = between (Op AtMost) op.Le g h refl refl refl refl
compared cmp-less g h = between (Op Less) op.Lt g h refl refl refl refl

starred : {q w : List Lexeme} {a b : Phrase} → ReadsStar q a b → Grown w (Program ∷ []) (ills a) (erase a ∷ []) → Grown w (Program ∷ []) (ills b) (erase b ∷ [])
starred star-none g = g
starred star-loop g = over op.Loop g refl (λ r. refl) refl refl

group_part : (s q i e : List Lexeme) → Part (s ++ i) (s ++ (q ++ (i ++ e)))
group_part s q i e P h =
    let w = each_parts P s (q ++ (i ++ e)) h in
    each_append P s i w.0 (part_front i e P (part_behind q (i ++ e) P w.1))

mutual
  -- each nonterminal's trees
  pub grown : {f : Nonterminal} {s : List Lexeme} {p : Phrase} → Reads f s p → Grown s (form_sort f ∷ []) (ills p) (erase p ∷ [])
  grown (formula-imp d) = grown d
  grown (formula-equiv d e) = between (Op Equiv) op.Equiv (grown d) (grown e) refl refl refl refl
  grown (imp-disj d) = grown d
  grown (imp-imply d e) = between (Op Imply) op.Imply (grown d) (grown e) refl refl refl refl
  grown (disj-conj d) = grown d
  grown (disj-or d e) = between (Op Or) op.Or (grown d) (grown e) refl refl refl refl
  grown (conj-unf d) = grown d
  grown (conj-and d e) = between (Op And) op.And (grown d) (grown e) refl refl refl refl
  grown (unf-not d) = one op.Not (λ P h. h.1) (grown d) refl (λ r. refl) refl refl
  grown (unf-forall {x = x} d) = one (op.Forall x) (λ P h. h.1.1) (grown d) refl (λ r. r.1.0) refl refl
  grown (unf-exists {x = x} d) = one (op.Exists x) (λ P h. h.1.1) (grown d) refl (λ r. r.1.0) refl refl
  grown (unf-box {s = s} {r = r} d e) =
      two op.Box (part_in OpenBox s (CloseBox ∷ r)) (λ P h. part_last s r CloseBox P h.1) (grown d) (grown e) refl refl refl refl
  grown (unf-dia {s = s} {r = r} d e) =
      two op.Dia (part_in (Op Less) s (Op Greater ∷ r)) (λ P h. part_last s r (Op Greater) P h.1) (grown d) (grown e) refl refl refl refl
  grown (unf-atom d) = grown d
  grown atom-true = leaf op.True refl (λ r. refl) refl refl
  grown atom-false = leaf op.False refl (λ r. refl) refl refl
  grown atom-hole = record {
    sorts_are = refl;
    below = λ m h. tt;
    made = λ r e. ((record { kids_fit = refl; parts_fit = refl }, tt), tt);
    bare = λ h. absurd (not_plain h.0);
  }
  grown (atom-compare c d e) = compared c (grown d) (grown e)
  grown (atom-nullary {n = n} {x = x}) = held n x none (λ m b. b.0) (λ r. r.0) nothing
  grown (atom-holds {n = n} {x = x} {s = s} {l = l} d) = held n x l (λ m b. b.0) (λ r. r.0) (widen (λ P h. part_in Open s (Close ∷ []) P h.1) (grown_list d))
  grown (atom-any {x = x}) = leaf (op.UnitPred (symbol UnitPred x 0 Everywhere)) refl (λ r. unit_pred x Everywhere r.0 refl) refl refl
  grown (atom-except {x = x} {y = y}) = leaf (op.UnitPred (symbol UnitPred x 0 (Except y))) refl (λ r. unit_pred x (Except y) r.0 r.1.1.0) refl refl
  grown (atom-context {m = m} {x = x} {s = s} d) =
      one (op.Predicational (symbol Quant x 0 Everywhere)) (λ P h. part_in (OpenBrace m) s (CloseBrace ∷ []) P h.1) (grown d) refl (λ r. quant_parts x r.0) refl
      refl
  grown (atom-bracket {s = s} d) = widen (part_in Open s (Close ∷ [])) (grown d)
  grown (atom-diff {s = s} d) = one op.DiffF (part_in Open s (Close ∷ Prime ∷ [])) (grown d) refl (λ r. refl) refl refl
  grown (term-mul d) = grown d
  grown (term-add d e) = between (Op Add) op.Add (grown d) (grown e) refl refl refl refl
  grown (term-sub d e) = between (Op Sub) op.Sub (grown d) (grown e) refl refl refl refl
  grown (mul-neg d) = grown d
  grown (mul-times d e) = between (Op Mul) op.Mul (grown d) (grown e) refl refl refl refl
  grown (mul-over d e) = between (Op Div) op.Div (grown d) (grown e) refl refl refl refl
  grown (neg-pow d) = grown d
  grown (neg-minus d) = one op.Neg (λ P h. h.1) (grown d) refl (λ r. refl) refl refl
  grown (pow-prim d) = grown d
  grown (pow-power d e) = between (Op Pow) op.Pow (grown d) (grown e) refl refl refl refl
  grown (prim-number {n = d}) = leaf (op.Number d) refl (λ r. r.0) refl refl
  grown (prim-dot {n = n}) = record {
    sorts_are = refl;
    below = λ m h. tt;
    made = λ r e. ((record { kids_fit = refl; parts_fit = lt-ltb n 8 r.0 }, tt), tt);
    bare = λ h. absurd (not_plain h.0);
  }
  grown (prim-name {x = x}) = leaf (op.Variable (record { name = x; primed = false })) refl (λ r. r.0) refl refl
  grown (prim-primed {x = x}) = leaf (op.Variable (record { name = x; primed = true })) refl (λ r. r.0) refl refl
  grown (prim-nullary {n = n} {x = x}) = applied n x none (λ m b. b.0) (λ r. r.0) nothing
  grown (prim-apply {n = n} {x = x} {s = s} {l = l} d) = applied n x l (λ m b. b.0) (λ r. r.0) (widen (λ P h. part_in Open s (Close ∷ []) P h.1) (grown_list d))
  grown (prim-any {x = x}) = leaf (op.UnitFun (symbol UnitFunc x 0 Everywhere)) refl (λ r. unit_func x Everywhere r.0 refl) refl refl
  grown (prim-except {x = x} {y = y}) = leaf (op.UnitFun (symbol UnitFunc x 0 (Except y))) refl (λ r. unit_func x (Except y) r.0 r.1.1.0) refl refl
  grown (prim-bracket {s = s} d) = widen (part_in Open s (Close ∷ [])) (grown d)
  grown (prim-diff {s = s} d) = one op.Diff (part_in Open s (Close ∷ Prime ∷ [])) (grown d) refl (λ r. refl) refl refl
  grown (prog-seq d) = grown d
  grown (prog-choice d e) = between (Op Choice) op.Choice (grown d) (grown e) refl refl refl refl
  grown (seq-stmt d) = grown d
  grown (seq-then {s = s} {r = r} d e) = two op.Seq (part_front s r) (part_behind s r) (grown d) (grown e) refl refl refl refl
  grown (stmt-const {x = x}) = leaf (op.Const (symbol Prog x 0 Everywhere)) refl (λ r. prog_parts x r.0) refl refl
  grown (stmt-assign {x = x} {s = s} d) =
      one (op.Assign (record { name = x; primed = false })) (λ P h. part_in Gets s (Semi ∷ []) P h.1) (grown d) refl (λ r. r.0) refl refl
  grown (stmt-assign_prime {x = x} {s = s} d) =
      one (op.Assign (record { name = x; primed = true })) (λ P h. part_in Gets s (Semi ∷ []) P h.1.1) (grown d) refl (λ r. r.0) refl refl
  grown (stmt-any {x = x}) = leaf (op.Any x) refl (λ r. r.0) refl refl
  grown (stmt-test {s = s} d) = one op.Test (part_in Query s (Semi ∷ [])) (grown d) refl (λ r. refl) refl refl
  grown (stmt-group {s = s} {q = q} {i = i} {e = e} d star inv semi) = widen (group_part s q i e) (grown_inv inv (starred star (grown_brace d)))

  pub grown_list : {f : Nonterminal} {s : List Lexeme} {l : Phrases} → ReadsList f s l
      → Grown s (replicate (count l) (form_sort f)) (ills_of_all l) (erase_all l)
  grown_list (list-one d) = grown d
  grown_list (list-more {f = f} {s = s} {r = r} {l = l} p d) =
      resort (replicate_more (count l) (form_sort f)) (join (widen (part_front s (Comma ∷ r)) (grown_list p)) (widen (part_last s r Comma) (grown d)))

  pub grown_brace : {s : List Lexeme} {a : Phrase} → ReadsBrace s a → Grown s (Program ∷ []) (ills a) (erase a ∷ [])
  grown_brace (brace-prog {n = n} {s = s} d) = widen (part_in (OpenBrace n) s (CloseBrace ∷ [])) (grown d)
  grown_brace (brace-items {n = n} {s = s} {l = l} p) =
      system n l Truth (λ m b. b.0) (some_items p) (items_in (part_in (OpenBrace n) s (CloseBrace ∷ [])) (grown_items p))
      (leaf op.True refl (λ r. refl) refl refl)
  grown_brace (brace-domain {n = n} {s = s} {r = r} {l = l} {a = a} p d) =
      system n l a (λ m b. b.0) (some_items p) (items_in (part_in (OpenBrace n) s (Op And ∷ (r ++ CloseBrace ∷ []))) (grown_items p))
      (widen (λ P h. part_front r (CloseBrace ∷ []) P (part_last s (r ++ CloseBrace ∷ []) (Op And) P h.1)) (grown d))

  grown_items : {s : List Lexeme} {l : Items} → ReadsItems s l → GrownItems s l
  grown_items (items-one i) = grown_item i
  grown_items (items-more {l = l} {i = i} p d) = add_item l i (grown_items p) (grown_item d)

  grown_item : {s : List Lexeme} {i : Item} → ReadsItem s i → GrownItems s (add no_items i)
  grown_item (item-evolve {x = x} d) = record { grown = widen (λ P h. h.1.1.1) (grown d); real = λ r. rw (r.0) refl }
  grown_item (item-flow {x = x}) = record { grown = nothing; real = λ r. flow_parts x Everywhere r.0 refl }
  grown_item (item-except {x = x} {y = y}) = record { grown = nothing; real = λ r. flow_parts x (Except y) r.0 r.1.1.0 }

  grown_inv : {s i : List Lexeme} {b c : Phrase} → ReadsInv i b c → Grown s (Program ∷ []) (ills b) (erase b ∷ [])
      → Grown (s ++ i) (Program ∷ []) (ills c) (erase c ∷ [])
  grown_inv {s = s} inv-none g = widen (part_front s []) g
  grown_inv {s = s} (inv-some {s = r} p) g =
      noted (widen (part_front s (Invariant ∷ Open ∷ (r ++ Close ∷ []))) g)
      (widen (λ P h. part_in Open r (Close ∷ []) P (part_last s (Open ∷ (r ++ Close ∷ [])) Invariant P h)) (grown_list p))

-- a tree that is well made and of a sort
pub record IsMade (s : Sort) (t : Tree) : Type 0 where
  pub well_made : WellMade t
  pub sort_is : sort t ≡ s

sort_from : {w : List Lexeme} {s : Sort} {places : List ℕ} {t : Tree} → Grown w (s ∷ []) places (t ∷ []) → sort t ≡ s
sort_from {s = s} {t = t} g = let e : sort t ∷ [] ≡ s ∷ [] = g.sorts_are in cc

pub made_from : {w : List Lexeme} {s : Sort} {places : List ℕ} {t : Tree} → Grown w (s ∷ []) places (t ∷ []) → AreReal w → places ≡ [] → IsMade s t
made_from g h e = record { well_made = (g.made h e).0; sort_is = sort_from g }

pub formed : {f : Nonterminal} {s : List Lexeme} {p : Phrase} → Reads f s p → AreReal s → ills p ≡ [] → IsMade (form_sort f) (erase p)
formed d h e = made_from (grown d) h e

-- an expression is of some sort
pub record GrownSome (s : List Lexeme) (p : Phrase) : Type 0 where
  pub kind : Sort
  pub grown : Grown s (kind ∷ []) (ills p) (erase p ∷ [])

pub grown_expression : {s : List Lexeme} {p : Phrase} → ReadsExpression s p → GrownSome s p
grown_expression (as-formula d) = record { kind = Formula; grown = grown d }
grown_expression (as-program d) = record { kind = Program; grown = grown d }
grown_expression (as-term d other) = record { kind = Term; grown = grown d }

pub expression_formed : {s : List Lexeme} {p : Phrase} → ReadsExpression s p → AreReal s → ills p ≡ [] → WellMade (erase p)
expression_formed d h e = (made_from (grown_expression d).grown h e).well_made

-- where dots are refused, no dot and no hole stands in a tree
pub bare_dot : {t : Tree} → AreBare (t ∷ []) → has_dots t ≡ false
bare_dot {t = t} h = (or_parts (has_dots t) false h.no_dot).0

pub bare_hole : {t : Tree} → AreBare (t ∷ []) → has_hole t ≡ false
bare_hole {t = t} h = (or_parts (has_hole t) false h.no_hole).0

formula_from : {w : List Lexeme} {places : List ℕ} {t : Tree} → Grown w (Formula ∷ []) places (t ∷ []) → AreReal w → Permitted Refused w → places ≡ []
    → IsFormula t
formula_from {w = w} g h p e =
    let b = g.bare (plain_from w p) in
    record { well_made = (g.made h e).0; sort_is = sort_from g; no_dot = bare_dot b; no_hole = bare_hole b }

pub formula_formed : {s : List Lexeme} {p : Phrase} → Reads formula s p → AreReal s → Permitted Refused s → ills p ≡ [] → IsFormula (erase p)
formula_formed d h p e = formula_from (grown d) h p e

-- a list of formulas
formulas_in : (n : ℕ) (ts : List Tree) → sorts (forest ts) ≡ replicate n Formula → AllWellMade (forest ts) → AreBare ts → AllOf IsFormula ts
formulas_in n [] e h b = All-nil IsFormula
formulas_in zero (t ∷ ts) e h b = absurd cc
formulas_in (suc n) (t ∷ ts) e h b =
    let first : sort t ≡ Formula = cc in
    let rest : sorts (forest ts) ≡ replicate n Formula = cc in
    let dots = or_parts (has_dots t) (any_has is_some_dot (forest ts)) b.no_dot in
    let holes = or_parts (has_hole t) (any_has is_hole (forest ts)) b.no_hole in
    All-cons IsFormula t ts (record { well_made = h.0; sort_is = first; no_dot = dots.0; no_hole = holes.0 })
    (formulas_in n ts rest h.1 (record { no_dot = dots.1; no_hole = holes.1 }))

-- the two sides of a sequent
pub grown_side : {s : List Lexeme} {l : Phrases} → ReadsSide s l → Grown s (replicate (count l) Formula) (ills_of_all l) (erase_all l)
grown_side side-nothing = nothing
grown_side (side-list d) = grown_list d

pub grown_sides : {s : List Lexeme} {l m : Phrases} → ReadsSequent s (Turned l m)
    → Grown s (replicate (count l) Formula ++ replicate (count m) Formula) (ills_of_all l ++ ills_of_all m) (erase_all l ++ erase_all m)
grown_sides (sequent-sides {s = s} {r = r} d e) = join (widen (part_front s (Turnstile ∷ r)) (grown_side d)) (widen (part_last s r Turnstile) (grown_side e))

sides_formed : {s r : List Lexeme} {l m : Phrases} → ReadsSide s l → ReadsSide r m → AreReal (s ++ Turnstile ∷ r) → ArePlain (s ++ Turnstile ∷ r)
    → ills_of_all l ++ ills_of_all m ≡ [] → IsSequent (erase_sides (Turned l m))
sides_formed {s = s} {r = r} {l = l} {m = m} d e h p n =
    let g = widen (part_front s (Turnstile ∷ r)) (grown_side d) in
    let k = widen (part_last s r Turnstile) (grown_side e) in
    record {
      ante = formulas_in (count l) (erase_all l) g.sorts_are (g.made h (none_left (ills_of_all l) (ills_of_all m) n)) (g.bare p);
      succ = formulas_in (count m) (erase_all m) k.sorts_are (k.made h (none_right (ills_of_all l) (ills_of_all m) n)) (k.bare p);
    }

abbrev pub ills_of_sides : Sides → List ℕ
ills_of_sides (Turned l m) = ills_of_all l ++ ills_of_all m

pub sequent_formed : {s : List Lexeme} {z : Sides} → ReadsSequent s z → AreReal s → Permitted Refused s → ills_of_sides z ≡ [] → IsSequent (erase_sides z)
sequent_formed {s = s} (sequent-sides d e) h p n = sides_formed d e h (plain_from s p) n
