-- The bytes of shown text are its tokens.
use Rattle.std.proofs.Common.{◌≡◌, ℕ, Bool, true, false, nat_lt, List, [], ◌∷◌, ◌++◌, length, replicate, flat_map, Option, Some, None, refl, sym, ap}
use Rattle.std.proofs.Common.{subst, ◌∙◌, append_assoc, append-nil, ltb-true}
use Rattle.std.specs.List.{list_all}
use Rattle.std.proofs.lemmas.Bool.{and_parts}
use Rattle.dlk_tree.specs.declared.op.Kind.TheVariants.{Func, UnitFunc, Pred, UnitPred, Quant, Prog, Ode}
use Rattle.dlk_tree.specs.declared.op.OdeItem.{OdeItem}
use Rattle.dlk_tree.specs.declared.op.OdeItem.TheVariants.{Evolve, Const}
use Rattle.dlk_tree.specs.declared.op.Sym.{Sym}
use Rattle.dlk_tree.specs.declared.op.Sort.{Sort}
use Rattle.dlk_tree.specs.declared.op.Sort.TheVariants.{Term, Formula, Program}
use Rattle.dlk_tree.specs.declared.op.Op.{Op}
use Rattle.dlk_tree.specs.declared.op.Op.TheVariants as op
use Rattle.dlk_tree.specs.Names.{is_name}
use Rattle.dlk_tree.specs.Table.{sort_of, Fits, is_sym_of, taboo_is_name, is_item, are_items, evolved}
use Rattle.dlk_tree.specs.Trees.{Tree, Forest, node, root, no_kids, kid, trees_in, sort, sorts, WellMade, AllWellMade}
use Rattle.dlk_grammar.specs.declared.token.Mark.{Mark}
use Rattle.dlk_grammar.specs.declared.token.Mark.TheVariants as mark
use Rattle.dlk_grammar.specs.Tokens.{spelling}
use Rattle.dlk_grammar.specs.Shown.{Piece, space, mark as the_mark, word, level, between, closing, bracketed, unit_brackets, ode_brackets, item_texts}
use Rattle.dlk_grammar.specs.Shown.{is_true, joined, shown_at, shown, spell}
use Rattle.dlk_readback.proofs.Rows.{AllKids, none_of, one_of, two_of}
use Rattle.dlk_readback.proofs.Kids.{Each, body, texts_of, comma, any_kids, args_of, Sides, SystemKids, system_kids, system_inside, inside_is, real_items}
use Rattle.dlk_readback.proofs.Symbols.{sym_parts}
use Rattle.dlk_readback.proofs.Neighbours.{Fine, end_fine, Begins, by_letter, by_mark, by_minus, Ends, alone_fine, before_fine, empty_fine, bar_fine}
use Rattle.dlk_readback.proofs.Neighbours.{space_fine, true_fine, false_fine, hole_fine, dot_fine, name_fine, number_fine, begins_name, begins_number}
use Rattle.dlk_readback.proofs.Neighbours.{is_alone}

-- what may follow a text: after a program anything, else neither a name, a number nor a point
abbrev pub Stops : Sort → List Piece → Type 0
Stops Program p = Unit {0}
Stops Term p = Ends p
Stops Formula p = Ends p

pub stops_any : (s : Sort) (p : List Piece) → Ends p → Stops s p
stops_any Term p h = h
stops_any Formula p h = h
stops_any Program p h = tt

-- a text of a sort, with anything fine behind it
pub record Apart (s : Sort) (text : List Piece) : Type 0 where
  pub begins : (p : List Piece) → Begins (spell (text ++ p))
  pub fine : (p : List Piece) → Fine p → Stops s p → Fine (text ++ p)

abbrev pub KidApart : Sort → Tree → Type 0
KidApart s t = (n : ℕ) → Apart s (shown_at n t)

pub same_apart : {s : Sort} {x y : List Piece} → x ≡ y → Apart s y → Apart s x
same_apart {s} e a = subst (λ (l : List Piece). Apart s l) (sym e) a

-- a text, and what stands behind it
then_apart : {s u : Sort} (x c : List Piece) → Apart s x → ((p : List Piece) → Fine p → Fine (c ++ p)) → ((p : List Piece) → Stops u p → Stops s (c ++ p)) →
    Apart u (x ++ c)
then_apart x c a behind seam = record {
  begins = λ p. subst (λ (l : List Piece). Begins (spell l)) (sym (append_assoc x c p)) (a.begins (c ++ p));
  fine = λ p f h. subst Fine (sym (append_assoc x c p)) (a.fine (c ++ p) (behind p f) (seam p h));
}

one_apart : {s u : Sort} (x c : List Piece) → Apart s x → ((p : List Piece) → Fine p → Fine (c ++ p)) → ((p : List Piece) → Stops u p → Stops s (c ++ p)) →
    Apart u ((x ++ []) ++ c)
one_apart x c a behind seam = same_apart (ap (λ (l : List Piece). l ++ c) (append-nil x)) (then_apart x c a behind seam)

last_apart : {s : Sort} (x : List Piece) → Apart s x → Apart s ((x ++ []) ++ [])
last_apart x a = same_apart (append-nil (x ++ []) ∙ append-nil x) a

-- two texts, and what stands between them
seam_apart : {s u w : Sort} (x m y : List Piece) → Apart s x → Apart u y → ((p : List Piece) → Begins (spell p) → Fine p → Fine (m ++ p)) →
    ((p : List Piece) → Begins (spell p) → Stops s (m ++ p)) → ((p : List Piece) → Stops w p → Stops u p) → Apart w (x ++ (m ++ y))
seam_apart {s} {u} {w} x m y a b middle seam last = record {
  begins = λ p. subst (λ (l : List Piece). Begins (spell l)) (sym (at p)) (a.begins (m ++ (y ++ p)));
  fine = λ p f h. subst Fine (sym (at p)) (a.fine (m ++ (y ++ p)) (middle (y ++ p) (b.begins p) (b.fine p f (last p h))) (seam (y ++ p) (b.begins p)));
}
  where
    at : (p : List Piece) → (x ++ (m ++ y)) ++ p ≡ x ++ (m ++ (y ++ p))
    at p = append_assoc x (m ++ y) p ∙ ap (λ (l : List Piece). x ++ l) (append_assoc m y p)

pair_apart : {s u w : Sort} (x m y : List Piece) → Apart s x → Apart u y → ((p : List Piece) → Begins (spell p) → Fine p → Fine (m ++ p)) →
    ((p : List Piece) → Begins (spell p) → Stops s (m ++ p)) → ((p : List Piece) → Stops w p → Stops u p) → Apart w ((x ++ ((m ++ y) ++ [])) ++ [])
pair_apart x m y a b middle seam last = same_apart (append-nil (x ++ ((m ++ y) ++ [])) ∙ ap (λ (l : List Piece). x ++ l) (append-nil (m ++ y)))
    (seam_apart x m y a b middle seam last)

-- texts with a separator between
module _ (s : Sort) (sep : List Piece) (middle : (p : List Piece) → Begins (spell p) → Fine p → Fine (sep ++ p))
    (seam : (p : List Piece) → Begins (spell p) → Stops s (sep ++ p)) where
  later_apart : (x : List Piece) (xs : List (List Piece)) → Apart s x → Each (Apart s) xs → Apart s (x ++ flat_map (λ y. sep ++ y) xs)
  later_apart x [] a all = same_apart (append-nil x) a
  later_apart x (y ∷ xs) a all =
      let more = flat_map (λ z. sep ++ z) xs in
      same_apart (sym (append_assoc x (sep ++ y) more)) (later_apart (x ++ (sep ++ y)) xs (seam_apart x sep y a all.0 middle seam (λ p h. h)) all.1)

  pub joined_apart : (x : List Piece) (xs : List (List Piece)) → Each (Apart s) (x ∷ xs) → Apart s (joined sep (x ∷ xs))
  joined_apart x xs all = later_apart x xs all.0 all.1

-- a text in brackets
in_brackets : (s : Sort) (text : List Piece) → Apart s text → Apart s (bracketed true s text)
in_brackets Term text a = record {
  begins = λ p. by_mark 40 refl;
  fine = λ p f h. subst (λ (l : List Piece). Fine (the_mark mark.OpenRound ∷ l)) (sym (append_assoc text (the_mark mark.CloseRound ∷ []) p))
      (before_fine mark.OpenRound _ refl (a.begins (the_mark mark.CloseRound ∷ p))
      (a.fine (the_mark mark.CloseRound ∷ p) (alone_fine mark.CloseRound p refl f) refl));
}
in_brackets Formula text a = record {
  begins = λ p. by_mark 40 refl;
  fine = λ p f h. subst (λ (l : List Piece). Fine (the_mark mark.OpenRound ∷ l)) (sym (append_assoc text (the_mark mark.CloseRound ∷ []) p))
      (before_fine mark.OpenRound _ refl (a.begins (the_mark mark.CloseRound ∷ p))
      (a.fine (the_mark mark.CloseRound ∷ p) (alone_fine mark.CloseRound p refl f) refl));
}
in_brackets Program text a = record {
  begins = λ p. by_mark 123 refl;
  fine = λ p f h. subst (λ (l : List Piece). Fine (the_mark mark.OpenBrace ∷ l)) (sym (append_assoc text (the_mark mark.CloseBrace ∷ []) p))
      (before_fine mark.OpenBrace _ refl (a.begins (the_mark mark.CloseBrace ∷ p))
      (a.fine (the_mark mark.CloseBrace ∷ p) (alone_fine mark.CloseBrace p refl f) tt));
}

placed : (o : Op) (kids : Forest) → Apart (sort_of o) (body o kids) → KidApart (sort_of o) (node o kids)
placed o kids a n = go (nat_lt (level o) n)
  where
    go : (b : Bool) → Apart (sort_of o) (bracketed b (sort_of o) (body o kids))
    go true = in_brackets (sort_of o) (body o kids) a
    go false = a

abbrev BodyApart : Op → Forest → Type 0
BodyApart o kids = Apart (sort_of o) (body o kids)

-- `(`, a kid, and what stands behind it
opened : (s : Sort) (x c : List Piece) → Apart s x → ((p : List Piece) → Fine p → Fine (c ++ p)) → ((p : List Piece) → Stops s p → Stops s (c ++ p)) →
    Apart s (the_mark mark.OpenRound ∷ ((x ++ []) ++ c))
opened s x c a behind seam =
    let y = one_apart {u = s} x c a behind seam in
    record { begins = λ p. by_mark 40 refl; fine = λ p f h. before_fine mark.OpenRound _ refl (y.begins p) (y.fine p f h) }

-- what stands between two kids, by the operators
middle : (o : Op) (p : List Piece) → Begins (spell p) → Fine p → Fine (between o ++ p)
middle op.Equiv p d f = space_fine _ (alone_fine mark.Equiv _ refl (space_fine p f))
middle op.Imply p d f = space_fine _ (alone_fine mark.Imply _ refl (space_fine p f))
middle op.Or p d f = before_fine mark.Or p refl d f
middle op.And p d f = alone_fine mark.And p refl f
middle op.Eq p d f = before_fine mark.Equal p refl d f
middle op.Ne p d f = alone_fine mark.NotEqual p refl f
middle op.Ge p d f = alone_fine mark.AtLeast p refl f
middle op.Gt p d f = before_fine mark.Greater p refl d f
middle op.Le p d f = alone_fine mark.AtMost p refl f
middle op.Lt p d f = before_fine mark.Less p refl d f
middle op.Box p d f = alone_fine mark.CloseSquare p refl f
middle op.Dia p d f = before_fine mark.Greater p refl d f
middle op.Add p d f = before_fine mark.Plus p refl d f
middle op.Sub p d f = before_fine mark.Minus p refl d f
middle op.Mul p d f = alone_fine mark.Star p refl f
middle op.Div p d f = before_fine mark.Slash p refl d f
middle op.Pow p d f = alone_fine mark.Caret p refl f
middle op.Choice p d f = alone_fine mark.Choice p refl f
middle op.Seq p d f = f
middle op.Neg p d f = f
middle op.Not p d f = f
middle (op.Forall x) p d f = f
middle (op.Exists x) p d f = f
middle _ p d f = alone_fine mark.Comma p refl f

-- an operator between two kids
around : (s u w : Sort) (m : List Piece) (i j : ℕ) → ((p : List Piece) → Begins (spell p) → Fine p → Fine (m ++ p)) →
    ((p : List Piece) → Begins (spell p) → Stops s (m ++ p)) → ((p : List Piece) → Stops w p → Stops u p) → (a b : Tree) → KidApart s a → KidApart u b →
    Apart w ((shown_at i a ++ ((m ++ shown_at j b) ++ [])) ++ [])
around s u w m i j d seam last a b x y = pair_apart (shown_at i a) m (shown_at j b) (x i) (y j) d seam last

-- braces round a text
braced : {s u : Sort} (x c : List Piece) → Apart s x → ((p : List Piece) → Fine p → Fine (c ++ p)) → ((p : List Piece) → Stops u p → Stops s (c ++ p)) →
    Apart u (the_mark mark.OpenBrace ∷ (x ++ c))
braced {u = u} x c a behind seam =
    let y = then_apart {u = u} x c a behind seam in
    record { begins = λ p. by_mark 123 refl; fine = λ p f h. before_fine mark.OpenBrace _ refl (y.begins p) (y.fine p f h) }

-- a name and what stands behind it
named : {u : Sort} (x : List ℕ) (c : List Piece) → is_name x ≡ true → ((p : List Piece) → Ends (c ++ p)) → ((p : List Piece) → Fine p → Fine (c ++ p)) →
    Apart u (word x ∷ c)
named x c h ends behind = record { begins = λ p. begins_name x _ h; fine = λ p f s. name_fine x (c ++ p) h (ends p) (behind p f) }

name_apart : (s : Sort) (x : List ℕ) → is_name x ≡ true → ((p : List Piece) → Stops s p → Ends p) → Apart s (word x ∷ [])
name_apart s x h ends = record { begins = λ p. begins_name x _ h; fine = λ p f g. name_fine x p h (ends p g) f }

unit_apart : {u : Sort} (x : List ℕ) (y : Option (List ℕ)) → is_name x ≡ true → taboo_is_name y ≡ true → Apart u (word x ∷ unit_brackets y)
unit_apart x None h g = named x (unit_brackets None) h (λ p. refl) (λ p f. alone_fine mark.RoundBars p refl f)
unit_apart x (Some y) h g = named x (unit_brackets (Some y)) h (λ p. refl)
    (λ p f. bar_fine _ (begins_name y _ g) (name_fine y _ g refl (alone_fine mark.BarRound p refl f)))

-- the arguments of an application
texts_apart : (ts : List Tree) → Each (KidApart Term) ts → Each (Apart Term) (texts_of ts)
texts_apart [] all = tt
texts_apart (t ∷ ts) all = (all.0 1, texts_apart ts all.1)

comma_fine : (p : List Piece) → Begins (spell p) → Fine p → Fine (comma ++ p)
comma_fine p d f = alone_fine mark.Comma p refl f

args_fine : (ts : List Tree) (p : List Piece) → Each (KidApart Term) ts → Fine p →
    Fine (the_mark mark.OpenRound ∷ (joined comma (texts_of ts) ++ the_mark mark.CloseRound ∷ p))
args_fine [] p all f = empty_fine p f
args_fine (t ∷ ts) p all f =
    let a = joined_apart Term comma comma_fine (λ p d. refl) (shown_at 1 t) (texts_of ts) (texts_apart (t ∷ ts) all) in
    before_fine mark.OpenRound _ refl (a.begins (the_mark mark.CloseRound ∷ p))
    (a.fine (the_mark mark.CloseRound ∷ p) (alone_fine mark.CloseRound p refl f) refl)

call_apart : {u : Sort} (x : List ℕ) (ts : List Tree) → is_name x ≡ true → Each (KidApart Term) ts →
    Apart u (word x ∷ the_mark mark.OpenRound ∷ (joined comma (texts_of ts) ++ the_mark mark.CloseRound ∷ []))
call_apart x ts h all = named x (the_mark mark.OpenRound ∷ (joined comma (texts_of ts) ++ the_mark mark.CloseRound ∷ [])) h (λ p. refl)
    (λ p f. subst (λ (l : List Piece). Fine (the_mark mark.OpenRound ∷ l)) (sym (append_assoc (joined comma (texts_of ts)) (the_mark mark.CloseRound ∷ []) p))
    (args_fine ts p all f))

apply_apart : (s : Sym) (kids : Forest) → is_sym_of Func s ≡ true → sorts kids ≡ replicate s.arity Term → AllKids KidApart kids → BodyApart (op.Apply s) kids
apply_apart s kids h e all = same_apart (ap
    (λ (l : List (List Piece)). word s.name ∷ the_mark mark.OpenRound ∷ (joined comma l ++ the_mark mark.CloseRound ∷ []))
    (any_kids (op.Apply s) refl refl 0 kids)) (call_apart s.name (trees_in kids) (sym_parts Func s h).name (args_of KidApart s.arity kids e all).0)

holds_apart : (s : Sym) (kids : Forest) → is_sym_of Pred s ≡ true → sorts kids ≡ replicate s.arity Term → AllKids KidApart kids → BodyApart (op.Holds s) kids
holds_apart s kids h e all = same_apart (ap
    (λ (l : List (List Piece)). word s.name ∷ the_mark mark.OpenRound ∷ (joined comma l ++ the_mark mark.CloseRound ∷ []))
    (any_kids (op.Holds s) refl refl 0 kids)) (call_apart s.name (trees_in kids) (sym_parts Pred s h).name (args_of KidApart s.arity kids e all).0)

-- the items of a system
const_apart : (x : List ℕ) (y : Option (List ℕ)) → is_name x ≡ true → taboo_is_name y ≡ true → Apart Term (word x ∷ ode_brackets y)
const_apart x None h g = name_apart Term x h (λ p e. e)
const_apart x (Some y) h g = named x (ode_brackets (Some y)) h (λ p. refl)
    (λ p f. alone_fine mark.BraceBar _ refl (name_fine y _ g refl (alone_fine mark.BarBrace p refl f)))

items_apart : (items : List OdeItem) (ts : List Tree) → list_all is_item items ≡ true → Sides (KidApart Term) items ts →
    Each (Apart Term) (item_texts items (texts_of ts))
items_apart [] ts h all = tt
items_apart (Const s ∷ items) ts h all =
    let w = and_parts (is_item (Const s)) (list_all is_item items) h in
    let v = sym_parts Ode s w.0 in
    (const_apart s.name s.taboo v.name v.taboo_name, items_apart items ts w.1 all)
items_apart (Evolve x ∷ items) [] h all = absurd all
items_apart (Evolve x ∷ items) (t ∷ ts) h all =
    let w = and_parts (is_item (Evolve x)) (list_all is_item items) h in
    let a = all.0 1 in (
      record {
        begins = λ p. begins_name x _ w.0;
        fine =
            λ p f s. name_fine x _ w.0 refl (alone_fine mark.Prime _ refl (before_fine mark.Equal _ refl (a.begins p) (a.fine p f s)));
      },
      items_apart items ts w.1 all.1,
    )

all_items_apart : (items : List OdeItem) (ts : List Tree) → are_items items ≡ true → Sides (KidApart Term) items ts →
    Apart Term (joined comma (item_texts items (texts_of ts)))
all_items_apart [] ts h all = absurd cc
all_items_apart (item ∷ items) ts h all = go (item_texts (item ∷ items) (texts_of ts)) refl (items_apart (item ∷ items) ts (real_items (item ∷ items) h) all)
  where
    go : (texts : List (List Piece)) → item_texts (item ∷ items) (texts_of ts) ≡ texts → Each (Apart Term) texts →
        Apart Term (joined comma (item_texts (item ∷ items) (texts_of ts)))
    go [] e all = absurd cc
    go (x ∷ xs) e all = same_apart (ap (joined comma) e) (joined_apart Term comma comma_fine (λ p d. refl) x xs all)

system_apart : (items : List OdeItem) (kids : Forest) → are_items items ≡ true → sorts kids ≡ replicate (length (evolved items)) Term ++ Formula ∷ [] →
    AllKids KidApart kids → AllWellMade kids → BodyApart (op.System items) kids
system_apart items kids h e all w =
    let k = system_kids KidApart items kids e all w in
    same_apart (ap (λ (l : List Piece). the_mark mark.OpenBrace ∷ (l ++ the_mark mark.CloseBrace ∷ [])) (inside_is KidApart items kids k))
    (braced {s = Term} (system_inside items (trees_in kids) k.domain) (the_mark mark.CloseBrace ∷ []) (go k (is_true (root k.domain)) refl)
    (λ p f. alone_fine mark.CloseBrace p refl f) (λ p s. refl))
  where
    go : (k : SystemKids KidApart items kids) → (b : Bool) → is_true (root k.domain) ≡ b → Apart Term (system_inside items (trees_in kids) k.domain)
    go k true e = rw e (same_apart (append-nil (joined comma (item_texts items (texts_of (trees_in kids))))) (all_items_apart items (trees_in kids) h k.sides))
    go k false e = rw e (seam_apart {s = Term} {u = Formula} {w = Term} (joined comma (item_texts items (texts_of (trees_in kids)))) (the_mark mark.And ∷ [])
        (shown_at 1 k.domain) (all_items_apart items (trees_in kids) h k.sides) (k.holds 1) (λ p d f. alone_fine mark.And p refl f) (λ p d. refl) (λ p s. s))

leaf_apart : (o : Op) (kids : Forest) → sorts kids ≡ [] → BodyApart o no_kids → BodyApart o kids
leaf_apart o kids e a = none_of (λ (ks : Forest). BodyApart o ks) kids e a

variable_apart : (x : List ℕ) (primed : Bool) → is_name x ≡ true → BodyApart (op.Variable (record { name = x; primed = primed })) no_kids
variable_apart x true h = named x (the_mark mark.Prime ∷ []) h (λ p. refl) (λ p f. alone_fine mark.Prime p refl f)
variable_apart x false h = name_apart Term x h (λ p e. e)

-- a text behind a name and marks
assigned : (x : List ℕ) (c : List Piece) (a : Tree) → is_name x ≡ true → KidApart Term a → ((p : List Piece) → Ends (c ++ p)) →
    ((p : List Piece) → Fine p → Fine (c ++ p)) → Apart Program (word x ∷ (c ++ ((shown_at 1 a ++ []) ++ the_mark mark.Semicolon ∷ [])))
assigned x c a h k ends behind =
    let text = (shown_at 1 a ++ []) ++ the_mark mark.Semicolon ∷ [] in
    let y = one_apart {u = Program} (shown_at 1 a) (the_mark mark.Semicolon ∷ []) (k 1) (λ p f. alone_fine mark.Semicolon p refl f) (λ p s. refl) in
    named x (c ++ text) h (λ p. subst Ends (sym (append_assoc c text p)) (ends (text ++ p)))
    (λ p f. subst Fine (sym (append_assoc c text p)) (behind (text ++ p) (y.fine p f tt)))

assign_apart : (x : List ℕ) (primed : Bool) → is_name x ≡ true → (a : Tree) → KidApart Term a →
    BodyApart (op.Assign (record { name = x; primed = primed })) (kid a no_kids)
assign_apart x true h a k = assigned x (the_mark mark.Prime ∷ the_mark mark.Gets ∷ []) a h k (λ p. refl)
    (λ p f. alone_fine mark.Prime _ refl (alone_fine mark.Gets p refl f))
assign_apart x false h a k = assigned x (the_mark mark.Gets ∷ []) a h k (λ p. refl) (λ p f. alone_fine mark.Gets p refl f)

-- a quantifier before a formula
quantified : (m : Mark) (x : List ℕ) (a : Tree) → is_alone m ≡ true → ((l : List ℕ) → Begins (spelling m ++ l)) → is_name x ≡ true → KidApart Formula a →
    Apart Formula (the_mark m ∷ space ∷ word x ∷ space ∷ ((shown_at 5 a ++ []) ++ []))
quantified m x a alone begins h k =
    let y = last_apart (shown_at 5 a) (k 5) in
    record { begins = λ p. begins _; fine = λ p f s. alone_fine m _ alone (space_fine _ (name_fine x _ h refl (space_fine _ (y.fine p f s)))) }

context_apart : (x : List ℕ) (a : Tree) → is_name x ≡ true → KidApart Formula a →
    Apart Formula (word x ∷ the_mark mark.OpenBrace ∷ ((shown_at 1 a ++ []) ++ the_mark mark.CloseBrace ∷ []))
context_apart x a h k =
    let y = one_apart {u = Formula} (shown_at 1 a) (the_mark mark.CloseBrace ∷ []) (k 1) (λ p f. alone_fine mark.CloseBrace p refl f) (λ p s. refl) in
    record { begins = λ p. begins_name x _ h; fine = λ p f s. name_fine x _ h refl (before_fine mark.OpenBrace _ refl (y.begins p) (y.fine p f s)) }

body_apart : (o : Op) (kids : Forest) → Fits o (sorts kids) → AllKids KidApart kids → AllWellMade kids → BodyApart o kids
body_apart (op.Variable v) kids e all w = leaf_apart (op.Variable v) kids e.kids_fit (variable_apart v.name v.primed e.parts_fit)
body_apart (op.Number n) kids e all w = leaf_apart (op.Number n) kids e.kids_fit
    (record { begins = λ p. begins_number n _ e.parts_fit; fine = λ p f h. number_fine n p e.parts_fit h f })
body_apart (op.Dot n) kids e all w = leaf_apart (op.Dot n) kids e.kids_fit
    (record { begins = λ p. by_mark 46 refl; fine = λ p f h. dot_fine n p (ltb-true n 8 e.parts_fit) f })
body_apart (op.UnitFun s) kids e all w = let v = sym_parts UnitFunc s e.parts_fit in
    leaf_apart (op.UnitFun s) kids e.kids_fit (unit_apart s.name s.taboo v.name v.taboo_name)
body_apart (op.Apply s) kids e all w = apply_apart s kids e.parts_fit e.kids_fit all
body_apart op.Neg kids e all w = one_of KidApart (BodyApart op.Neg) Term kids e.kids_fit all
    (λ a k. let x = last_apart (shown_at 3 a) (k 3) in
    record { begins = λ p. by_minus (x.begins p); fine = λ p f h. before_fine mark.Minus _ refl (x.begins p) (x.fine p f h) })
body_apart op.Diff kids e all w = one_of KidApart (BodyApart op.Diff) Term kids e.kids_fit all
    (λ a k. opened Term (shown_at 1 a) (closing op.Diff) (k 1) (λ p f. alone_fine mark.CloseRound _ refl (alone_fine mark.Prime p refl f)) (λ p h. refl))
body_apart op.Add kids e all w = two_of KidApart (BodyApart op.Add) Term Term kids e.kids_fit all
    (around Term Term Term (between op.Add) 1 2 (middle op.Add) (λ p d. refl) (λ p h. h))
body_apart op.Sub kids e all w = two_of KidApart (BodyApart op.Sub) Term Term kids e.kids_fit all
    (around Term Term Term (between op.Sub) 1 2 (middle op.Sub) (λ p d. refl) (λ p h. h))
body_apart op.Mul kids e all w = two_of KidApart (BodyApart op.Mul) Term Term kids e.kids_fit all
    (around Term Term Term (between op.Mul) 2 3 (middle op.Mul) (λ p d. refl) (λ p h. h))
body_apart op.Div kids e all w = two_of KidApart (BodyApart op.Div) Term Term kids e.kids_fit all
    (around Term Term Term (between op.Div) 2 3 (middle op.Div) (λ p d. refl) (λ p h. h))
body_apart op.Pow kids e all w = two_of KidApart (BodyApart op.Pow) Term Term kids e.kids_fit all
    (around Term Term Term (between op.Pow) 5 3 (middle op.Pow) (λ p d. refl) (λ p h. h))
body_apart op.True kids e all w = leaf_apart op.True kids e.kids_fit (record { begins = λ p. by_letter 116 refl; fine = λ p f h. true_fine p h f })
body_apart op.False kids e all w = leaf_apart op.False kids e.kids_fit (record { begins = λ p. by_letter 102 refl; fine = λ p f h. false_fine p h f })
body_apart op.Hole kids e all w = leaf_apart op.Hole kids e.kids_fit (record { begins = λ p. by_mark 95 refl; fine = λ p f h. hole_fine p f })
body_apart (op.UnitPred s) kids e all w = let v = sym_parts UnitPred s e.parts_fit in
    leaf_apart (op.UnitPred s) kids e.kids_fit (unit_apart s.name s.taboo v.name v.taboo_name)
body_apart (op.Holds s) kids e all w = holds_apart s kids e.parts_fit e.kids_fit all
body_apart op.Eq kids e all w = two_of KidApart (BodyApart op.Eq) Term Term kids e.kids_fit all
    (around Term Term Formula (between op.Eq) 1 1 (middle op.Eq) (λ p d. refl) (λ p h. h))
body_apart op.Ne kids e all w = two_of KidApart (BodyApart op.Ne) Term Term kids e.kids_fit all
    (around Term Term Formula (between op.Ne) 1 1 (middle op.Ne) (λ p d. refl) (λ p h. h))
body_apart op.Ge kids e all w = two_of KidApart (BodyApart op.Ge) Term Term kids e.kids_fit all
    (around Term Term Formula (between op.Ge) 1 1 (middle op.Ge) (λ p d. refl) (λ p h. h))
body_apart op.Gt kids e all w = two_of KidApart (BodyApart op.Gt) Term Term kids e.kids_fit all
    (around Term Term Formula (between op.Gt) 1 1 (middle op.Gt) (λ p d. refl) (λ p h. h))
body_apart op.Le kids e all w = two_of KidApart (BodyApart op.Le) Term Term kids e.kids_fit all
    (around Term Term Formula (between op.Le) 1 1 (middle op.Le) (λ p d. refl) (λ p h. h))
body_apart op.Lt kids e all w = two_of KidApart (BodyApart op.Lt) Term Term kids e.kids_fit all
    (around Term Term Formula (between op.Lt) 1 1 (middle op.Lt) (λ p d. refl) (λ p h. h))
body_apart (op.Predicational s) kids e all w =
    one_of KidApart (BodyApart (op.Predicational s)) Formula kids e.kids_fit all (λ a k. context_apart s.name a (sym_parts Quant s e.parts_fit).name k)
body_apart op.Not kids e all w = one_of KidApart (BodyApart op.Not) Formula kids e.kids_fit all
    (λ a k. let x = last_apart (shown_at 5 a) (k 5) in
    record { begins = λ p. by_mark 33 refl; fine = λ p f h. before_fine mark.Not _ refl (x.begins p) (x.fine p f h) })
body_apart op.DiffF kids e all w = one_of KidApart (BodyApart op.DiffF) Formula kids e.kids_fit all
    (λ a k. opened Formula (shown_at 1 a) (closing op.DiffF) (k 1) (λ p f. alone_fine mark.CloseRound _ refl (alone_fine mark.Prime p refl f)) (λ p h. refl))
body_apart (op.Forall x) kids e all w = one_of KidApart (BodyApart (op.Forall x)) Formula kids e.kids_fit all
    (λ a k. quantified mark.Forall x a refl (λ l. by_mark 92 refl) e.parts_fit k)
body_apart (op.Exists x) kids e all w = one_of KidApart (BodyApart (op.Exists x)) Formula kids e.kids_fit all
    (λ a k. quantified mark.Exists x a refl (λ l. by_mark 92 refl) e.parts_fit k)
body_apart op.And kids e all w = two_of KidApart (BodyApart op.And) Formula Formula kids e.kids_fit all
    (around Formula Formula Formula (between op.And) 5 4 (middle op.And) (λ p d. refl) (λ p h. h))
body_apart op.Or kids e all w = two_of KidApart (BodyApart op.Or) Formula Formula kids e.kids_fit all
    (around Formula Formula Formula (between op.Or) 4 3 (middle op.Or) (λ p d. refl) (λ p h. h))
body_apart op.Imply kids e all w = two_of KidApart (BodyApart op.Imply) Formula Formula kids e.kids_fit all
    (around Formula Formula Formula (between op.Imply) 3 2 (middle op.Imply) (λ p d. refl) (λ p h. h))
body_apart op.Equiv kids e all w = two_of KidApart (BodyApart op.Equiv) Formula Formula kids e.kids_fit all
    (around Formula Formula Formula (between op.Equiv) 2 1 (middle op.Equiv) (λ p d. refl) (λ p h. h))
body_apart op.Box kids e all w = two_of KidApart (BodyApart op.Box) Program Formula kids e.kids_fit all
    (λ a b k l. let y = around Program Formula Formula (between op.Box) 1 5 (middle op.Box) (λ p d. tt) (λ p h. h) a b k l in
    record { begins = λ p. by_mark 91 refl; fine = λ p f h. alone_fine mark.OpenSquare _ refl (y.fine p f h) })
body_apart op.Dia kids e all w = two_of KidApart (BodyApart op.Dia) Program Formula kids e.kids_fit all
    (λ a b k l. let y = around Program Formula Formula (between op.Dia) 1 5 (middle op.Dia) (λ p d. tt) (λ p h. h) a b k l in
    record { begins = λ p. by_mark 60 refl; fine = λ p f h. before_fine mark.Less _ refl (y.begins p) (y.fine p f h) })
body_apart (op.Const s) kids e all w = leaf_apart (op.Const s) kids e.kids_fit
    (named s.name (the_mark mark.Semicolon ∷ []) (sym_parts Prog s e.parts_fit).name (λ p. refl) (λ p f. alone_fine mark.Semicolon p refl f))
body_apart (op.Assign v) kids e all w = one_of KidApart (BodyApart (op.Assign v)) Term kids e.kids_fit all (assign_apart v.name v.primed e.parts_fit)
body_apart (op.Any x) kids e all w = leaf_apart (op.Any x) kids e.kids_fit
    (named x (the_mark mark.Gets ∷ the_mark mark.Star ∷ the_mark mark.Semicolon ∷ []) e.parts_fit (λ p. refl)
    (λ p f. alone_fine mark.Gets _ refl (alone_fine mark.Star _ refl (alone_fine mark.Semicolon p refl f))))
body_apart op.Test kids e all w = one_of KidApart (BodyApart op.Test) Formula kids e.kids_fit all
    (λ a k. let y = one_apart {u = Program} (shown_at 1 a) (closing op.Test) (k 1) (λ p f. alone_fine mark.Semicolon p refl f) (λ p h. refl) in
    record { begins = λ p. by_mark 63 refl; fine = λ p f h. alone_fine mark.Query _ refl (y.fine p f h) })
body_apart (op.System items) kids e all w = system_apart items kids e.parts_fit e.kids_fit all w
body_apart op.Choice kids e all w = two_of KidApart (BodyApart op.Choice) Program Program kids e.kids_fit all
    (around Program Program Program (between op.Choice) 2 1 (middle op.Choice) (λ p d. tt) (λ p h. tt))
body_apart op.Seq kids e all w = two_of KidApart (BodyApart op.Seq) Program Program kids e.kids_fit all
    (around Program Program Program [] 3 2 (λ p d f. f) (λ p d. tt) (λ p h. tt))
body_apart op.Loop kids e all w = one_of KidApart (BodyApart op.Loop) Program kids e.kids_fit all
    (λ a k. braced (shown_at 1 a ++ []) (closing op.Loop) (same_apart (append-nil (shown_at 1 a)) (k 1))
    (λ p f. alone_fine mark.CloseBrace _ refl (alone_fine mark.Star p refl f)) (λ p h. tt))

mutual
  pub apart : (t : Tree) → WellMade t → KidApart (sort t) t
  apart (node o kids) w = placed o kids (body_apart o kids w.0 (all_apart kids w.1) w.1)

  pub all_apart : (kids : Forest) → AllWellMade kids → AllKids KidApart kids
  all_apart no_kids w = tt
  all_apart (kid t rest) w = (apart t w.0, all_apart rest w.1)

-- the bytes of a shown tree are its tokens
pub shown_fine : (t : Tree) → WellMade t → Fine (shown t)
shown_fine t w = subst Fine (append-nil (shown t)) ((apart t w 1).fine [] end_fine (stops_any (sort t) [] refl))
