-- A phrase by its parts: those that are phrases, and the operator over them.
use Rattle.std.proofs.Common.{◌≡◌, ℕ, ◌+◌, List, [], ◌∷◌, ◌++◌, length, map, Option, Some, None, true, false, refl, sym, ap, ◌∙◌, append_assoc, add-zero, arith}
use Rattle.std.specs.Prelude.{All, nat_lt, flat_map, replicate}
use Rattle.std.proofs.lemmas.List.{append-nil, map-append, length-append, length-replicate}
use Rattle.std.proofs.lemmas.Grind.{flat_map-append}
use Rattle.std.proofs.lemmas.List.Elements.{All-nil, All-cons, All-push}
use Rattle.dlk_tree.specs.Trees.{node, forest}
use Rattle.dlk_tree.specs.Table.{kid_sorts, evolved}
use Rattle.dlk_tree.specs.declared.op.Kind.TheVariants.{Func, UnitFunc, Pred, UnitPred, Quant, Prog, Ode}
use Rattle.dlk_tree.specs.declared.op.OdeItem.{OdeItem}
use Rattle.dlk_tree.specs.declared.op.OdeItem.TheVariants as ode
use Rattle.dlk_tree.specs.declared.op.Sort.TheVariants as sort_of
use Rattle.dlk_tree.specs.declared.op.Op.{Op}
use Rattle.dlk_tree.specs.declared.op.Op.TheVariants as op
use Rattle.dlk_grammar.specs.declared.token.Infix.{Infix}
use Rattle.dlk_grammar.specs.declared.token.Infix.TheVariants.{Equiv, Imply, Or, And, Equal, NotEqual, AtLeast, Greater, AtMost, Less, Add, Sub, Mul}
use Rattle.dlk_grammar.specs.declared.token.Infix.TheVariants.{Div, Pow, Choice}
use Rattle.dlk_grammar.specs.Phrases.{Everywhere, Phrase, Literal, Argument, Variable, Apply, Negate, Diff, Truth, Falsity, Hole, Holds, Context, Not}
use Rattle.dlk_grammar.specs.Phrases.{DiffF, Forall, Exists, Box, Dia, Binary, Const, Assign, AssignAny, Test, Then, Loop, System, Noted, Phrases}
use Rattle.dlk_grammar.specs.Phrases.{none, snoc, Call, Any, Evolve, Flow, Items, no_items, add}
use Rattle.dlk_grammar.specs.Erased.{symbol, ode_items, infix_op, count, erase, erase_all, item_terms, place_if, ills, ills_of_all, ills_of_items}
use Rattle.dlk_grammar.specs.Readings.{phrases_in}
use Rattle.dlk_reader.specs.Codes.{postfix, postfix_all, postfix_terms}
use Rattle.dlk_parse.specs.Measuring.{are_ill}
use Rattle.dlk_reader.specs.declared.code.Code.{Code}
use Rattle.dlk_reader.specs.declared.code.Code.TheVariants as code

-- the right sides of the evolved variables
abbrev pub right_sides : Items → List Phrase
right_sides no_items = []
right_sides (add l (Evolve x a)) = right_sides l ++ a ∷ []
right_sides (add l (Flow x s)) = right_sides l

-- the phrases that a phrase is made of
abbrev pub parts : Phrase → List Phrase
parts (Literal d) = []
parts (Argument n) = []
parts (Variable x primed) = []
parts (Apply (Call n x l)) = phrases_in l
parts (Apply (Any x s)) = []
parts (Negate a) = a ∷ []
parts (Diff a) = a ∷ []
parts Truth = []
parts Falsity = []
parts Hole = []
parts (Holds (Call n x l)) = phrases_in l
parts (Holds (Any x s)) = []
parts (Context x a) = a ∷ []
parts (Not a) = a ∷ []
parts (DiffF a) = a ∷ []
parts (Forall x a) = a ∷ []
parts (Exists x a) = a ∷ []
parts (Box p a) = p ∷ a ∷ []
parts (Dia p a) = p ∷ a ∷ []
parts (Binary o a b) = a ∷ b ∷ []
parts (Const x) = []
parts (Assign x primed a) = a ∷ []
parts (AssignAny x) = []
parts (Test a) = a ∷ []
parts (Then p q) = p ∷ q ∷ []
parts (Loop p) = p ∷ []
parts (System n l a) = right_sides l ++ a ∷ []
parts (Noted p l) = p ∷ phrases_in l

-- what holds of a phrase where it holds of its parts holds of each phrase
module _ (P : Phrase → Type 0) (rule : (p : Phrase) → All P (parts p) → P p) where
  one : {p : Phrase} → P p → All P (p ∷ [])
  one {p} h = All-cons P p [] h (All-nil P)

  two : {p q : Phrase} → P p → P q → All P (p ∷ q ∷ [])
  two {p} {q} h k = All-cons P p (q ∷ []) h (one k)

  mutual
    pub of_each : (p : Phrase) → P p
    of_each (Literal d) = rule (Literal d) (All-nil P)
    of_each (Argument n) = rule (Argument n) (All-nil P)
    of_each (Variable x primed) = rule (Variable x primed) (All-nil P)
    of_each (Apply (Call n x l)) = rule (Apply (Call n x l)) (of_all l)
    of_each (Apply (Any x s)) = rule (Apply (Any x s)) (All-nil P)
    of_each (Negate a) = rule (Negate a) (one (of_each a))
    of_each (Diff a) = rule (Diff a) (one (of_each a))
    of_each Truth = rule Truth (All-nil P)
    of_each Falsity = rule Falsity (All-nil P)
    of_each Hole = rule Hole (All-nil P)
    of_each (Holds (Call n x l)) = rule (Holds (Call n x l)) (of_all l)
    of_each (Holds (Any x s)) = rule (Holds (Any x s)) (All-nil P)
    of_each (Context x a) = rule (Context x a) (one (of_each a))
    of_each (Not a) = rule (Not a) (one (of_each a))
    of_each (DiffF a) = rule (DiffF a) (one (of_each a))
    of_each (Forall x a) = rule (Forall x a) (one (of_each a))
    of_each (Exists x a) = rule (Exists x a) (one (of_each a))
    of_each (Box p a) = rule (Box p a) (two (of_each p) (of_each a))
    of_each (Dia p a) = rule (Dia p a) (two (of_each p) (of_each a))
    of_each (Binary o a b) = rule (Binary o a b) (two (of_each a) (of_each b))
    of_each (Const x) = rule (Const x) (All-nil P)
    of_each (Assign x primed a) = rule (Assign x primed a) (one (of_each a))
    of_each (AssignAny x) = rule (AssignAny x) (All-nil P)
    of_each (Test a) = rule (Test a) (one (of_each a))
    of_each (Then p q) = rule (Then p q) (two (of_each p) (of_each q))
    of_each (Loop p) = rule (Loop p) (one (of_each p))
    of_each (System n l a) = rule (System n l a) (All-push P (right_sides l) a (of_terms l) (of_each a))
    of_each (Noted p l) = rule (Noted p l) (All-cons P p (phrases_in l) (of_each p) (of_all l))

    of_all : (l : Phrases) → All P (phrases_in l)
    of_all none = All-nil P
    of_all (snoc l a) = All-push P (phrases_in l) a (of_all l) (of_each a)

    of_terms : (l : Items) → All P (right_sides l)
    of_terms no_items = All-nil P
    of_terms (add l (Evolve x a)) = All-push P (right_sides l) a (of_terms l) (of_each a)
    of_terms (add l (Flow x s)) = of_terms l

-- the operator that a code puts over its operands
abbrev pub operator : Code → Option Op
operator (code.Operator o) = Some o
operator (code.Call false at x n) = Some (op.Apply (symbol Func x n Everywhere))
operator (code.Call true at x n) = Some (op.Holds (symbol Pred x n Everywhere))
operator (code.System at items) = Some (op.System items)
operator code.Notes = None
operator (code.EndNotes n) = None

-- the place of a code, where it is of ill shape
abbrev pub place_of : Code → List ℕ
place_of (code.Operator o) = []
place_of (code.Call holds at x n) = place_if (nat_lt 8 n) at
place_of (code.System at items) = place_if (are_ill items) at
place_of code.Notes = []
place_of (code.EndNotes n) = []

-- how many operands a code takes from the stack
abbrev pub pops : Code → ℕ
pops (code.Operator o) = length (kid_sorts o)
pops (code.Call holds at x n) = n
pops (code.System at items) = length (evolved items) + 1
pops code.Notes = 0
pops (code.EndNotes n) = n + 1

-- a phrase is the operator of a code over its parts
pub record IsOver (p : Phrase) (c : Code) (o : Op) : Type 0 where
  pub operator_is : operator c ≡ Some o
  pub spelled : postfix p ≡ flat_map postfix (parts p) ++ c ∷ []
  pub tree_is : erase p ≡ node o (forest (map erase (parts p)))
  pub places : ills p ≡ place_of c ++ flat_map ills (parts p)
  pub long : length (parts p) ≡ length (kid_sorts o)

-- a phrase is an operator over its parts, or a program with formulas beside it
pub data View : Phrase → Type 0 where
  over : {p : Phrase} (c : Code) (o : Op) → IsOver p c o → View p
  noted : (p : Phrase) (l : Phrases) → View (Noted p l)

pub same_some : {a b : Op} → Some a ≡ Some b → a ≡ b
same_some e = cc

system_sorts : (n : ℕ) → n + 1 ≡ length (replicate n sort_of.Term ++ sort_of.Formula ∷ [])
system_sorts n = omega (arith, length-append (replicate n sort_of.Term) (sort_of.Formula ∷ []), length-replicate n sort_of.Term)

-- a code takes as many operands as its operator has kids
pub pops_are : (c : Code) (o : Op) → operator c ≡ Some o → pops c ≡ length (kid_sorts o)
pops_are (code.Operator q) o e = ap (λ k. length (kid_sorts k)) (same_some e)
pops_are (code.Call false at x n) o e = sym (length-replicate n sort_of.Term) ∙ ap (λ k. length (kid_sorts k)) (same_some e)
pops_are (code.Call true at x n) o e = sym (length-replicate n sort_of.Term) ∙ ap (λ k. length (kid_sorts k)) (same_some e)
pops_are (code.System at items) o e = system_sorts (length (evolved items)) ∙ ap (λ k. length (kid_sorts k)) (same_some e)
pops_are code.Notes o e = absurd cc
pops_are (code.EndNotes n) o e = absurd cc

pub count_is : (l : Phrases) → count l ≡ length (phrases_in l)
count_is none = refl
count_is (snoc l a) = omega (arith, count_is l, length-append (phrases_in l) (a ∷ []))

module _ {A : Type 0} (f : Phrase → List A) where
  pub more : (ps : List Phrase) (a : Phrase) → flat_map f (ps ++ a ∷ []) ≡ flat_map f ps ++ f a
  more ps a = flat_map-append f ps (a ∷ []) ∙ ap (λ l. flat_map f ps ++ l) (append-nil (f a))

pub postfix_all_is : (l : Phrases) → postfix_all l ≡ flat_map postfix (phrases_in l)
postfix_all_is none = refl
postfix_all_is (snoc l a) = ap (λ s. s ++ postfix a) (postfix_all_is l) ∙ sym (more postfix (phrases_in l) a)

pub ills_of_all_is : (l : Phrases) → ills_of_all l ≡ flat_map ills (phrases_in l)
ills_of_all_is none = refl
ills_of_all_is (snoc l a) = ap (λ s. s ++ ills a) (ills_of_all_is l) ∙ sym (more ills (phrases_in l) a)

pub erase_all_is : (l : Phrases) → erase_all l ≡ map erase (phrases_in l)
erase_all_is none = refl
erase_all_is (snoc l a) = ap (λ s. s ++ erase a ∷ []) (erase_all_is l) ∙ sym (map-append erase (phrases_in l) (a ∷ []))

postfix_terms_is : (l : Items) → postfix_terms l ≡ flat_map postfix (right_sides l)
postfix_terms_is no_items = refl
postfix_terms_is (add l (Evolve x a)) = ap (λ s. s ++ postfix a) (postfix_terms_is l) ∙ sym (more postfix (right_sides l) a)
postfix_terms_is (add l (Flow x s)) = postfix_terms_is l

ills_of_items_is : (l : Items) → ills_of_items l ≡ flat_map ills (right_sides l)
ills_of_items_is no_items = refl
ills_of_items_is (add l (Evolve x a)) = ap (λ s. s ++ ills a) (ills_of_items_is l) ∙ sym (more ills (right_sides l) a)
ills_of_items_is (add l (Flow x s)) = ills_of_items_is l

item_terms_is : (l : Items) → item_terms l ≡ map erase (right_sides l)
item_terms_is no_items = refl
item_terms_is (add l (Evolve x a)) = ap (λ s. s ++ erase a ∷ []) (item_terms_is l) ∙ sym (map-append erase (right_sides l) (a ∷ []))
item_terms_is (add l (Flow x s)) = item_terms_is l

evolved_push : (items : List OdeItem) (i : OdeItem) → evolved (items ++ i ∷ []) ≡ evolved items ++ evolved (i ∷ [])
evolved_push [] i = refl
evolved_push (ode.Evolve x ∷ items) i = ap (λ l. x ∷ l) (evolved_push items i)
evolved_push (ode.Const s ∷ items) i = evolved_push items i

right_sides_long : (l : Items) → length (right_sides l) ≡ length (evolved (ode_items l))
right_sides_long no_items = refl
right_sides_long (add l (Evolve x a)) =
    let e = ap length (evolved_push (ode_items l) (ode.Evolve x)) ∙ length-append (evolved (ode_items l)) (x ∷ []) in
    length-append (right_sides l) (a ∷ []) ∙ (ap (λ n. n + 1) (right_sides_long l) ∙ sym e)
right_sides_long (add l (Flow x s)) = right_sides_long l
    ∙ sym (ap length (evolved_push (ode_items l) (ode.Const (symbol Ode x 0 s))) ∙ length-append (evolved (ode_items l)) []
    ∙ add-zero (length (evolved (ode_items l))))

system_long : (l : Items) (a : Phrase) →
    length (right_sides l ++ a ∷ []) ≡ length (replicate (length (evolved (ode_items l))) sort_of.Term ++ sort_of.Formula ∷ [])
system_long l a = omega (
  arith,
  length-append (right_sides l) (a ∷ []),
  right_sides_long l,
  length-append (replicate (length (evolved (ode_items l))) sort_of.Term) (sort_of.Formula ∷ []),
  length-replicate (length (evolved (ode_items l))) sort_of.Term,
)

call_long : (l : Phrases) → length (phrases_in l) ≡ length (replicate (count l) sort_of.Term)
call_long l = sym (count_is l) ∙ sym (length-replicate (count l) sort_of.Term)

infix_long : (o : Infix) → 2 ≡ length (kid_sorts (infix_op o))
infix_long Equiv = refl
infix_long Imply = refl
infix_long Or = refl
infix_long And = refl
infix_long Equal = refl
infix_long NotEqual = refl
infix_long AtLeast = refl
infix_long Greater = refl
infix_long AtMost = refl
infix_long Less = refl
infix_long Add = refl
infix_long Sub = refl
infix_long Mul = refl
infix_long Div = refl
infix_long Pow = refl
infix_long Choice = refl

-- without parts
leaf : {p : Phrase} (o : Op) → parts p ≡ [] → postfix p ≡ code.Operator o ∷ [] → erase p ≡ node o (forest []) → ills p ≡ [] → kid_sorts o ≡ [] → View p
leaf {p} o empty spelled tree ill sorts = over (code.Operator o) o (record {
  operator_is = refl;
  spelled = spelled ∙ ap (λ ps. flat_map postfix ps ++ code.Operator o ∷ []) (sym empty);
  tree_is = tree ∙ ap (λ ps. node o (forest (map erase ps))) (sym empty);
  places = ill ∙ ap (λ ps. flat_map ills ps) (sym empty);
  long = ap length empty ∙ ap length (sym sorts);
})

-- over one part
unary : {p : Phrase} (o : Op) (a : Phrase) → parts p ≡ a ∷ [] → postfix p ≡ postfix a ++ code.Operator o ∷ [] → erase p ≡ node o (forest (erase a ∷ [])) →
    ills p ≡ ills a → 1 ≡ length (kid_sorts o) → View p
unary {p} o a one spelled tree ill sorts = over (code.Operator o) o (record {
  operator_is = refl;
  spelled = spelled ∙ ap (λ s. s ++ code.Operator o ∷ []) (sym (append-nil (postfix a))) ∙ ap (λ ps. flat_map postfix ps ++ code.Operator o ∷ []) (sym one);
  tree_is = tree ∙ ap (λ ps. node o (forest (map erase ps))) (sym one);
  places = ill ∙ sym (append-nil (ills a)) ∙ ap (λ ps. flat_map ills ps) (sym one);
  long = ap length one ∙ sorts;
})

-- over two parts
binary : {p : Phrase} (o : Op) (a b : Phrase) → parts p ≡ a ∷ b ∷ [] → postfix p ≡ postfix a ++ (postfix b ++ code.Operator o ∷ []) →
    erase p ≡ node o (forest (erase a ∷ erase b ∷ [])) → ills p ≡ ills a ++ ills b → 2 ≡ length (kid_sorts o) → View p
binary {p} o a b two spelled tree ill sorts = over (code.Operator o) o (record {
  operator_is = refl;
  spelled = spelled ∙ sym (append_assoc (postfix a) (postfix b) (code.Operator o ∷ []))
      ∙ ap (λ s. postfix a ++ s ++ code.Operator o ∷ []) (sym (append-nil (postfix b))) ∙ ap (λ ps. flat_map postfix ps ++ code.Operator o ∷ []) (sym two);
  tree_is = tree ∙ ap (λ ps. node o (forest (map erase ps))) (sym two);
  places = ill ∙ ap (λ s. ills a ++ s) (sym (append-nil (ills b))) ∙ ap (λ ps. flat_map ills ps) (sym two);
  long = ap length two ∙ sorts;
})

-- each phrase is one or the other
pub view : (p : Phrase) → View p
view (Literal d) = leaf (op.Number d) refl refl refl refl refl
view (Argument n) = leaf (op.Dot n) refl refl refl refl refl
view (Variable x primed) = leaf (op.Variable (record { name = x; primed = primed })) refl refl refl refl refl
view (Apply (Call n x l)) = over (code.Call false n x (count l)) (op.Apply (symbol Func x (count l) Everywhere)) (record {
  operator_is = refl;
  spelled = ap (λ s. s ++ code.Call false n x (count l) ∷ []) (postfix_all_is l);
  tree_is = ap (λ ts. node (op.Apply (symbol Func x (count l) Everywhere)) (forest ts)) (erase_all_is l);
  places = ap (λ s. place_if (nat_lt 8 (count l)) n ++ s) (ills_of_all_is l);
  long = call_long l;
})
view (Apply (Any x s)) = leaf (op.UnitFun (symbol UnitFunc x 0 s)) refl refl refl refl refl
view (Negate a) = unary op.Neg a refl refl refl refl refl
view (Diff a) = unary op.Diff a refl refl refl refl refl
view Truth = leaf op.True refl refl refl refl refl
view Falsity = leaf op.False refl refl refl refl refl
view Hole = leaf op.Hole refl refl refl refl refl
view (Holds (Call n x l)) = over (code.Call true n x (count l)) (op.Holds (symbol Pred x (count l) Everywhere)) (record {
  operator_is = refl;
  spelled = ap (λ s. s ++ code.Call true n x (count l) ∷ []) (postfix_all_is l);
  tree_is = ap (λ ts. node (op.Holds (symbol Pred x (count l) Everywhere)) (forest ts)) (erase_all_is l);
  places = ap (λ s. place_if (nat_lt 8 (count l)) n ++ s) (ills_of_all_is l);
  long = call_long l;
})
view (Holds (Any x s)) = leaf (op.UnitPred (symbol UnitPred x 0 s)) refl refl refl refl refl
view (Context x a) = unary (op.Predicational (symbol Quant x 0 Everywhere)) a refl refl refl refl refl
view (Not a) = unary op.Not a refl refl refl refl refl
view (DiffF a) = unary op.DiffF a refl refl refl refl refl
view (Forall x a) = unary (op.Forall x) a refl refl refl refl refl
view (Exists x a) = unary (op.Exists x) a refl refl refl refl refl
view (Box p a) = binary op.Box p a refl refl refl refl refl
view (Dia p a) = binary op.Dia p a refl refl refl refl refl
view (Binary o a b) = binary (infix_op o) a b refl refl refl refl (infix_long o)
view (Const x) = leaf (op.Const (symbol Prog x 0 Everywhere)) refl refl refl refl refl
view (Assign x primed a) = unary (op.Assign (record { name = x; primed = primed })) a refl refl refl refl refl
view (AssignAny x) = leaf (op.Any x) refl refl refl refl refl
view (Test a) = unary op.Test a refl refl refl refl refl
view (Then p q) = binary op.Seq p q refl refl refl refl refl
view (Loop p) = unary op.Loop p refl refl refl refl refl
view (System n l a) = over (code.System n (ode_items l)) (op.System (ode_items l)) (record {
  operator_is = refl;
  spelled = ap (λ s. s ++ (postfix a ++ code.System n (ode_items l) ∷ [])) (postfix_terms_is l)
      ∙ sym (append_assoc (flat_map postfix (right_sides l)) (postfix a) (code.System n (ode_items l) ∷ []))
      ∙ ap (λ s. s ++ code.System n (ode_items l) ∷ []) (sym (more postfix (right_sides l) a));
  tree_is = ap (λ ts. node (op.System (ode_items l)) (forest ts))
      (ap (λ ts. ts ++ erase a ∷ []) (item_terms_is l) ∙ sym (map-append erase (right_sides l) (a ∷ [])));
  places = ap (λ s. place_if (are_ill (ode_items l)) n ++ s) (ap (λ s. s ++ ills a) (ills_of_items_is l) ∙ sym (more ills (right_sides l) a));
  long = system_long l a;
})
view (Noted p l) = noted p l
