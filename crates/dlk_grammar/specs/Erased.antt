-- The tree that a phrase stands for, and where a phrase is of ill shape.
use Rattle.std.specs.Prelude.{ℕ, ◌+◌, min, nat_lt, Bool, not, ◌||◌, if◌then◌else◌, List, [], ◌∷◌, ◌++◌, Option, Some, None, fold, length}
use Rattle.dlk_tree.specs.declared.op.Sym.{Sym}
use Rattle.dlk_tree.specs.declared.op.Kind.{Kind}
use Rattle.dlk_tree.specs.declared.op.Kind.TheVariants.{Func, UnitFunc, Pred, UnitPred, Quant, Prog, Ode}
use Rattle.dlk_tree.specs.declared.op.OdeItem.{OdeItem}
use Rattle.dlk_tree.specs.declared.op.OdeItem.TheVariants as ode
use Rattle.dlk_tree.specs.declared.op.Op.{Op}
use Rattle.dlk_tree.specs.declared.op.Op.TheVariants as op
use Rattle.dlk_tree.specs.Table.{evolved, all_distinct}
use Rattle.dlk_tree.specs.Trees.{Tree, node, forest}
use Rattle.dlk_grammar.specs.declared.token.Infix.{Infix}
use Rattle.dlk_grammar.specs.declared.token.Infix.TheVariants.{Equiv, Imply, Or, And, Equal, NotEqual, AtLeast, Greater, AtMost, Less, Add, Sub, Mul}
use Rattle.dlk_grammar.specs.declared.token.Infix.TheVariants.{Div, Pow, Choice}
use Rattle.dlk_grammar.specs.Lexemes.{Word}
use Rattle.dlk_grammar.specs.Phrases.{Space, Everywhere, Except, Phrase, Literal, Argument, Variable, Apply, Negate, Diff, Truth, Falsity, Hole}
use Rattle.dlk_grammar.specs.Phrases.{Holds, Context, Not, DiffF, Forall, Exists, Box, Dia, Binary, Const, Assign, AssignAny, Test, Then, Loop}
use Rattle.dlk_grammar.specs.Phrases.{System, Noted, Phrases, none, snoc, Head, Call, Any, Item, Evolve, Flow, Items, no_items, add}

abbrev pub taboo : Space → Option Word
taboo Everywhere = None
taboo (Except y) = Some y

abbrev pub symbol : Kind → Word → ℕ → Space → Sym
symbol kind x arity s = record { kind = kind; name = x; arity = arity; taboo = taboo s }

abbrev pub item_of : Item → OdeItem
item_of (Evolve x a) = ode.Evolve x
item_of (Flow x s) = ode.Const (symbol Ode x 0 s)

abbrev pub ode_items : Items → List OdeItem
ode_items no_items = []
ode_items (add l i) = ode_items l ++ item_of i ∷ []

abbrev pub infix_op : Infix → Op
infix_op Equiv = op.Equiv
infix_op Imply = op.Imply
infix_op Or = op.Or
infix_op And = op.And
infix_op Equal = op.Eq
infix_op NotEqual = op.Ne
infix_op AtLeast = op.Ge
infix_op Greater = op.Gt
infix_op AtMost = op.Le
infix_op Less = op.Lt
infix_op Add = op.Add
infix_op Sub = op.Sub
infix_op Mul = op.Mul
infix_op Div = op.Div
infix_op Pow = op.Pow
infix_op Choice = op.Choice

abbrev pub count : Phrases → ℕ
count none = 0
count (snoc l a) = count l + 1

abbrev mutual
  -- The tree that a phrase stands for. What `@invariant` says leaves nothing in it.
  pub erase : Phrase → Tree
  erase (Literal d) = node (op.Number d) (forest [])
  erase (Argument n) = node (op.Dot n) (forest [])
  erase (Variable x primed) = node (op.Variable (record { name = x; primed = primed })) (forest [])
  erase (Apply (Call n x l)) = node (op.Apply (symbol Func x (count l) Everywhere)) (forest (erase_all l))
  erase (Apply (Any x s)) = node (op.UnitFun (symbol UnitFunc x 0 s)) (forest [])
  erase (Negate a) = node op.Neg (forest (erase a ∷ []))
  erase (Diff a) = node op.Diff (forest (erase a ∷ []))
  erase Truth = node op.True (forest [])
  erase Falsity = node op.False (forest [])
  erase Hole = node op.Hole (forest [])
  erase (Holds (Call n x l)) = node (op.Holds (symbol Pred x (count l) Everywhere)) (forest (erase_all l))
  erase (Holds (Any x s)) = node (op.UnitPred (symbol UnitPred x 0 s)) (forest [])
  erase (Context x a) = node (op.Predicational (symbol Quant x 0 Everywhere)) (forest (erase a ∷ []))
  erase (Not a) = node op.Not (forest (erase a ∷ []))
  erase (DiffF a) = node op.DiffF (forest (erase a ∷ []))
  erase (Forall x a) = node (op.Forall x) (forest (erase a ∷ []))
  erase (Exists x a) = node (op.Exists x) (forest (erase a ∷ []))
  erase (Box p a) = node op.Box (forest (erase p ∷ erase a ∷ []))
  erase (Dia p a) = node op.Dia (forest (erase p ∷ erase a ∷ []))
  erase (Binary o a b) = node (infix_op o) (forest (erase a ∷ erase b ∷ []))
  erase (Const x) = node (op.Const (symbol Prog x 0 Everywhere)) (forest [])
  erase (Assign x primed a) = node (op.Assign (record { name = x; primed = primed })) (forest (erase a ∷ []))
  erase (AssignAny x) = node (op.Any x) (forest [])
  erase (Test a) = node op.Test (forest (erase a ∷ []))
  erase (Then p q) = node op.Seq (forest (erase p ∷ erase q ∷ []))
  erase (Loop p) = node op.Loop (forest (erase p ∷ []))
  erase (System n l a) = node (op.System (ode_items l)) (forest (item_terms l ++ erase a ∷ []))
  erase (Noted p l) = erase p

  pub erase_all : Phrases → List Tree
  erase_all none = []
  erase_all (snoc l a) = erase_all l ++ erase a ∷ []

  -- the right sides of the evolved variables
  pub item_terms : Items → List Tree
  item_terms no_items = []
  item_terms (add l (Evolve x a)) = item_terms l ++ erase a ∷ []
  item_terms (add l (Flow x s)) = item_terms l

abbrev pub place_if : Bool → ℕ → List ℕ
place_if ill n = if ill then n ∷ [] else []

-- an application of more than 8 arguments
abbrev pub is_ill_call : Phrases → Bool
is_ill_call l = nat_lt 8 (count l)

-- a system of more than 64 items, or one that evolves a variable twice
abbrev pub is_ill_system : Items → Bool
is_ill_system l = nat_lt 64 (length (ode_items l)) || not (all_distinct (evolved (ode_items l)))

abbrev mutual
  -- The places at which what is of ill shape begins: an application at its name, a system at its brace.
  pub ills : Phrase → List ℕ
  ills (Literal d) = []
  ills (Argument n) = []
  ills (Variable x primed) = []
  ills (Apply h) = ills_of_head h
  ills (Negate a) = ills a
  ills (Diff a) = ills a
  ills Truth = []
  ills Falsity = []
  ills Hole = []
  ills (Holds h) = ills_of_head h
  ills (Context x a) = ills a
  ills (Not a) = ills a
  ills (DiffF a) = ills a
  ills (Forall x a) = ills a
  ills (Exists x a) = ills a
  ills (Box p a) = ills p ++ ills a
  ills (Dia p a) = ills p ++ ills a
  ills (Binary o a b) = ills a ++ ills b
  ills (Const x) = []
  ills (Assign x primed a) = ills a
  ills (AssignAny x) = []
  ills (Test a) = ills a
  ills (Then p q) = ills p ++ ills q
  ills (Loop p) = ills p
  ills (System n l a) = place_if (is_ill_system l) n ++ (ills_of_items l ++ ills a)
  ills (Noted p l) = ills p ++ ills_of_all l

  pub ills_of_head : Head → List ℕ
  ills_of_head (Call n x l) = place_if (is_ill_call l) n ++ ills_of_all l
  ills_of_head (Any x s) = []

  pub ills_of_all : Phrases → List ℕ
  ills_of_all none = []
  ills_of_all (snoc l a) = ills_of_all l ++ ills a

  pub ills_of_items : Items → List ℕ
  ills_of_items no_items = []
  ills_of_items (add l (Evolve x a)) = ills_of_items l ++ ills a
  ills_of_items (add l (Flow x s)) = ills_of_items l

-- the least of some numbers
abbrev pub lowest : List ℕ → Option ℕ
lowest [] = None
lowest (n ∷ ns) = Some (fold min n ns)
