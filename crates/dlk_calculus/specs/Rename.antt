-- Renaming: two names exchanged everywhere (uniform renaming), and another name for a bound variable (bound renaming). Taboos, and the
-- condition on symbols that may read variables that aren't written with them, are this project's.
use Rattle.std.specs.Prelude.{ℕ, List, map, Bool, ◌||◌, not, if◌then◌else◌, option_map}
use Rattle.std.specs.List.{list_any}
use Rattle.std.specs.Str.{bytes_eq}
use Rattle.dlk_tree.specs.declared.op.Var.{Var}
use Rattle.dlk_tree.specs.declared.op.Sym.{Sym}
use Rattle.dlk_tree.specs.declared.op.OdeItem.{OdeItem}
use Rattle.dlk_tree.specs.declared.op.OdeItem.TheVariants as Item
use Rattle.dlk_tree.specs.declared.op.Op.{Op}
use Rattle.dlk_tree.specs.declared.op.Op.TheVariants as Op'
use Rattle.dlk_tree.specs.Table.{kind_row}
use Rattle.dlk_tree.specs.Trees.{Tree, node, Forest, no_kids, kid}
use Rattle.dlk_tree.specs.Statics.{free, plain, prime}
use Rattle.dlk_tree.specs.Occurs.{has, symbols_of}
use Rattle.dlk_calculus.specs.Notation.{forall, exists, box, dia, assign}

-- The names x and y are exchanged: in variables, quantifiers, assignments (`x:=*;` too), evolved variables, taboos. Names of symbols stay.

abbrev pub swap_name : List ℕ → List ℕ → List ℕ → List ℕ
swap_name x y z = if bytes_eq z x then y else if bytes_eq z y then x else z

abbrev pub swap_var : List ℕ → List ℕ → Var → Var
swap_var x y v = record { name = swap_name x y v.name; primed = v.primed }

abbrev pub swap_sym : List ℕ → List ℕ → Sym → Sym
swap_sym x y s = record { kind = s.kind; name = s.name; arity = s.arity; taboo = option_map (swap_name x y) s.taboo }

abbrev pub swap_item : List ℕ → List ℕ → OdeItem → OdeItem
swap_item x y (Item.Evolve z) = Item.Evolve (swap_name x y z)
swap_item x y (Item.Const s) = Item.Const (swap_sym x y s)

-- the names exchanged in an operator: one that isn't here has no name, and stays
abbrev pub swap_op : List ℕ → List ℕ → Op → Op
swap_op x y (Op'.Variable v) = Op'.Variable (swap_var x y v)
swap_op x y (Op'.Forall z) = Op'.Forall (swap_name x y z)
swap_op x y (Op'.Exists z) = Op'.Exists (swap_name x y z)
swap_op x y (Op'.Assign v) = Op'.Assign (swap_var x y v)
swap_op x y (Op'.Any z) = Op'.Any (swap_name x y z)
swap_op x y (Op'.System items) = Op'.System (map (swap_item x y) items)
swap_op x y (Op'.UnitFun s) = Op'.UnitFun (swap_sym x y s)
swap_op x y (Op'.UnitPred s) = Op'.UnitPred (swap_sym x y s)
swap_op x y (Op'.Apply s) = Op'.Apply (swap_sym x y s)
swap_op x y (Op'.Holds s) = Op'.Holds (swap_sym x y s)
swap_op x y (Op'.Predicational s) = Op'.Predicational (swap_sym x y s)
swap_op x y (Op'.Const s) = Op'.Const (swap_sym x y s)
swap_op x y op = op

abbrev mutual
  pub swap : List ℕ → List ℕ → Tree → Tree
  swap x y (node op kids) = node (swap_op x y op) (swap_all x y kids)

  pub swap_all : List ℕ → List ℕ → Forest → Forest
  swap_all x y no_kids = no_kids
  swap_all x y (kid t rest) = kid (swap x y t) (swap_all x y rest)

-- A symbol that may read variables that aren't written with it: a unit symbol, a predicational, a program constant or an ODE constant. An
-- exchange of names can't reach what will stand for it.
abbrev pub hides_variables : Sym → Bool
hides_variables s = not (kind_row s.kind).arguments

abbrev pub has_hidden_variables : Tree → Bool
has_hidden_variables t = has (λ op. list_any hides_variables (symbols_of op)) t

-- y may stand for x, which is bound over f: y, y' and x' aren't free in f, and no symbol stands in f that may read variables that aren't
-- written with it; that y, y' and x' are must-bound before it doesn't help
abbrev pub may_rename : List ℕ → List ℕ → Tree → Bool
may_rename x y f = not (free f (plain y) || free f (prime y) || free f (prime x) || has_hidden_variables f)

-- RenamesBound x y f t u: t binds the variable x outermost over f, and u is t with y for it: x and y are exchanged in the binder and in f.
-- One case for each formula that binds a variable which can have another name.
pub data RenamesBound (x y : List ℕ) (f : Tree) : Tree → Tree → Type 0 where
  -- \forall x f
  in_forall : RenamesBound x y f (forall x f) (forall y (swap x y f))
  -- \exists x f
  in_exists : RenamesBound x y f (exists x f) (exists y (swap x y f))
  -- [x:=e;]f; the term that is assigned stays
  in_box : (e : Tree) → RenamesBound x y f (box (assign x e) f) (box (assign y e) (swap x y f))
  -- <x:=e;>f
  in_dia : (e : Tree) → RenamesBound x y f (dia (assign x e) f) (dia (assign y e) (swap x y f))

-- a variable x that a formula binds over f, and g, the formula with another name for x
pub record Bound : Type 0 where
  pub x : List ℕ
  pub f : Tree
  pub g : Tree
