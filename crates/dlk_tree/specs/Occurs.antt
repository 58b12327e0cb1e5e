-- What stands at some node of a tree: a symbol, an argument dot, `_`.
use Rattle.std.specs.Prelude.{ℕ, Bool, true, false, ◌||◌, ◌==◌, List, [], ◌∷◌}
use Rattle.std.specs.List.{list_any}
use Rattle.dlk_tree.specs.Tests.{sym_eq}
use Rattle.dlk_tree.specs.Trees.{Tree, node, Forest, no_kids, kid}
use Rattle.dlk_tree.specs.declared.op.Sym.{Sym}
use Rattle.dlk_tree.specs.declared.op.OdeItem.{OdeItem}
use Rattle.dlk_tree.specs.declared.op.OdeItem.TheVariants as Item
use Rattle.dlk_tree.specs.declared.op.Op.{Op}
use Rattle.dlk_tree.specs.declared.op.Op.TheVariants as Op'

-- the test holds of some operator
abbrev mutual
  pub has : (Op → Bool) → Tree → Bool
  has test (node op kids) = test op || any_has test kids

  pub any_has : (Op → Bool) → Forest → Bool
  any_has test no_kids = false
  any_has test (kid t rest) = has test t || any_has test rest

-- the ODE constants among a system's items
abbrev pub constants : List OdeItem → List Sym
constants [] = []
constants (Item.Evolve x ∷ items) = constants items
constants (Item.Const s ∷ items) = s ∷ constants items

-- the symbols of an operator; dots and `_` are none
abbrev pub symbols_of : Op → List Sym
symbols_of (Op'.Variable v) = []
symbols_of (Op'.Number n) = []
symbols_of (Op'.Dot n) = []
symbols_of (Op'.UnitFun s) = s ∷ []
symbols_of (Op'.Apply s) = s ∷ []
symbols_of Op'.Neg = []
symbols_of Op'.Diff = []
symbols_of Op'.Add = []
symbols_of Op'.Sub = []
symbols_of Op'.Mul = []
symbols_of Op'.Div = []
symbols_of Op'.Pow = []
symbols_of Op'.True = []
symbols_of Op'.False = []
symbols_of Op'.Hole = []
symbols_of (Op'.UnitPred s) = s ∷ []
symbols_of (Op'.Holds s) = s ∷ []
symbols_of Op'.Eq = []
symbols_of Op'.Ne = []
symbols_of Op'.Ge = []
symbols_of Op'.Gt = []
symbols_of Op'.Le = []
symbols_of Op'.Lt = []
symbols_of (Op'.Predicational s) = s ∷ []
symbols_of Op'.Not = []
symbols_of Op'.DiffF = []
symbols_of (Op'.Forall x) = []
symbols_of (Op'.Exists x) = []
symbols_of Op'.And = []
symbols_of Op'.Or = []
symbols_of Op'.Imply = []
symbols_of Op'.Equiv = []
symbols_of Op'.Box = []
symbols_of Op'.Dia = []
symbols_of (Op'.Const s) = s ∷ []
symbols_of (Op'.Assign v) = []
symbols_of (Op'.Any x) = []
symbols_of Op'.Test = []
symbols_of (Op'.System items) = constants items
symbols_of Op'.Choice = []
symbols_of Op'.Seq = []
symbols_of Op'.Loop = []

-- the symbol is one of the operator's: kind, name, arity and taboo are the same
abbrev pub has_symbol : Sym → Op → Bool
has_symbol s op = list_any (sym_eq s) (symbols_of op)

abbrev pub occurs : Sym → Tree → Bool
occurs s t = has (has_symbol s) t

abbrev pub is_dot : ℕ → Op → Bool
is_dot n (Op'.Dot m) = m == n
is_dot n _ = false

-- a dot of any number
abbrev pub is_some_dot : Op → Bool
is_some_dot (Op'.Dot m) = true
is_some_dot _ = false

abbrev pub is_hole : Op → Bool
is_hole Op'.Hole = true
is_hole _ = false

abbrev pub has_dot : ℕ → Tree → Bool
has_dot n t = has (is_dot n) t

abbrev pub has_dots : Tree → Bool
has_dots t = has is_some_dot t

abbrev pub has_hole : Tree → Bool
has_hole t = has is_hole t
