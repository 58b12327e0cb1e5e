-- The table of kinds of symbols, and that of operators: the sort of each, and the sorts of its kids.
use Rattle.std.specs.Prelude.{◌≡◌, ℕ, ◌^◌, ◌%◌, List, [], ◌∷◌, ◌++◌, replicate, length, Bool, true, false, ◌&&◌, ◌||◌, not, nat_le, nat_lt, ◌==◌}
use Rattle.std.specs.Prelude.{if◌then◌else◌, IsTrue, Option, Some, None, is_none}
use Rattle.std.specs.List.{list_all, list_any}
use Rattle.std.specs.Str.{bytes_eq}
use Rattle.dlk_tree.specs.Names.{is_name}
use Rattle.dlk_tree.specs.Tests.{kind_rank}
use Rattle.dlk_tree.specs.declared.op.Sym.{Sym}
use Rattle.dlk_tree.specs.declared.op.Num.{Num}
use Rattle.dlk_tree.specs.declared.op.Kind.{Kind}
use Rattle.dlk_tree.specs.declared.op.Kind.TheVariants.{Func, UnitFunc, Pred, UnitPred, Quant, Prog, Ode}
use Rattle.dlk_tree.specs.declared.op.KindRow.{KindRow}
use Rattle.dlk_tree.specs.declared.op.Sort.{Sort}
use Rattle.dlk_tree.specs.declared.op.Sort.TheVariants.{Term, Formula, Program}
use Rattle.dlk_tree.specs.declared.op.OdeItem.{OdeItem}
use Rattle.dlk_tree.specs.declared.op.OdeItem.TheVariants as Item
use Rattle.dlk_tree.specs.declared.op.Op.{Op}
use Rattle.dlk_tree.specs.declared.op.Op.TheVariants as Op'

-- the names that a system evolves, in order
abbrev pub evolved : List OdeItem → List (List ℕ)
evolved [] = []
evolved (Item.Evolve x ∷ items) = x ∷ evolved items
evolved (Item.Const s ∷ items) = evolved items

abbrev pub taboo_is_name : Option (List ℕ) → Bool
taboo_is_name None = true
taboo_is_name (Some y) = is_name y

-- the table of kinds of symbols
abbrev pub kind_row : Kind → KindRow
kind_row Func = record { sort = Term; arguments = true; taboo = false; hole = false }
kind_row UnitFunc = record { sort = Term; arguments = false; taboo = true; hole = false }
kind_row Pred = record { sort = Formula; arguments = true; taboo = false; hole = false }
kind_row UnitPred = record { sort = Formula; arguments = false; taboo = true; hole = false }
kind_row Quant = record { sort = Formula; arguments = false; taboo = false; hole = true }
kind_row Prog = record { sort = Program; arguments = false; taboo = false; hole = false }
kind_row Ode = record { sort = Program; arguments = false; taboo = true; hole = false }

-- how many arguments a symbol of this kind may have: up to 8, or none
abbrev pub has_arity : Kind → ℕ → Bool
has_arity kind n = if (kind_row kind).arguments then nat_le n 8 else n == 0

abbrev pub is_sym : Sym → Bool
is_sym s = is_name s.name && has_arity s.kind s.arity && taboo_is_name s.taboo && (is_none s.taboo || (kind_row s.kind).taboo)

abbrev pub is_sym_of : Kind → Sym → Bool
is_sym_of kind s = kind_rank s.kind == kind_rank kind && is_sym s

abbrev pub is_num : Num → Bool
is_num n = nat_lt n.digits (10 ^ 38) && nat_le n.scale 37 && (n.scale == 0 || not (n.digits % 10 == 0))

abbrev pub is_item : OdeItem → Bool
is_item (Item.Evolve x) = is_name x
is_item (Item.Const s) = is_sym_of Ode s

abbrev pub all_distinct : List (List ℕ) → Bool
all_distinct [] = true
all_distinct (x ∷ xs) = not (list_any (bytes_eq x) xs) && all_distinct xs

-- 1 to 64 items, each as it must be, and no variable evolved twice
abbrev pub are_items : List OdeItem → Bool
are_items items = nat_le 1 (length items) && nat_le (length items) 64 && list_all is_item items && all_distinct (evolved items)

-- One row of the table: the sort of the trees with this operator at the root, the sorts of their kids in order,
-- and whether the operator's own parts are as they must be.
pub record Row : Type 0 where
  pub sort : Sort
  pub kids : List Sort
  pub parts : Bool

abbrev pub term : List Sort → Bool → Row
term kids parts = record { sort = Term; kids = kids; parts = parts }

abbrev pub formula : List Sort → Bool → Row
formula kids parts = record { sort = Formula; kids = kids; parts = parts }

abbrev pub program : List Sort → Bool → Row
program kids parts = record { sort = Program; kids = kids; parts = parts }

-- the table of operators
abbrev pub row : Op → Row
row (Op'.Variable v) = term [] (is_name v.name)
row (Op'.Number n) = term [] (is_num n)
row (Op'.Dot n) = term [] (nat_lt n 8)
row (Op'.UnitFun s) = term [] (is_sym_of UnitFunc s)
row (Op'.Apply s) = term (replicate s.arity Term) (is_sym_of Func s)
row Op'.Neg = term (Term ∷ []) true
row Op'.Diff = term (Term ∷ []) true
row Op'.Add = term (Term ∷ Term ∷ []) true
row Op'.Sub = term (Term ∷ Term ∷ []) true
row Op'.Mul = term (Term ∷ Term ∷ []) true
row Op'.Div = term (Term ∷ Term ∷ []) true
row Op'.Pow = term (Term ∷ Term ∷ []) true
row Op'.True = formula [] true
row Op'.False = formula [] true
row Op'.Hole = formula [] true
row (Op'.UnitPred s) = formula [] (is_sym_of UnitPred s)
row (Op'.Holds s) = formula (replicate s.arity Term) (is_sym_of Pred s)
row Op'.Eq = formula (Term ∷ Term ∷ []) true
row Op'.Ne = formula (Term ∷ Term ∷ []) true
row Op'.Ge = formula (Term ∷ Term ∷ []) true
row Op'.Gt = formula (Term ∷ Term ∷ []) true
row Op'.Le = formula (Term ∷ Term ∷ []) true
row Op'.Lt = formula (Term ∷ Term ∷ []) true
row (Op'.Predicational s) = formula (Formula ∷ []) (is_sym_of Quant s)
row Op'.Not = formula (Formula ∷ []) true
row Op'.DiffF = formula (Formula ∷ []) true
row (Op'.Forall x) = formula (Formula ∷ []) (is_name x)
row (Op'.Exists x) = formula (Formula ∷ []) (is_name x)
row Op'.And = formula (Formula ∷ Formula ∷ []) true
row Op'.Or = formula (Formula ∷ Formula ∷ []) true
row Op'.Imply = formula (Formula ∷ Formula ∷ []) true
row Op'.Equiv = formula (Formula ∷ Formula ∷ []) true
row Op'.Box = formula (Program ∷ Formula ∷ []) true
row Op'.Dia = formula (Program ∷ Formula ∷ []) true
row (Op'.Const s) = program [] (is_sym_of Prog s)
row (Op'.Assign v) = program (Term ∷ []) (is_name v.name)
row (Op'.Any x) = program [] (is_name x)
row Op'.Test = program (Formula ∷ []) true
row (Op'.System items) = program (replicate (length (evolved items)) Term ++ Formula ∷ []) (are_items items)
row Op'.Choice = program (Program ∷ Program ∷ []) true
row Op'.Seq = program (Program ∷ Program ∷ []) true
row Op'.Loop = program (Program ∷ []) true

abbrev pub sort_of : Op → Sort
sort_of op = (row op).sort

-- the sorts of an operator's kids
abbrev pub kid_sorts : Op → List Sort
kid_sorts op = (row op).kids

-- the operator's own parts are as they must be
abbrev pub has_parts : Op → Bool
has_parts op = (row op).parts

-- an operator may stand over kids of these sorts
pub record Fits (op : Op) (kids : List Sort) : Type 0 where
  pub kids_fit : kids ≡ kid_sorts op
  pub parts_fit : IsTrue (has_parts op)
