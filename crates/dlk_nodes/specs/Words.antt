-- How operators are spelled in node lines: one table, which the reader and the writer have in common.
use Rattle.std.specs.Prelude.{ℕ, List, [], ◌++◌, if◌then◌else◌, Option, Some, None, codes}
use Rattle.std.specs.List.{join_by}
use Rattle.std.specs.Fmt.{decimal}
use Rattle.dlk_tree.specs.declared.op.Num.{Num}
use Rattle.dlk_tree.specs.declared.op.Var.{Var}
use Rattle.dlk_tree.specs.declared.op.OdeItem.{OdeItem}
use Rattle.dlk_tree.specs.declared.op.OdeItem.TheVariants.{Evolve, Const}
use Rattle.dlk_tree.specs.declared.op.Op.{Op}
use Rattle.dlk_tree.specs.declared.op.Op.TheVariants as op
use Rattle.dlk_grammar.specs.Shown.{literal}

-- what stands between the word of an operator and its kids
pub data Detail : Type 0 where
  NoDetail : Detail
  Named : List ℕ → Detail
  OfVariable : Var → Detail
  OfNumber : Num → Detail
  OfDot : ℕ → Detail
  OfUnit : List ℕ → Option (List ℕ) → Detail
  OfItems : List OdeItem → Detail

-- a name, with a prime where it is primed
abbrev pub variable_text : Var → List ℕ
variable_text v = if v.primed then v.name ++ codes "'" else v.name

-- a name, and its taboo between these texts if there is one
abbrev pub with_taboo : List ℕ → List ℕ → List ℕ → Option (List ℕ) → List ℕ
with_taboo before after x None = x
with_taboo before after x (Some y) = x ++ before ++ y ++ after

abbrev pub unit_text : List ℕ → Option (List ℕ) → List ℕ
unit_text x y = with_taboo (codes "|") (codes "|") x y

abbrev pub constant_text : List ℕ → Option (List ℕ) → List ℕ
constant_text x y = with_taboo (codes "{|") (codes "|}") x y

abbrev pub item_text : OdeItem → List ℕ
item_text (Evolve x) = x ++ codes "'"
item_text (Const s) = constant_text s.name s.taboo

-- a detail stands behind a space
abbrev pub detail_text : Detail → List ℕ
detail_text NoDetail = []
detail_text (Named x) = codes " " ++ x
detail_text (OfVariable v) = codes " " ++ variable_text v
detail_text (OfNumber n) = codes " " ++ literal n
detail_text (OfDot n) = codes " " ++ decimal n
detail_text (OfUnit x y) = codes " " ++ unit_text x y
detail_text (OfItems items) = codes " " ++ join_by item_text (codes ",") items

-- the word of an operator, and its detail: one row an operator
abbrev pub call_of : Op → List ℕ × Detail
call_of (op.Variable v) = (codes "var", OfVariable v)
call_of (op.Number n) = (codes "num", OfNumber n)
call_of (op.Dot n) = (codes "dot", OfDot n)
call_of (op.UnitFun s) = (codes "ufun", OfUnit s.name s.taboo)
call_of (op.Apply s) = (codes "app", Named s.name)
call_of op.Neg = (codes "neg", NoDetail)
call_of op.Diff = (codes "diff", NoDetail)
call_of op.Add = (codes "add", NoDetail)
call_of op.Sub = (codes "sub", NoDetail)
call_of op.Mul = (codes "mul", NoDetail)
call_of op.Div = (codes "div", NoDetail)
call_of op.Pow = (codes "pow", NoDetail)
call_of op.True = (codes "true", NoDetail)
call_of op.False = (codes "false", NoDetail)
call_of op.Hole = (codes "hole", NoDetail)
call_of (op.UnitPred s) = (codes "upred", OfUnit s.name s.taboo)
call_of (op.Holds s) = (codes "holds", Named s.name)
call_of op.Eq = (codes "eq", NoDetail)
call_of op.Ne = (codes "ne", NoDetail)
call_of op.Ge = (codes "ge", NoDetail)
call_of op.Gt = (codes "gt", NoDetail)
call_of op.Le = (codes "le", NoDetail)
call_of op.Lt = (codes "lt", NoDetail)
call_of (op.Predicational s) = (codes "quant", Named s.name)
call_of op.Not = (codes "not", NoDetail)
call_of op.DiffF = (codes "difff", NoDetail)
call_of (op.Forall x) = (codes "forall", Named x)
call_of (op.Exists x) = (codes "exists", Named x)
call_of op.And = (codes "and", NoDetail)
call_of op.Or = (codes "or", NoDetail)
call_of op.Imply = (codes "imply", NoDetail)
call_of op.Equiv = (codes "equiv", NoDetail)
call_of op.Box = (codes "box", NoDetail)
call_of op.Dia = (codes "dia", NoDetail)
call_of (op.Const s) = (codes "const", Named s.name)
call_of (op.Assign v) = (codes "assign", OfVariable v)
call_of (op.Any x) = (codes "any", Named x)
call_of op.Test = (codes "test", NoDetail)
call_of (op.System items) = (codes "system", OfItems items)
call_of op.Choice = (codes "choice", NoDetail)
call_of op.Seq = (codes "seq", NoDetail)
call_of op.Loop = (codes "loop", NoDetail)

abbrev pub op_text : Op → List ℕ
op_text o = (call_of o).0 ++ detail_text (call_of o).1
