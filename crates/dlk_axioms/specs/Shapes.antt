-- The trees that shapes stand for.
use Rattle.std.specs.Prelude.{ℕ, List, map, Option, None}
use Rattle.std.specs.Option.{option_copied}
use Rattle.dlk_tree.specs.declared.op.Sym.{Sym}
use Rattle.dlk_tree.specs.declared.op.Kind.{Kind}
use Rattle.dlk_tree.specs.declared.op.Kind.TheVariants.{Func, UnitFunc, Pred, UnitPred, Quant, Prog, Ode}
use Rattle.dlk_tree.specs.declared.op.OdeItem.{OdeItem}
use Rattle.dlk_tree.specs.declared.op.OdeItem.TheVariants as item
use Rattle.dlk_tree.specs.declared.op.Op.{Op}
use Rattle.dlk_tree.specs.declared.op.Op.TheVariants as op
use Rattle.dlk_tree.specs.Statics.{plain, prime}
use Rattle.dlk_tree.specs.Trees.{Tree, node, no_kids, kid}
use Rattle.dlk_axioms.specs.declared.shape.Item.{Item}
use Rattle.dlk_axioms.specs.declared.shape.Item.TheVariants.{Evolve, Const as Constant}
use Rattle.dlk_axioms.specs.declared.shape.Label.{Label}
use Rattle.dlk_axioms.specs.declared.shape.Label.TheVariants as label
use Rattle.dlk_axioms.specs.declared.shape.TreeShape.{TreeShape, Leaf, One', Two'}

abbrev pub symbol : Kind → List ℕ → ℕ → Option (List ℕ) → Sym
symbol kind name arity taboo = record { kind = kind; name = name; arity = arity; taboo = taboo }

abbrev pub item_of : Item → OdeItem
item_of (Evolve x) = item.Evolve x.now
item_of (Constant c taboo) = item.Const (symbol Ode c.now 0 (option_copied taboo))

abbrev pub operator_of : Label → Op
operator_of (label.Variable x) = op.Variable (plain x.now)
operator_of (label.Primed x) = op.Variable (prime x.now)
operator_of (label.Number n) = op.Number (record { digits = n; scale = 0 })
operator_of (label.Apply f arity) = op.Apply (symbol Func f.now arity None)
operator_of (label.UnitFun f taboo) = op.UnitFun (symbol UnitFunc f.now 0 (option_copied taboo))
operator_of (label.Holds p arity) = op.Holds (symbol Pred p.now arity None)
operator_of (label.UnitPred p taboo) = op.UnitPred (symbol UnitPred p.now 0 (option_copied taboo))
operator_of (label.Predicational c) = op.Predicational (symbol Quant c.now 0 None)
operator_of (label.Const a) = op.Const (symbol Prog a.now 0 None)
operator_of (label.Forall x) = op.Forall x.now
operator_of (label.Exists x) = op.Exists x.now
operator_of (label.Assign x) = op.Assign (plain x.now)
operator_of (label.AssignPrimed x) = op.Assign (prime x.now)
operator_of (label.Any x) = op.Any x.now
operator_of (label.System items) = op.System (map item_of items.now)
operator_of label.Neg = op.Neg
operator_of label.Diff = op.Diff
operator_of label.Add = op.Add
operator_of label.Sub = op.Sub
operator_of label.Mul = op.Mul
operator_of label.Div = op.Div
operator_of label.Pow = op.Pow
operator_of label.Eq = op.Eq
operator_of label.Ne = op.Ne
operator_of label.Ge = op.Ge
operator_of label.Gt = op.Gt
operator_of label.Le = op.Le
operator_of label.Lt = op.Lt
operator_of label.Not = op.Not
operator_of label.DiffF = op.DiffF
operator_of label.And = op.And
operator_of label.Or = op.Or
operator_of label.Imply = op.Imply
operator_of label.Equiv = op.Equiv
operator_of label.Box = op.Box
operator_of label.Dia = op.Dia
operator_of label.Test = op.Test
operator_of label.Choice = op.Choice
operator_of label.Seq = op.Seq
operator_of label.Loop = op.Loop

-- an operator over the trees of what stands behind it
abbrev pub tree_of : TreeShape → Tree
tree_of (Leaf l) = node (operator_of l) no_kids
tree_of (One' l at s) = node (operator_of l) (kid (tree_of s) no_kids)
tree_of (Two' l at s also t) = node (operator_of l) (kid (tree_of s) (kid (tree_of t) no_kids))
