-- Sequents of arithmetic, which a proof may rest on.
use Rattle.std.specs.Prelude.{Bool, true, false, ◌&&◌, ◌==◌}
use Rattle.std.specs.List.{list_all}
use Rattle.dlk_tree.specs.declared.op.Op.{Op}
use Rattle.dlk_tree.specs.declared.op.Op.TheVariants as Op'
use Rattle.dlk_tree.specs.Trees.{Tree, node, Forest, no_kids, kid}
use Rattle.dlk_calculus.specs.Sequents.{Sequent}

-- variables, numbers, functions without arguments, and the operators `+ - * / ^`; comparisons, `true` and `false`, connectives and
-- quantifiers; an operator that isn't here is none
abbrev pub is_arithmetic : Op → Bool
is_arithmetic (Op'.Variable v) = true
is_arithmetic (Op'.Number n) = true
is_arithmetic (Op'.Apply s) = s.arity == 0
is_arithmetic Op'.Neg = true
is_arithmetic Op'.Add = true
is_arithmetic Op'.Sub = true
is_arithmetic Op'.Mul = true
is_arithmetic Op'.Div = true
is_arithmetic Op'.Pow = true
is_arithmetic Op'.Eq = true
is_arithmetic Op'.Ne = true
is_arithmetic Op'.Ge = true
is_arithmetic Op'.Gt = true
is_arithmetic Op'.Le = true
is_arithmetic Op'.Lt = true
is_arithmetic Op'.True = true
is_arithmetic Op'.False = true
is_arithmetic Op'.Not = true
is_arithmetic Op'.And = true
is_arithmetic Op'.Or = true
is_arithmetic Op'.Imply = true
is_arithmetic Op'.Equiv = true
is_arithmetic (Op'.Forall x) = true
is_arithmetic (Op'.Exists x) = true
is_arithmetic op = false

-- `=`, `!=`, `>=`, `>`, `<=` and `<`
abbrev pub is_comparison : Op → Bool
is_comparison Op'.Eq = true
is_comparison Op'.Ne = true
is_comparison Op'.Ge = true
is_comparison Op'.Gt = true
is_comparison Op'.Le = true
is_comparison Op'.Lt = true
is_comparison _ = false

-- at each node
abbrev mutual
  pub is_arithmetic_tree : Tree → Bool
  is_arithmetic_tree (node op kids) = is_arithmetic op && are_arithmetic_trees kids

  pub are_arithmetic_trees : Forest → Bool
  are_arithmetic_trees no_kids = true
  are_arithmetic_trees (kid t rest) = is_arithmetic_tree t && are_arithmetic_trees rest

-- of each formula
abbrev pub is_arithmetic_sequent : Sequent → Bool
is_arithmetic_sequent s = list_all is_arithmetic_tree s.ante && list_all is_arithmetic_tree s.succ
