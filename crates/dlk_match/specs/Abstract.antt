-- A variable as an argument: `._0` in its place, outside each operator that captures it.
use Rattle.std.specs.Prelude.{Bool, true, false, if◌then◌else◌}
use Rattle.dlk_tree.specs.declared.op.Var.{Var}
use Rattle.dlk_tree.specs.declared.op.Op.{Op}
use Rattle.dlk_tree.specs.declared.op.Op.TheVariants as Op'
use Rattle.dlk_tree.specs.Tests.{var_eq}
use Rattle.dlk_tree.specs.Trees.{Tree, node, Forest, no_kids, kid}
use Rattle.dlk_calculus.specs.Captures.{captures}
use Rattle.dlk_calculus.specs.Kids.{later}

-- the operator is the variable v
abbrev pub is_variable : Var → Op → Bool
is_variable v (Op'.Variable w) = var_eq v w
is_variable v _ = false

-- [b]f, <b>f and b;c, where b binds in what stands behind it
abbrev pub binds_behind : Op → Bool
binds_behind Op'.Box = true
binds_behind Op'.Dia = true
binds_behind Op'.Seq = true
binds_behind _ = false

-- the first of the new kids, and the others as they were
abbrev pub first_alone : Forest → Forest → Forest
first_alone old no_kids = old
first_alone old (kid t new) = kid t (later old)

-- The operator over kids of before and those with `._0` for v. The variable itself is the dot. Where the operator captures v, of [b]f, <b>f and
-- b;c the dot goes into b alone, and another operator is left whole: a binder of v, a differential and a predicational. Else it goes into each kid.
abbrev pub with_dot : Var → Op → Forest → Forest → Tree
with_dot v op old new =
    if is_variable v op then node (Op'.Dot 0) no_kids
    else node op (if (captures op).set old v then (if binds_behind op then first_alone old new else old) else new)

-- the tree with `._0` for the variable v, outside each operator that captures v
abbrev mutual
  pub abstracted : Var → Tree → Tree
  abstracted v (node op kids) = with_dot v op kids (abstracted_all v kids)

  pub abstracted_all : Var → Forest → Forest
  abstracted_all v no_kids = no_kids
  abstracted_all v (kid t rest) = kid (abstracted v t) (abstracted_all v rest)
