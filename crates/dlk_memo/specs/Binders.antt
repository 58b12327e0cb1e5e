-- What a quantifier binds, and asks of what stands below it.
use Rattle.std.specs.Prelude.{Bool, Option, None, Some, IfSome}
use Rattle.dlk_tree.specs.declared.op.Var.{Var}
use Rattle.dlk_tree.specs.declared.op.Op.{Op}
use Rattle.dlk_tree.specs.declared.op.Op.TheVariants as Op'
use Rattle.dlk_tree.specs.Trees.{Forest}
use Rattle.dlk_tree.specs.Statics.{just, plain}

-- the variable of a quantifier
abbrev pub quantified : Op → Option Var
quantified (Op'.Forall x) = Some (plain x)
quantified (Op'.Exists x) = Some (plain x)
quantified _ = None

-- the variable that is bound, if one is, is admissible for the kids of before
abbrev pub Allowed : ((Var → Bool) → Forest → Type 0) → Option Var → Forest → Type 0
Allowed Admissible bound old = IfSome bound (λ v. Admissible (just v) old)

-- what a quantifier asks of the kids of before, and no other operator
abbrev pub AllowsBelow : ((Var → Bool) → Forest → Type 0) → Op → Forest → Type 0
AllowsBelow Admissible op old = Allowed Admissible (quantified op) old
