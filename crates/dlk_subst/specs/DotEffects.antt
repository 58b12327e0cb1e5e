-- What plugging does at an operator.
use Rattle.dlk_tree.specs.declared.op.Op.{Op}
use Rattle.dlk_tree.specs.declared.op.Op.TheVariants as Op'
use Rattle.dlk_subst.specs.Scopes.{captures_of}
use Rattle.dlk_subst.specs.declared.plug.DotEffect.{DotEffect}
use Rattle.dlk_subst.specs.declared.plug.DotEffect.TheVariants.{Gives, Stays}

abbrev pub dot_effect_of : Op → DotEffect
dot_effect_of (Op'.Dot n) = Gives n
dot_effect_of op = Stays (captures_of op)
