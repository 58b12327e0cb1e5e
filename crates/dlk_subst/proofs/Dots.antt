-- What the effect of plugging says of the operator.
use Rattle.std.proofs.Common.{◌≡◌, refl, sym, ap, ℕ, List}
use Rattle.dlk_tree.specs.declared.op.Op.{Op}
use Rattle.dlk_tree.specs.declared.op.Op.TheVariants as Op'
use Rattle.dlk_tree.specs.Trees.{Tree, Forest}
use Rattle.dlk_calculus.specs.Captures.{Stays}
use Rattle.dlk_calculus.specs.Plug.{IsClear, PlugAt}
use Rattle.dlk_subst.specs.declared.scope.Captures.{Captures}
use Rattle.dlk_subst.specs.declared.scope.Captures.TheVariants.{Nothing}
use Rattle.dlk_subst.specs.declared.plug.DotEffect.{DotEffect}
use Rattle.dlk_subst.specs.declared.plug.DotEffect.TheVariants as Effect'
use Rattle.dlk_subst.specs.Scopes.{captures_of}
use Rattle.dlk_subst.specs.DotEffects.{dot_effect_of}

abbrev number_in : DotEffect → ℕ
number_in (Effect'.Gives n) = n
number_in (Effect'.Stays captured) = 0

abbrev captured_in : DotEffect → Captures
captured_in (Effect'.Gives n) = Nothing
captured_in (Effect'.Stays captured) = captured

pub gives_dot : (op : Op) (n : ℕ) → Effect'.Gives n ≡ dot_effect_of op → op ≡ Op'.Dot n
gives_dot (Op'.Dot m) n e = ap (λ k. Op'.Dot k) (sym (ap number_in e))
gives_dot _ n e = cc

pub stays_captured : (op : Op) (captured : Captures) → Effect'.Stays captured ≡ dot_effect_of op → captured ≡ captures_of op
stays_captured (Op'.Dot m) captured e = cc
stays_captured _ captured e = ap captured_in e

pub stays_plugged : (args : List Tree) (op : Op) (old new : Forest) (captured : Captures) → Effect'.Stays captured ≡ dot_effect_of op
    → PlugAt args op old new ≡ Stays (IsClear args) op old new
stays_plugged args (Op'.Dot m) old new captured e = cc
stays_plugged args _ old new captured e = refl
