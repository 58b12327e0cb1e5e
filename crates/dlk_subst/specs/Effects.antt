-- What a substitution does at an operator, by ids.
use Rattle.std.specs.Prelude.{◌≡◌, List, [], ◌∷◌, if◌then◌else◌, Option, Some, None}
use Rattle.dlk_tree.specs.declared.op.Sym.{Sym}
use Rattle.dlk_tree.specs.declared.op.Op.{Op}
use Rattle.dlk_tree.specs.declared.op.Op.TheVariants as Op'
use Rattle.dlk_tree.specs.Tests.{sym_eq}
use Rattle.dlk_tree.specs.Trees.{Tree, Forest, trees_in}
use Rattle.dlk_tree.specs.Statics.{all}
use Rattle.dlk_store.specs.declared.Id.{Id}
use Rattle.dlk_store.specs.Stores.{tree}
use Rattle.dlk_calculus.specs.Kids.{first}
use Rattle.dlk_calculus.specs.Captures.{Stays}
use Rattle.dlk_calculus.specs.Plug.{Plug, filled}
use Rattle.dlk_calculus.specs.Subst.{IsAdmissible}
use Rattle.dlk_sequent.specs.declared.subst.Pair.{Pair}
use Rattle.dlk_sequent.specs.Substitutions.{pairs_at}
use Rattle.dlk_subst.specs.declared.pairs.Effect.{Effect}
use Rattle.dlk_subst.specs.declared.pairs.Effect.TheVariants as Effect'

-- what replaces the symbol, if it has a pair
abbrev pub found : List Pair → Sym → Option Id
found [] s = None
found (p ∷ pairs) s = if sym_eq s p.sym then Some p.by else found pairs s

-- the effect of a replacement, and without one the operator stays
abbrev pub or_stays : (Id → Effect) → Option Id → Effect
or_stays effect (Some id) = effect id
or_stays effect None = Effect'.Stays

abbrev pub effect_of : List Pair → Op → Effect
effect_of pairs (Op'.UnitFun s) = or_stays Effect'.Gives (found pairs s)
effect_of pairs (Op'.UnitPred s) = or_stays Effect'.Gives (found pairs s)
effect_of pairs (Op'.Const s) = or_stays Effect'.Gives (found pairs s)
effect_of pairs (Op'.Apply s) = or_stays Effect'.Plugs (found pairs s)
effect_of pairs (Op'.Holds s) = or_stays Effect'.Plugs (found pairs s)
effect_of pairs (Op'.Predicational s) = or_stays Effect'.Fills (found pairs s)
effect_of pairs _ = Effect'.Stays

-- t is what the effect makes of the operator over old kids, where these give the new ones
abbrev pub EffectRow : List Tree → List Pair → Op → Forest → Forest → Effect → Tree → Type 0
EffectRow trees pairs op old new (Effect'.Gives id) t = t ≡ tree trees id
EffectRow trees pairs op old new (Effect'.Plugs id) t = Plug (trees_in new) (tree trees id) t
EffectRow trees pairs op old new (Effect'.Fills id) t = IsAdmissible (pairs_at trees pairs) all old × (t ≡ filled (first new) (tree trees id))
EffectRow trees pairs op old new Effect'.Stays t = Stays (IsAdmissible (pairs_at trees pairs)) op old new t
