-- What an operator captures, by ids: the form in which the code has the table of captures.
use Rattle.std.specs.Prelude.{List, [], ◌∷◌, Bool, IsTrue}
use Rattle.dlk_tree.specs.declared.op.Var.{Var}
use Rattle.dlk_tree.specs.declared.op.Op.{Op}
use Rattle.dlk_tree.specs.declared.op.Op.TheVariants as Op'
use Rattle.dlk_tree.specs.Names.{is_name}
use Rattle.dlk_tree.specs.Trees.{Tree}
use Rattle.dlk_tree.specs.Statics.{none, all, just, plain, bound}
use Rattle.dlk_store.specs.declared.Id.{Id}
use Rattle.dlk_store.specs.Stores.{IsId, tree}
use Rattle.dlk_subst.specs.declared.scope.Scope.{Scope}
use Rattle.dlk_subst.specs.declared.scope.Scope.TheVariants.{Nothing, Every, Only, BoundBy}
use Rattle.dlk_subst.specs.declared.scope.Captures.{Captures}
use Rattle.dlk_subst.specs.declared.scope.Captures.TheVariants as Captures'

-- the variables of a scope
abbrev pub scope_set : List Tree → Scope → Var → Bool
scope_set trees Nothing = none
scope_set trees Every = all
scope_set trees (Only x) = just x
scope_set trees (BoundBy id) = bound (tree trees id)

-- its variable has a name, and its id is one of the store
abbrev pub IsKnownScope : List Tree → Scope → Type 0
IsKnownScope trees Nothing = Unit {0}
IsKnownScope trees Every = Unit {0}
IsKnownScope trees (Only x) = IsTrue (is_name x.name)
IsKnownScope trees (BoundBy id) = IsId trees id

-- what the first kid binds
abbrev pub first_scope : List Id → Scope
first_scope [] = Nothing
first_scope (id ∷ ids) = BoundBy id

-- what an operator captures, as far as it tells without its kids
abbrev pub captures_of : Op → Captures
captures_of Op'.Diff = Captures'.Every
captures_of Op'.DiffF = Captures'.Every
captures_of (Op'.Predicational s) = Captures'.Every
captures_of (Op'.Forall x) = Captures'.Only (plain x)
captures_of (Op'.Exists x) = Captures'.Only (plain x)
captures_of Op'.Box = Captures'.FirstInLater
captures_of Op'.Dia = Captures'.FirstInLater
captures_of Op'.Seq = Captures'.FirstInLater
captures_of Op'.Loop = Captures'.FirstInAll
captures_of (Op'.System items) = Captures'.Itself
captures_of _ = Captures'.Nothing

-- its scope over its new kids, of which this is the node
abbrev pub scope_by : Captures → List Id → Id → Scope
scope_by Captures'.Nothing new made = Nothing
scope_by Captures'.Every new made = Every
scope_by (Captures'.Only x) new made = Only x
scope_by Captures'.FirstInLater new made = first_scope new
scope_by Captures'.FirstInAll new made = first_scope new
scope_by Captures'.Itself new made = BoundBy made

abbrev pub scope_of : Op → List Id → Id → Scope
scope_of op new made = scope_by (captures_of op) new made

abbrev pub later_ids : List Id → List Id
later_ids [] = []
later_ids (id ∷ ids) = ids

-- the kids in which it captures
abbrev pub reach_by : Captures → List Id → List Id
reach_by Captures'.FirstInLater old = later_ids old
reach_by _ old = old

abbrev pub reach_of : Op → List Id → List Id
reach_of op old = reach_by (captures_of op) old
