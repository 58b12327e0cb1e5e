-- What atoms say, by the code's parts of them.
use Rattle.std.specs.Prelude.{◌≡◌, ◌≢◌, ℕ, List, [], ◌∷◌, false, Option, Some, None, codes}
use Rattle.std.specs.Option.{option_copied}
use Rattle.std.specs.Str.{bytes_eq}
use Rattle.dlk_tree.specs.Trees.{Tree}
use Rattle.dlk_store.specs.Stores.{IsId, tree}
use Rattle.dlk_calculus.specs.Pairs.{Extra as TreeExtra}
use Rattle.dlk_sequent.specs.declared.extra.Extra.{Extra}
use Rattle.dlk_sequent.specs.Extras.{extra_at, IsKnownExtra}
use Rattle.dlk_sequent.specs.declared.sequent.Place.{Place}
use Rattle.dlk_tacsyn.specs.declared.tactic.Arg.{Arg}
use Rattle.dlk_tacsyn.specs.declared.tactic.Arg.TheVariants as arg
use Rattle.dlk_tacsyn.specs.Rows.{is_use}
use Rattle.dlk_tacsyn.specs.Tactics.{GivenFormula, Atom}
use Rattle.dlk_tacsyn.specs.Ties.{argument_at}
use Rattle.dlk_uses.specs.Uses.{Direction as TheDirection, Forwards, Backwards}
use Rattle.dlk_elab.specs.declared.calls.Direction.{Direction}
use Rattle.dlk_elab.specs.declared.calls.Direction.TheVariants as direction
use Rattle.dlk_elab.specs.declared.calls.UseCall.{UseCall}
use Rattle.dlk_elab.specs.declared.calls.Call.{Call}
use Rattle.dlk_elab.specs.declared.calls.Call.TheVariants as call
use Rattle.dlk_elab.specs.Atoms.{NamesAxiom}

abbrev pub direction_of : Direction → TheDirection
direction_of direction.Forwards = Forwards
direction_of direction.Backwards = Backwards

-- what is given, over the trees of its ids
abbrev pub given_at : List Tree → Option Extra → TreeExtra
given_at trees None = record { renames = []; pairs = [] }
given_at trees (Some extra) = extra_at trees extra

-- the two arguments, and behind them what is given, if it is
abbrev pub GivenBehind : List Arg → Arg → Arg → Option Extra → Type 0
GivenBehind args named at None = args ≡ named ∷ at ∷ []
GivenBehind args named at (Some extra) = args ≡ named ∷ at ∷ arg.With extra ∷ []

-- an argument that is a name, and one that is a place, say this
pub record SaysUse (direction : Direction) (named at : Arg) (u : UseCall) : Type 0 where
  pub direction_is : u.direction ≡ direction
  pub name_is : named ≡ arg.Word u.name.now
  pub place_is : at ≡ arg.At u.place u.path.now

-- so do these arguments, with what may be given behind them
pub record IsUseCall (direction : Direction) (args : List Arg) (u : UseCall) : Type 0 where
  pub named : Arg
  pub at : Arg
  pub says : SaysUse direction named at u
  pub given : GivenBehind args named at (option_copied u.given)

-- no use has these arguments
abbrev pub HasNoUse : List Arg → Type 0
HasNoUse args =
    (y : List ℕ) (place : Place) (path : List ℕ) →
    (args ≢ arg.Word y ∷ arg.At place path ∷ []) × ((extra : Extra) → args ≢ arg.Word y ∷ arg.At place path ∷ arg.With extra ∷ [])

abbrev pub GivenIsKnown : List Tree → Option Extra → Type 0
GivenIsKnown trees None = Unit {0}
GivenIsKnown trees (Some extra) = IsKnownExtra trees extra

-- the name of an atom that is for no box and uses no axiom
pub record IsPlain (name : List ℕ) : Type 0 where
  pub no_generalize : bytes_eq name (codes "G") ≡ false
  pub no_cut : bytes_eq name (codes "boxCut") ≡ false
  pub no_use : is_use name ≡ false

-- this is what the atom says
abbrev pub IsCall : List Tree → Atom → Call → Type 0
IsCall trees atom call.Plain = IsPlain atom.name
IsCall trees atom (call.Generalize at) = (atom.name ≡ codes "G") × (atom.arguments ≡ argument_at trees at.now ∷ [])
IsCall trees atom (call.CutBox h at) =
    (atom.name ≡ codes "boxCut") × (atom.arguments ≡ GivenFormula (tree trees h) ∷ argument_at trees at.now ∷ [])
IsCall trees atom (call.Use u) = NamesAxiom atom (direction_of u.direction) u.name.now u.place u.path.now (given_at trees (option_copied u.given))

-- it uses no axiom
abbrev pub UsesNone : Call → Type 0
UsesNone call.Plain = Unit {0}
UsesNone (call.Generalize at) = Unit {0}
UsesNone (call.CutBox h at) = Unit {0}
UsesNone (call.Use u) = ⊥

-- its ids are those of the store
abbrev pub CallIsKnown : List Tree → Call → Type 0
CallIsKnown trees call.Plain = Unit {0}
CallIsKnown trees (call.Generalize at) = Unit {0}
CallIsKnown trees (call.CutBox h at) = IsId trees h
CallIsKnown trees (call.Use u) = GivenIsKnown trees (option_copied u.given)
