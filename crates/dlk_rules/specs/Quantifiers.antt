-- What the rules on bound variables look at, over ids.
use Rattle.std.specs.Prelude.{◌≡◌, ℕ, List, Bool, ◌||◌, IsTrue, map}
use Rattle.std.specs.List.{list_any}
use Rattle.dlk_tree.specs.declared.op.Op.{Op}
use Rattle.dlk_tree.specs.declared.op.Op.TheVariants as Op'
use Rattle.dlk_tree.specs.declared.op.Var.{Var}
use Rattle.dlk_tree.specs.Statics.{free, plain}
use Rattle.dlk_tree.specs.Trees.{Tree}
use Rattle.dlk_store.specs.declared.Id.{Id}
use Rattle.dlk_store.specs.Stores.{tree, StandsFor}
use Rattle.dlk_calculus.specs.Notation.{one}
use Rattle.dlk_calculus.specs.Places.{At, IsPlace}
use Rattle.dlk_calculus.specs.Sequents.{Sequent}
use Rattle.dlk_calculus.specs.Rename.{may_rename, RenamesBound, Bound}
use Rattle.dlk_rename.specs.declared.fault.RenameFault.{RenameFault}
use Rattle.dlk_rename.specs.declared.fault.RenameFault.TheVariants as rename
use Rattle.dlk_rules.specs.declared.quantifiers.Quantifier.{Quantifier}
use Rattle.dlk_rules.specs.declared.quantifiers.Quantifier.TheVariants.{Exists, Forall}
use Rattle.dlk_rules.specs.declared.rule.RuleFault.{RuleFault}
use Rattle.dlk_rules.specs.declared.rule.RuleFault.TheVariants as fault
use Rattle.dlk_rules.specs.Looks.{IsFreshFault}

-- this quantifier of a variable
abbrev pub quantifier_of : Quantifier → List ℕ → Op
quantifier_of Exists x = Op'.Exists x
quantifier_of Forall x = Op'.Forall x

-- the operator is no such quantifier
pub record IsOther (quantifier : Quantifier) (op : Op) : Type 0 where
  pub other : (x : List ℕ) → ¬ (op ≡ quantifier_of quantifier x)

-- the formula there is this quantifier of the variable over f, and the id stands for f
pub record IsQuantifiedAt (trees : List Tree) (side : List Tree) (place : ℕ) (quantifier : Quantifier) (v : Var) (id : Id) : Type 0 where
  pub place_is : IsPlace side place
  pub f : Tree
  pub at : At side place (one (quantifier_of quantifier v.name) f)
  pub unprimed : v ≡ plain v.name
  pub f_stands : StandsFor trees id f

-- the variable is free in a formula of the sequent
abbrev pub is_read : Sequent → Var → Bool
is_read s v = list_any (λ t. free t v) s.ante || list_any (λ t. free t v) s.succ

-- the formula there binds x over f, and g is the same with y for x
abbrev pub IsBoundAt : List Tree → ℕ → List ℕ → Bound → Type 0
IsBoundAt side place y p = (t : Tree) × At side place t × RenamesBound p.x y p.f t p.g

-- y may stand for x
abbrev pub IsFreshFor : List ℕ → Bound → Type 0
IsFreshFor y p = IsTrue (may_rename p.x y p.f)

-- so it is, and the id stands for g
pub record IsReboundAt (side : List Tree) (place : ℕ) (y : List ℕ) (trees : List Tree) (id : Id) : Type 0 where
  pub place_is : IsPlace side place
  pub parts : Bound
  pub bound : IsBoundAt side place y parts
  pub fresh : IsFreshFor y parts
  pub g_stands : StandsFor trees id parts.g

-- the cause where a formula at a place of a side of ids isn't so
abbrev pub IsReboundFault : List Tree → List Id → ℕ → List ℕ → RuleFault → Type 0
IsReboundFault trees ids place y why = IsFreshFault (IsPlace (map (tree trees) ids) place) Bound (IsBoundAt (map (tree trees) ids) place y) (IsFreshFor y) why

-- the fault of a rule whose bound variable gets no other name
abbrev pub of_rename : RenameFault → RuleFault
of_rename rename.WrongShape = fault.WrongShape
of_rename rename.NotFresh = fault.NotFresh
of_rename rename.Memory = fault.Memory
