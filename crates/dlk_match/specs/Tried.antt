-- What comes of trying a step of matching, and of matching an operator.
use Rattle.std.specs.Prelude.{◌≡◌, ◌↔◌, ℕ, List, [], ◌∷◌, Bool, true, false, if◌then◌else◌, Option, Some, None, All}
use Rattle.dlk_tree.specs.declared.op.Var.{Var}
use Rattle.dlk_tree.specs.declared.op.Sym.{Sym}
use Rattle.dlk_tree.specs.declared.op.Op.{Op}
use Rattle.dlk_tree.specs.declared.op.Op.TheVariants as Op'
use Rattle.dlk_tree.specs.Tests.{sym_eq}
use Rattle.dlk_tree.specs.Trees.{Tree, node, Forest, no_kids, kid}
use Rattle.dlk_store.specs.declared.Id.{Id}
use Rattle.dlk_store.specs.Stores.{IsId, kid_trees}
use Rattle.dlk_calculus.specs.Pairs.{Extra}
use Rattle.dlk_sequent.specs.declared.subst.Pair.{Pair}
use Rattle.dlk_match.specs.Matching.{renamed_to, GetsName, Matches, MatchesAll}
use Rattle.dlk_match.specs.declared.head.Head.{Head}
use Rattle.dlk_match.specs.declared.head.Head.TheVariants.{Refused, Taken, Left}

-- the step leads from the names and pairs of before to the new ones, or it leads nowhere
abbrev pub Tried : (Extra → Extra → Type 0) → Extra → Extra → Bool → Type 0
Tried Leads old new true = Leads old new
Tried Leads old new false = (other : Extra) → Leads old other → ⊥

-- the id that replaces the symbol, if it has a pair
abbrev pub id_for : List Pair → Sym → Option Id
id_for [] s = None
id_for (p ∷ pairs) s = if sym_eq s p.sym then Some p.by else id_for pairs s

-- the name of a variable in an operator with one name
abbrev pub name_in : Op → Option (List ℕ)
name_in (Op'.Variable v) = Some v.name
name_in (Op'.Forall x) = Some x
name_in (Op'.Exists x) = Some x
name_in (Op'.Assign v) = Some v.name
name_in (Op'.Any x) = Some x
name_in _ = None

-- the operator with another name for it
abbrev pub with_name : List ℕ → Op → Op
with_name y (Op'.Variable v) = Op'.Variable (record { name = y; primed = v.primed })
with_name y (Op'.Forall x) = Op'.Forall y
with_name y (Op'.Exists x) = Op'.Exists y
with_name y (Op'.Assign v) = Op'.Assign (record { name = y; primed = v.primed })
with_name y (Op'.Any x) = Op'.Any y
with_name y op = op

-- the key's operator is that of the target, with the name that its name gets
abbrev pub IsNamedLike : Option (List ℕ) → Op → Op → Extra → Extra → Type 0
IsNamedLike None key target old new = (target ≡ key) × (new ≡ old)
IsNamedLike (Some x) key target old new = (y : List ℕ) × (target ≡ with_name y key) × GetsName x y old new

abbrev pub IsLike : Op → Op → Extra → Extra → Type 0
IsLike key target old new = IsNamedLike (name_in key) key target old new

-- what is left to match of the key's node with the tree e: nothing, since they don't match or do; or the key's kids with these ids' trees
abbrev pub HeadIs : Op → Forest → Tree → List Tree → Extra → Extra → Head → Type 0
HeadIs op keys e trees old new Refused = (other : Extra) → Matches (node op keys) e old other → ⊥
HeadIs op keys e trees old new Taken = Matches (node op keys) e old new
HeadIs op keys e trees old new (Left es) = All (IsId trees) es.items ×
    ((other : Extra) → Matches (node op keys) e old other ↔ MatchesAll keys (kid_trees trees es.items) new other)

-- the operator is no symbol's and no system's
abbrev pub is_other : Op → Bool
is_other (Op'.UnitFun s) = false
is_other (Op'.Apply s) = false
is_other (Op'.UnitPred s) = false
is_other (Op'.Holds s) = false
is_other (Op'.Predicational s) = false
is_other (Op'.Const s) = false
is_other (Op'.System items) = false
is_other _ = true

-- the kids are one variable, which gets the name of w, with the same prime
pub record IsArgument (renames : List (List ℕ × List ℕ)) (kids : Forest) (w : Var) : Type 0 where
  pub v : Var
  pub kids_are : kids ≡ kid (node (Op'.Variable v) no_kids) no_kids
  pub name_is : renamed_to renames v.name ≡ Some w.name
  pub primed_is : w.primed ≡ v.primed

abbrev pub IsNoArgument : List (List ℕ × List ℕ) → Forest → Type 0
IsNoArgument renames kids = (w : Var) → IsArgument renames kids w → ⊥

abbrev pub taken : Bool → Head
taken true = Taken
taken false = Refused
