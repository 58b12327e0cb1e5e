-- What an operator captures: variables that must not be free in what comes to stand below it (Platzer 2017, section on uniform
-- substitution).
use Rattle.std.specs.Prelude.{◌≡◌, Bool}
use Rattle.dlk_tree.specs.declared.op.Var.{Var}
use Rattle.dlk_tree.specs.declared.op.Op.{Op}
use Rattle.dlk_tree.specs.declared.op.Op.TheVariants as Op'
use Rattle.dlk_tree.specs.Trees.{Tree, node, Forest}
use Rattle.dlk_tree.specs.Statics.{none, all, just, plain, bound, both}
use Rattle.dlk_tree.specs.Listed.{IsInhabited}
use Rattle.dlk_calculus.specs.Kids.{first, later}

-- the variables, by the operator's kids in the result; and the kids in which they are captured
pub record Capture : Type 0 where
  pub set : Forest → Var → Bool
  pub reach : Forest → Forest

abbrev pub nothing : Capture
nothing = record { set = λ new. none; reach = λ kids. kids }

-- these variables, in each kid
abbrev pub in_kids : (Forest → Var → Bool) → Capture
in_kids set = record { set = set; reach = λ kids. kids }

-- what the first kid binds, in the kid behind it
abbrev pub in_later : Capture
in_later = record { set = λ new. bound (first new); reach = later }

-- the table of captures: an operator that isn't here captures nothing
abbrev pub captures : Op → Capture
captures (Op'.Predicational s) = in_kids (λ new. all)
captures Op'.Diff = in_kids (λ new. all)
captures Op'.DiffF = in_kids (λ new. all)
captures (Op'.Forall x) = in_kids (λ new. just (plain x))
captures (Op'.Exists x) = in_kids (λ new. just (plain x))
captures Op'.Box = in_later
captures Op'.Dia = in_later
captures Op'.Seq = in_later
captures Op'.Loop = in_kids (λ new. bound (first new))
captures (Op'.System items) = in_kids (λ new. bound (node (Op'.System items) new))
captures op = nothing

-- no variable is in both sets
abbrev pub AreApart : (Var → Bool) → (Var → Bool) → Type 0
AreApart set other = ¬ IsInhabited (both set other)

-- t is the operator over its new kids, and what it captures is admissible for those kids of before in which it is captured
abbrev pub Stays : ((Var → Bool) → Forest → Type 0) → Op → Forest → Forest → Tree → Type 0
Stays Admissible op old new t = Admissible ((captures op).set new) ((captures op).reach old) × (t ≡ node op new)
