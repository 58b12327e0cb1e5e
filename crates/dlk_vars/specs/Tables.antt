-- Tables of variables: a list, in which a variable's number is its place.
use Rattle.std.specs.Prelude.{◌≡◌, ℕ, List, [], ◌∷◌, ◌++◌, Option, Some, position, slice_get, if◌then◌else◌, IsTrue}
use Rattle.dlk_tree.specs.Names.{is_name}
use Rattle.dlk_tree.specs.Tests.{var_eq}
use Rattle.dlk_tree.specs.Listed.{is_among}
use Rattle.dlk_tree.specs.declared.op.Var.{Var}

-- the number of a variable, if it has one
abbrev pub number_of : List Var → Var → Option ℕ
number_of table v = position (var_eq v) table

-- the table after a variable is numbered: it comes last, unless it has a number
abbrev pub numbered : List Var → Var → List Var
numbered table v = if is_among table v then table else table ++ v ∷ []

-- each variable stands in the table once, and its name is one
pub record IsTable (table : List Var) : Type 0 where
  pub once : (i j : ℕ) (v : Var) → slice_get table i ≡ Some v → slice_get table j ≡ Some v → i ≡ j
  pub named : (i : ℕ) (v : Var) → slice_get table i ≡ Some v → IsTrue (is_name v.name)

-- more variables come last, so that each old one keeps its number
pub record Grows (old new : List Var) : Type 0 where
  pub more : List Var
  pub is : new ≡ old ++ more
