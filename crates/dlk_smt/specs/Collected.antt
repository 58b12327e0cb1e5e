-- What is collected to be declared.
use Rattle.std.specs.Prelude.{◌≡◌, ℕ, List}
use Rattle.std.specs.Ordering.{nat_cmp}
use Rattle.std.specs.Cmp.Lexicographic.{slice_cmp}
use Rattle.dlk_tree.specs.Listed.{var_cmp}
use Rattle.dlk_tree.specs.declared.op.Var.{Var}
use Rattle.dlk_smt.specs.Smt.{put_all}
use Rattle.dlk_smt.specs.declared.collected.Symbols.{Symbols}

-- these variables and functions were put among those that were there
pub record Gains (old new : Symbols) (variables : List Var) (functions : List (List ℕ)) : Type 0 where
  pub variables_are : new.variables.keys ≡ put_all var_cmp old.variables.keys variables
  pub functions_are : new.functions.keys ≡ put_all (slice_cmp nat_cmp) old.functions.keys functions
