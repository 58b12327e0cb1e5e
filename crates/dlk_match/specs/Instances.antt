-- The names that stand in an axiom's key, which are to be the axiom's own; and names that get names.
use Rattle.std.specs.Prelude.{◌≡◌, ℕ, List, Bool, false, not, All, IsTrue}
use Rattle.dlk_tree.specs.Names.{is_name}
use Rattle.dlk_tree.specs.declared.op.Op.{Op}
use Rattle.dlk_tree.specs.Trees.{Tree}
use Rattle.dlk_tree.specs.Occurs.{has}
use Rattle.dlk_tree.specs.Named.{any_name}
use Rattle.dlk_match.specs.Matching.{is_own}

-- a name that is none of these stands in the operator
abbrev pub has_other_name : List (List ℕ) → Op → Bool
has_other_name own op = any_name (λ x. not (is_own own x)) op

-- only these names stand in the tree
abbrev pub HasOwnNames : List (List ℕ) → Tree → Type 0
HasOwnNames own t = has (has_other_name own) t ≡ false

-- both of each are names
abbrev pub AreNames : List (List ℕ × List ℕ) → Type 0
AreNames renames = All (λ (r : List ℕ × List ℕ). IsTrue (is_name r.0) × IsTrue (is_name r.1)) renames
