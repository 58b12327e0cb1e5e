-- Which trees have a derivative, as tests: an operator at a time.
use Rattle.std.specs.Prelude.{◌≡◌, ◌⊎◌, Bool, true, false, ◌&&◌, not, ◌==◌, length, if◌then◌else◌}
use Rattle.dlk_tree.specs.declared.op.Op.{Op}
use Rattle.dlk_tree.specs.declared.op.Op.TheVariants as Op'
use Rattle.dlk_tree.specs.Table.{kid_sorts}
use Rattle.dlk_tree.specs.Trees.{Tree, node, Forest, no_kids, kid, sorts}
use Rattle.dlk_calculus.specs.Kids.{last}
pub use Rattle.dlk_calculus.specs.Arithmetic.{is_comparison}

-- no kids
abbrev pub is_bare : Forest → Bool
is_bare no_kids = true
is_bare (kid t rest) = false

-- as many kids as the operator has; of a function that is asked below
abbrev pub has_all_kids : Op → Forest → Bool
has_all_kids (Op'.Apply s) kids = true
has_all_kids op kids = length (sorts kids) == length (kid_sorts op)

-- a number other than 0, as a literal
abbrev pub is_exponent : Tree → Bool
is_exponent (node (Op'.Number k) kids) = not (k.digits == 0)
is_exponent _ = false

-- a term with this operator has a derivative where each kid has one
abbrev pub joins_terms : Op → Forest → Bool
joins_terms (Op'.Variable v) kids = not v.primed
joins_terms (Op'.Number k) kids = true
joins_terms (Op'.Apply s) kids = is_bare kids
joins_terms Op'.Neg kids = true
joins_terms Op'.Add kids = true
joins_terms Op'.Sub kids = true
joins_terms Op'.Mul kids = true
joins_terms Op'.Pow kids = is_exponent (last kids)
joins_terms _ kids = false

abbrev mutual
  pub is_derivable : Tree → Bool
  is_derivable (node op kids) = joins_terms op kids && (has_all_kids op kids && are_derivable kids)

  pub are_derivable : Forest → Bool
  are_derivable no_kids = true
  are_derivable (kid t rest) = is_derivable t && are_derivable rest

-- so does a formula
abbrev pub joins_formulas : Op → Bool
joins_formulas Op'.And = true
joins_formulas Op'.Or = true
joins_formulas (Op'.Forall x) = true
joins_formulas _ = false

abbrev mutual
  pub is_derivable_formula : Tree → Bool
  is_derivable_formula (node op kids) =
      if is_comparison op then has_all_kids op kids && are_derivable kids else joins_formulas op && (has_all_kids op kids && are_derivable_formulas kids)

  pub are_derivable_formulas : Forest → Bool
  are_derivable_formulas no_kids = true
  are_derivable_formulas (kid t rest) = is_derivable_formula t && are_derivable_formulas rest

-- the tree is a `( )'` that stands for a derivative
abbrev pub has_derivative : Tree → Bool
has_derivative (node Op'.Diff kids) = has_all_kids Op'.Diff kids && are_derivable kids
has_derivative (node Op'.DiffF kids) = has_all_kids Op'.DiffF kids && are_derivable_formulas kids
has_derivative _ = false

-- a tree that has a derivative, as a term or as a formula
abbrev pub IsDerivable : Tree → Type 0
IsDerivable t = (is_derivable t ≡ true) ⊎ (is_derivable_formula t ≡ true)
