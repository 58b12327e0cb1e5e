-- Smooth terms, and the formulas that are made of their comparisons. Along a run that stays in a domain a smooth term is differentiable
-- in time, and its slope is its differential.
use Rattle.std.specs.Prelude.{ℕ, List, [], ◌∷◌, ◌++◌, Bool, true, false, ◌&&◌, ◌||◌, not, ◌==◌, if◌then◌else◌}
use Rattle.std.specs.List.{list_any}
use Rattle.dlk_tree.specs.declared.op.Var.{Var}
use Rattle.dlk_tree.specs.declared.op.Op.{Op}
use Rattle.dlk_tree.specs.declared.op.Op.TheVariants as Op'
use Rattle.dlk_tree.specs.Tests.{var_eq}
use Rattle.dlk_tree.specs.Trees.{Tree, node, Forest, no_kids, kid}
use Rattle.dlk_tree.specs.TreeTests.{tree_eq}
use Rattle.dlk_tree.specs.Statics.{prime}
use Rattle.dlk_calculus.specs.Kids.{first, last}
pub use Rattle.dlk_calculus.specs.Arithmetic.{is_comparison}

-- ---- the parts of a domain

abbrev pub is_and : Op → Bool
is_and Op'.And = true
is_and _ = false

-- what `&` joins, from the top: a formula that is no conjunction is its only part
abbrev mutual
  pub parts : Tree → List Tree
  parts (node op kids) = if is_and op then parts_in kids else node op kids ∷ []

  pub parts_in : Forest → List Tree
  parts_in no_kids = []
  parts_in (kid t rest) = parts t ++ parts_in rest

-- the parts of the domain of a system with these kids: the last one is its domain
abbrev pub domain_parts : Forest → List Tree
domain_parts no_kids = []
domain_parts (kid t rest) = parts (last (kid t rest))

abbrev pub is_zero : Tree → Bool
is_zero (node (Op'.Number n) kids) = n.digits == 0
is_zero _ = false

abbrev pub is_variable : Var → Tree → Bool
is_variable v (node (Op'.Variable w) kids) = var_eq v w
is_variable v _ = false

-- `!=`, `>` or `<`
abbrev pub is_apart : Op → Bool
is_apart Op'.Ne = true
is_apart Op'.Gt = true
is_apart Op'.Lt = true
is_apart _ = false

-- the first of these two sides is d, and the second is 0
abbrev pub are_term_and_zero : Tree → Tree → Tree → Bool
are_term_and_zero d side other = tree_eq d side && is_zero other

-- the part is d!=0, d>0, d<0, 0!=d, 0>d or 0<d
abbrev pub keeps_off_zero : Tree → Tree → Bool
keeps_off_zero d (node op kids) = is_apart op && (are_term_and_zero d (first kids) (last kids) || are_term_and_zero d (last kids) (first kids))

-- some part does
abbrev pub is_kept_off_zero : List Tree → Tree → Bool
is_kept_off_zero domain d = list_any (keeps_off_zero d) domain

abbrev pub is_equation : Op → Bool
is_equation Op'.Eq = true
is_equation _ = false

-- the part is x'=0
abbrev pub says_constant : List ℕ → Tree → Bool
says_constant x (node op kids) = is_equation op && is_variable (prime x) (first kids) && is_zero (last kids)

-- some part is
abbrev pub is_frozen : List Tree → List ℕ → Bool
is_frozen domain x = list_any (says_constant x) domain

-- ---- smooth terms; `domain` are the parts of the domain

-- numbers, functions without arguments, and `+ - * / ^`
abbrev pub is_constant_op : Op → Bool
is_constant_op (Op'.Number n) = true
is_constant_op (Op'.Apply s) = s.arity == 0
is_constant_op Op'.Neg = true
is_constant_op Op'.Add = true
is_constant_op Op'.Sub = true
is_constant_op Op'.Mul = true
is_constant_op Op'.Div = true
is_constant_op Op'.Pow = true
is_constant_op _ = false

-- at each node: a term without variables
abbrev mutual
  pub is_constant : Tree → Bool
  is_constant (node op kids) = is_constant_op op && are_constant kids

  pub are_constant : Forest → Bool
  are_constant no_kids = true
  are_constant (kid t rest) = is_constant t && are_constant rest

-- a whole number from 0 on, as a literal
abbrev pub is_whole : Tree → Bool
is_whole (node (Op'.Number n) kids) = n.scale == 0
is_whole _ = false

-- the last is a term without variables, or one that the domain keeps off 0
abbrev pub ends_in_divisor : List Tree → Forest → Bool
ends_in_divisor domain no_kids = false
ends_in_divisor domain (kid t rest) = is_constant (last (kid t rest)) || is_kept_off_zero domain (last (kid t rest))

-- What an operator of a smooth term may be, over kids that are smooth:
abbrev pub joins_smooth : List Tree → Op → Forest → Bool
-- a variable without a prime, a number, a function without arguments
joins_smooth domain (Op'.Variable v) kids = not v.primed
joins_smooth domain (Op'.Number n) kids = true
joins_smooth domain (Op'.Apply s) kids = s.arity == 0
-- `+ - *`
joins_smooth domain Op'.Neg kids = true
joins_smooth domain Op'.Add kids = true
joins_smooth domain Op'.Sub kids = true
joins_smooth domain Op'.Mul kids = true
-- `^` with a whole literal as exponent, or between terms without variables
joins_smooth domain Op'.Pow kids = is_whole (last kids) || are_constant kids
-- `/` by a term without variables, or by one that the domain keeps off 0
joins_smooth domain Op'.Div kids = ends_in_divisor domain kids
joins_smooth domain _ kids = false

abbrev mutual
  pub is_smooth : List Tree → Tree → Bool
  is_smooth domain (node op kids) = joins_smooth domain op kids && are_smooth domain kids

  pub are_smooth : List Tree → Forest → Bool
  are_smooth domain no_kids = true
  are_smooth domain (kid t rest) = is_smooth domain t && are_smooth domain rest

-- ---- formulas over them

-- `true`, `false`, `!`, `&`, `|`, `->` and `<->`
abbrev pub is_connective : Op → Bool
is_connective Op'.True = true
is_connective Op'.False = true
is_connective Op'.Not = true
is_connective Op'.And = true
is_connective Op'.Or = true
is_connective Op'.Imply = true
is_connective Op'.Equiv = true
is_connective _ = false

-- connectives over comparisons of smooth terms
abbrev mutual
  pub is_smooth_formula : List Tree → Tree → Bool
  is_smooth_formula domain (node op kids) =
      if is_comparison op then are_smooth domain kids else is_connective op && are_smooth_formulas domain kids

  pub are_smooth_formulas : List Tree → Forest → Bool
  are_smooth_formulas domain no_kids = true
  are_smooth_formulas domain (kid t rest) = is_smooth_formula domain t && are_smooth_formulas domain rest
