-- The tests for the limits on sequents.
use Rattle.std.specs.Prelude.{Bool, ◌&&◌, List, length, nat_le, All}
use Rattle.std.specs.List.{list_all}
use Rattle.dlk_tree.specs.Trees.{Tree, size, depth}
use Rattle.dlk_calculus.specs.declared.reason.Reason.{Reason}
use Rattle.dlk_calculus.specs.declared.reason.Reason.TheVariants.{TooBig, TooDeep, SideFull}
use Rattle.dlk_calculus.specs.Sequents.{Sequent}
use Rattle.dlk_calculus.specs.Provables.{Provable}
use Rattle.dlk_calculus.specs.Pairs.{Pair}
use Rattle.dlk_calculus.specs.Limits.{most_nodes, greatest_depth, most_formulas, IsSmall, IsShallow}
use Rattle.dlk_calculus.specs.Limited.{InSequent, HasFewFormulas}
use Rattle.dlk_kernel.specs.declared.limits.Measure.{Measure}
use Rattle.dlk_kernel.specs.declared.limits.Measure.TheVariants.{Nodes, Levels}

-- the tree is within the limit of this measure
abbrev pub is_within : Measure → Tree → Bool
is_within Nodes t = nat_le (size t) most_nodes
is_within Levels t = nat_le (depth t) greatest_depth

-- and each formula of the sequent
abbrev pub is_sequent_within : Measure → Sequent → Bool
is_sequent_within measure s = list_all (is_within measure) s.ante && list_all (is_within measure) s.succ

-- and each replacement, and each formula of conclusion and goals
abbrev pub is_substituted_within : Measure → List Pair → Provable → Bool
is_substituted_within measure pairs p =
    list_all (λ pair. is_within measure pair.by) pairs && (is_sequent_within measure p.conclusion && list_all (is_sequent_within measure) p.goals)

-- neither side has too many formulas
abbrev pub has_few : Sequent → Bool
has_few s = nat_le (length s.ante) most_formulas && nat_le (length s.succ) most_formulas

-- all of the sequents are within the limits
pub record AreWithin (all : List Sequent) : Type 0 where
  pub small : All (InSequent IsSmall) all
  pub shallow : All (InSequent IsShallow) all
  pub few : All HasFewFormulas all

-- the first limit that one of the sequents is past
abbrev pub IsPast : List Sequent → Reason → Type 0
IsPast all TooBig = ¬ All (InSequent IsSmall) all
IsPast all TooDeep = All (InSequent IsSmall) all × ¬ All (InSequent IsShallow) all
IsPast all SideFull = All (InSequent IsSmall) all × All (InSequent IsShallow) all × ¬ All HasFewFormulas all
IsPast all _ = ⊥
