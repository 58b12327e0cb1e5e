-- What a look-up by a name answers.
use Rattle.std.specs.Prelude.{◌≡◌, List, [], ◌∷◌, map, All, Option, Some, None}
use Rattle.dlk_tree.specs.Trees.{Tree}
use Rattle.dlk_calculus.specs.Axioms.{AxiomaticRule}
use Rattle.dlk_calculus.specs.Sequents.{alone_right}
use Rattle.dlk_sequent.specs.declared.sequent.Sequent.{Sequent}
use Rattle.dlk_sequent.specs.Sequents.{sequent_at, IsKnown}

-- `None` where there is none; else something that fits what there is
abbrev pub Finds : {A X : Type 0} → (A → X → Type 0) → Option A → Option X → Type 0
Finds fits wanted None = wanted ≡ None
Finds {A} fits wanted (Some x) = (a : A) × (wanted ≡ Some a) × fits a x

-- the sequent of ids stands for the one with f alone on the right
pub record StandsAlone (trees : List Tree) (s : Sequent) (f : Tree) : Type 0 where
  pub known : IsKnown trees s
  pub sequent_is : sequent_at trees s ≡ alone_right f

-- the premise and the conclusion of the rule, each alone on the right
pub record IsRuleAt (trees : List Tree) (r : AxiomaticRule) (premises : List Sequent) (conclusion : Sequent) : Type 0 where
  pub premises_known : All (IsKnown trees) premises
  pub premises_are : map (sequent_at trees) premises ≡ alone_right r.premise ∷ []
  pub conclusion_known : IsKnown trees conclusion
  pub conclusion_is : sequent_at trees conclusion ≡ alone_right r.conclusion
