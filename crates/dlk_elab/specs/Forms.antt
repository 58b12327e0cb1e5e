-- The trees that the plans of uses need.
use Rattle.std.specs.Str.{bytes_eq}
use Rattle.std.specs.Prelude.{if◌then◌else◌, ◌+◌, ℕ, List, [], ◌∷◌, codes}
use Rattle.dlk_tree.specs.declared.op.Op.TheVariants.{Dot, Hole}
use Rattle.dlk_tree.specs.Trees.{Tree}
use Rattle.dlk_store.specs.declared.Id.{Id}
use Rattle.dlk_store.specs.Stores.{StandsFor}
use Rattle.dlk_calculus.specs.Notation.{leaf}
use Rattle.dlk_calculus.specs.Paths.{put_at}
use Rattle.dlk_sequent.specs.declared.subst.Pair.{Pair}
use Rattle.dlk_sequent.specs.declared.sequent.Place.{Place}
use Rattle.dlk_sequent.specs.declared.sequent.Place.TheVariants.{Ante, Succ}
use Rattle.dlk_rules.specs.declared.rule.Rule.{Rule}
use Rattle.dlk_rules.specs.declared.rule.Rule.TheVariants as rule
use Rattle.dlk_rules.specs.declared.step.Step.{Step}
use Rattle.dlk_rules.specs.declared.step.Step.TheVariants as step
use Rattle.dlk_uses.specs.Uses.{Direction, Forwards, Backwards, any_p, any_q, any_f, any_g, p_of_one, context_c}
use Rattle.dlk_elab.specs.declared.spot.Spot.{Spot}
use Rattle.dlk_elab.specs.declared.forms.Exchanged.{Exchanged}
use Rattle.dlk_elab.specs.declared.forms.Equated.{Equated}
pub use Rattle.dlk_uses.specs.Uses.{new_side}

-- rules over ids in turn, on these goals: the first on a fact, and each other on the last row
abbrev pub applying : ℕ → ℕ → List (ℕ × Rule) → List Step
applying fact rows [] = []
applying fact rows (r ∷ rules) = step.Apply fact r.0 r.1 ∷ applying (rows + 1) (rows + 1) rules

-- the row on which the next rule would act
abbrev pub row_behind : ℕ → ℕ → List (ℕ × Rule) → ℕ
row_behind fact rows [] = fact
row_behind fact rows (r ∷ rules) = row_behind (rows + 1) (rows + 1) rules

-- unlike names exchanged in turn, where there are so many rows
abbrev pub renamed : ℕ → List (List ℕ × List ℕ) → List Step
renamed rows [] = []
renamed rows (r ∷ renames) = if bytes_eq r.0 r.1 then renamed rows renames else step.Rename rows r.0 r.1 ∷ renamed (rows + 1) renames

-- and a substitution, unless there are no pairs
abbrev pub substituted : ℕ → List Pair → List Step
substituted rows [] = []
substituted rows (p ∷ pairs) = step.Subst rows (p ∷ pairs) ∷ []

-- the rules of an exchange, over ids
abbrev pub exchange_rules : Spot → Place → Direction → Id → List (ℕ × Rule)
exchange_rules spot (Succ j) Forwards new =
    (spot.goal, rule.CutR j new) ∷ (spot.goal + 1, rule.CoHideR j) ∷ (spot.goal + 1, rule.EquivifyR 1) ∷ (spot.goal + 1, rule.CommuteEquivR 1) ∷ []
exchange_rules spot (Succ j) Backwards new =
    (spot.goal, rule.CutR j new) ∷ (spot.goal + 1, rule.CoHideR j) ∷ (spot.goal + 1, rule.EquivifyR 1) ∷ []
exchange_rules spot (Ante i) Forwards new =
    (spot.goal, rule.CutL i new) ∷ (spot.goal + 1, rule.CoHideR (spot.right + 1)) ∷ (spot.goal + 1, rule.EquivifyR 1) ∷ []
exchange_rules spot (Ante i) Backwards new =
    (spot.goal, rule.CutL i new) ∷ (spot.goal + 1, rule.CoHideR (spot.right + 1)) ∷ (spot.goal + 1, rule.EquivifyR 1) ∷
    (spot.goal + 1, rule.CommuteEquivR 1) ∷ []

-- the steps by which a context of equivalent formulas is equivalent
abbrev pub contextual : ℕ → Exchanged → List Step
contextual now x =
    step.AxRule (codes "CE") ∷
    step.Subst (now + 1) ((record { sym = any_p; by = x.left }) ∷ (record { sym = any_q; by = x.right }) ∷ (record { sym = context_c; by = x.context }) ∷ []) ∷
    step.Merge (now + 2) 1 now ∷ []

-- the steps by which formulas with equal terms are equivalent
abbrev pub with_equal_terms : ℕ → Equated → List Step
with_equal_terms now y =
    step.AxRule (codes "CQ") ∷
    step.Subst (now + 1) ((record { sym = any_f; by = y.left }) ∷ (record { sym = any_g; by = y.right }) ∷ []) ∷
    step.Merge (now + 2) 1 now ∷
    step.Subst (now + 3) ((record { sym = p_of_one; by = y.context }) ∷ []) ∷ []

-- the steps by which an equation holds under a condition that is a leaf
abbrev pub under_condition : ℕ → (equation condition : Id) → List Step
under_condition now equation condition =
    step.Start (record { ante = []; succ = equation ∷ [] }) ∷
    step.Apply (now + 1) 1 (rule.CutR 1 condition) ∷
    step.Merge (now + 2) 2 now ∷
    step.Leaf (record { ante = []; succ = condition ∷ [] }) ∷
    step.Merge (now + 3) 1 (now + 4) ∷ []

-- the trees for an exchange by l <-> r at a path of the formula e
pub record AreExchangeTrees (trees : List Tree) (direction : Direction) (e : Tree) (path : List ℕ) (l r : Tree) (x : Exchanged) : Type 0 where
  pub left : StandsFor trees x.left l
  pub right : StandsFor trees x.right r
  pub context : StandsFor trees x.context (put_at e path (leaf Hole))
  pub new : StandsFor trees x.new (put_at e path (new_side direction l r))

-- the trees for a use of l=r at a path of the formula d
pub record AreEquatedTrees (trees : List Tree) (d : Tree) (path : List ℕ) (l r : Tree) (x : Equated) : Type 0 where
  pub left : StandsFor trees x.left l
  pub right : StandsFor trees x.right r
  pub context : StandsFor trees x.context (put_at d path (leaf (Dot 0)))
