-- One proof as a lemma in another.
use Rattle.std.specs.Prelude.{◌≡◌, ◌≢◌, ℕ, ◌+◌, List, [], ◌∷◌, ◌++◌, length, map}
use Rattle.dlk_calculus.specs.declared.reason.Reason.{Reason}
use Rattle.dlk_calculus.specs.declared.reason.Reason.TheVariants.{GoalsFull, LeavesFull, LinesFull}
use Rattle.dlk_calculus.specs.Provables.{Provable, AreNew}
use Rattle.dlk_calculus.specs.Sequents.{Sequent}
use Rattle.dlk_calculus.specs.Steps.{Step, Merge}
use Rattle.dlk_rules.specs.Facts.{renumbered}

-- Joins c by main rows goals steps: into each of these first goals of the fact `main` that is c the fact `by` is merged, the last of them first.
-- There are so many rows before, and each step's row is the fact of the next one.
pub data Joins (c : Sequent) (by : ℕ) : (main rows : ℕ) → List Sequent → List Step → Type 0 where
  no_goals : {main rows : ℕ} → Joins c by main rows [] []
  another : {main rows : ℕ} {goals : List Sequent} {s : Sequent} {steps : List Step} →
      s ≢ c → Joins c by main rows goals steps → Joins c by main rows (goals ++ s ∷ []) steps
  the_same : {main rows : ℕ} {goals : List Sequent} {steps : List Step} →
      Joins c by (rows + 1) (rows + 1) goals steps → Joins c by main rows (goals ++ c ∷ []) (Merge main (length goals + 1) by ∷ steps)

-- Linked term goals lemma c steps: the steps of a term whose last row has these goals, then those of a lemma that concludes c, and then the
-- lemma in the place of each goal that is c.
pub record Linked (term : List Step) (goals : List Sequent) (lemma : List Step) (c : Sequent) (steps : List Step) : Type 0 where
  pub joins : List Step
  pub joined : Joins c (length term + length lemma) (length term) (length term + length lemma) goals joins
  pub steps_are : steps ≡ term ++ map (renumbered (λ fact. fact + length term)) lemma ++ joins

-- Replaces c new old goals: the old goals with `new` in the place of each that is c
pub data Replaces (c : Sequent) (new : List Sequent) : List Sequent → List Sequent → Type 0 where
  no_more : Replaces c new [] []
  stays : {s : Sequent} {old goals : List Sequent} → s ≢ c → Replaces c new old goals → Replaces c new (s ∷ old) (s ∷ goals)
  proved : {old goals : List Sequent} → Replaces c new old goals → Replaces c new (c ∷ old) (new ++ goals)

-- the provable p with the lemma q in the place of each goal that q concludes: q's leaves that aren't there yet come behind those of p
pub record Joined (p q r : Provable) : Type 0 where
  pub conclusion : r.conclusion ≡ p.conclusion
  pub goals : Replaces q.conclusion q.goals p.goals r.goals
  pub new : List Sequent
  pub are_new : AreNew p.leaves q.leaves new
  pub leaves : r.leaves ≡ p.leaves ++ new

-- what may speak against a step of linked ones: too many goals, leaves or rows
abbrev pub IsLinkLimit : Reason → Type 0
IsLinkLimit GoalsFull = Unit {0}
IsLinkLimit LeavesFull = Unit {0}
IsLinkLimit LinesFull = Unit {0}
IsLinkLimit _ = ⊥
