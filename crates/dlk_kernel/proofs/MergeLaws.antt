-- The row of a merge, and the faults of one that gives none.
use Rattle.std.proofs.Common.{◌≡◌, ◌≢◌, ℕ, ◌-◌, List, ◌++◌, map, ap, ◌∙◌, Some, None}
use Rattle.std.specs.List.{All}
use Rattle.std.specs.Option.{option_map}
use Rattle.std.proofs.lemmas.List.Elements.{All-append, All-take, All-drop}
use Rattle.dlk_tree.specs.Trees.{Tree}
use Rattle.dlk_calculus.specs.declared.reason.Reason.TheVariants.{NoGoal, NotEqual}
use Rattle.dlk_calculus.specs.Places.{at, put_all}
use Rattle.dlk_calculus.specs.Sequents.{Sequent as TreeSequent}
use Rattle.dlk_calculus.specs.Provables.{AreNew, merged}
use Rattle.dlk_calculus.specs.Steps.{Merge, Gives, merge, Fault}
use Rattle.dlk_calculus.proofs.PlaceLaws.{at-map, At-map, at_none}
use Rattle.dlk_calculus.proofs.StepLaws.{first_no_goal_to_merge, first_other_goal}
use Rattle.dlk_sequent.specs.declared.sequent.Sequent.{Sequent}
use Rattle.dlk_sequent.specs.Sequents.{sequent_at, IsKnown}
use Rattle.dlk_kernel.specs.declared.row.Row.{Row}
use Rattle.dlk_kernel.specs.Kernel.{provable_at, provables_at, IsKnownRow}
use Rattle.dlk_kernel.proofs.RowLaws.{put_all-map}

module _ (trees : List Tree) (rows : List Row) (fact goal by : ℕ) (row proof : Row) (fact_there : at rows fact ≡ Some row)
    (by_there : at rows by ≡ Some proof) where
  abbrev fact_is : at (provables_at trees rows) fact ≡ Some (provable_at trees row)
  fact_is = At-map (provable_at trees) rows fact row fact_there

  abbrev by_is : at (provables_at trees rows) by ≡ Some (provable_at trees proof)
  by_is = At-map (provable_at trees) rows by proof by_there

  -- there is no such goal
  pub merge_without_goal : at row.goals goal ≡ None → Fault (provables_at trees rows) (Merge fact goal by) NoGoal
  merge_without_goal none =
      first_no_goal_to_merge (provables_at trees rows) fact goal by (provable_at trees row) (provable_at trees proof) fact_is by_is
      (at_none (map (sequent_at trees) row.goals) goal (at-map (sequent_at trees) row.goals goal ∙ ap (option_map (sequent_at trees)) none))

  module _ (s : Sequent) (goal_there : at row.goals goal ≡ Some s) where
    -- the goal is another sequent
    pub merge_at_other : sequent_at trees s ≢ sequent_at trees proof.conclusion → Fault (provables_at trees rows) (Merge fact goal by) NotEqual
    merge_at_other other =
        first_other_goal (provables_at trees rows) fact goal by (provable_at trees row) (provable_at trees proof) (sequent_at trees s) fact_is by_is
        (At-map (sequent_at trees) row.goals goal s goal_there) other

    -- the row with the goals of the other fact in the goal's place
    pub merged_given : sequent_at trees s ≡ sequent_at trees proof.conclusion →
        (new : List TreeSequent) → AreNew (map (sequent_at trees) row.leaves) (map (sequent_at trees) proof.leaves) new →
        (leaves : List Sequent) → map (sequent_at trees) leaves ≡ map (sequent_at trees) row.leaves ++ new →
        (made : Row) → made ≡ record { conclusion = row.conclusion; goals = put_all row.goals goal proof.goals; leaves = leaves } →
        Gives (provables_at trees rows) (Merge fact goal by) (provable_at trees made)
    merged_given same new are_new leaves leaves_are made is =
        let stands : provable_at trees made ≡ merged (provable_at trees row) goal (provable_at trees proof) new =
        rw (is, put_all-map (sequent_at trees) row.goals goal proof.goals, leaves_are) in
        rw stands (merge fact goal by (provable_at trees row) (provable_at trees proof) new fact_is by_is
        (At-map (sequent_at trees) row.goals goal s goal_there ∙ ap Some same) are_new)

pub merged_known : (trees : List Tree) (goal : ℕ) (row proof : Row) → IsKnownRow trees row → IsKnownRow trees proof → (leaves : List Sequent) →
    All (IsKnown trees) leaves →
    (made : Row) → made ≡ record { conclusion = row.conclusion; goals = put_all row.goals goal proof.goals; leaves = leaves } → IsKnownRow trees made
merged_known trees goal row proof h k leaves known made is =
    rw is (record {
      conclusion = h.conclusion;
      goals =
          All-append (IsKnown trees) _ _ (All-append (IsKnown trees) _ _ (All-take (IsKnown trees) (goal - 1) row.goals h.goals) k.goals)
          (All-drop (IsKnown trees) goal row.goals h.goals);
      leaves = known;
    })
