-- The limits of the rows that steps give.
use Rattle.std.proofs.Common.{◌≡◌, ℕ, ◌-◌, ◌<◌, ◌≤◌, List, [], ◌∷◌, ◌++◌, length, map, take, drop, true, false, refl, sym, ap, ◌∙◌, arith, Some, length-append}
use Rattle.std.specs.List.{All}
use Rattle.std.proofs.lemmas.List.{take-map, drop-map, length-map}
use Rattle.dlk_tree.specs.Trees.{Tree}
use Rattle.dlk_calculus.specs.declared.reason.Reason.TheVariants.{TooBig, TooDeep, GoalsFull, LeavesFull}
use Rattle.dlk_calculus.specs.Places.{at, put_all}
use Rattle.dlk_calculus.specs.Arithmetic.{is_arithmetic_sequent}
use Rattle.dlk_calculus.specs.Sequents.{IsSequent, Sequent as TreeSequent}
use Rattle.dlk_calculus.specs.Rules.{Rule, IsProperRule, Premises}
use Rattle.dlk_calculus.specs.Pairs.{Pair as TreePair}
use Rattle.dlk_calculus.specs.Limits.{most_goals, most_leaves}
use Rattle.dlk_calculus.specs.Limited.{IsLimited}
use Rattle.dlk_calculus.specs.Provables.{Provable, started, assumed, applied, AreNew, merged}
use Rattle.dlk_calculus.specs.Steps.{Start, Leaf, Apply, Merge, Substitute, Gives, start, leaf, apply, merge, goals_applied, IsWithin, Fault}
use Rattle.std.specs.Prelude.{IsTrue}
use Rattle.dlk_calculus.proofs.PlaceLaws.{At-map, At_All}
use Rattle.dlk_calculus.proofs.StepLaws.{some_new}
use Rattle.dlk_calculus.proofs.LimitLaws.{apply_goals}
use Rattle.dlk_sequent.specs.declared.sequent.Sequent.{Sequent}
use Rattle.dlk_sequent.specs.Sequents.{sequent_at}
use Rattle.dlk_kernel.specs.declared.row.Row.{Row}
use Rattle.dlk_kernel.specs.declared.fault.StepFault.{StepFault}
use Rattle.dlk_kernel.specs.Faults.{IsStepFault}
use Rattle.dlk_kernel.specs.Kernel.{provable_at, provables_at}
use Rattle.dlk_kernel.specs.declared.limits.Measure.TheVariants.{Nodes, Levels}
use Rattle.dlk_kernel.specs.Limits.{is_substituted_within, AreWithin, IsPast}
use Rattle.dlk_kernel.proofs.Measured.{substituted_decides, fails}
use Rattle.dlk_kernel.proofs.Limited.{fault_weaker, past_fault, goals_fault, all_within, start_tells, leaf_tells, apply_tells, merge_goals_fault}
use Rattle.dlk_kernel.proofs.Limited.{merge_leaves_fault, merge_within, big_fault, deep_fault, substitute_within}

-- a start
module _ (trees : List Tree) (s : Sequent) (formulas : IsSequent (sequent_at trees s)) (made : List Sequent) (made_is : made ≡ s ∷ []) where
  pub start_past : (fault : StepFault) → IsStepFault (IsPast (map (sequent_at trees) made)) fault →
      IsStepFault (λ why. (rows : List Provable) → Fault rows (Start (sequent_at trees s)) why) fault
  start_past fault past =
      let t = sequent_at trees s in
      fault_weaker (IsPast (map (sequent_at trees) made)) (λ why. (rows : List Provable) → Fault rows (Start t) why)
      (λ why p rows. past_fault rows (Start t) (started t) (start t formulas) (t ∷ []) (start_tells t) why (rw made_is at p)) fault past

  pub start_within : AreWithin (map (sequent_at trees) made) → (row : Row) → row ≡ record { conclusion = s; goals = s ∷ []; leaves = [] } →
      IsWithin (Start (sequent_at trees s)) (provable_at trees row)
  start_within within row is =
      let t = sequent_at trees s in
      rw is (all_within [] (Start t) (started t) (start t formulas) (t ∷ []) (start_tells t) (rw made_is at within) (λ e. elim e [ ]) (λ e. elim e [ ]))

-- a leaf
module _ (trees : List Tree) (s : Sequent) (formulas : IsSequent (sequent_at trees s))
    (arithmetic : IsTrue (is_arithmetic_sequent (sequent_at trees s))) (made : List Sequent) (made_is : made ≡ s ∷ []) where
  pub leaf_past : (fault : StepFault) → IsStepFault (IsPast (map (sequent_at trees) made)) fault →
      IsStepFault (λ why. (rows : List Provable) → Fault rows (Leaf (sequent_at trees s)) why) fault
  leaf_past fault past =
      let t = sequent_at trees s in
      fault_weaker (IsPast (map (sequent_at trees) made)) (λ why. (rows : List Provable) → Fault rows (Leaf t) why)
      (λ why p rows. past_fault rows (Leaf t) (assumed t) (leaf t formulas arithmetic) (t ∷ []) (leaf_tells t) why (rw made_is at p)) fault past

  pub leaf_within : AreWithin (map (sequent_at trees) made) → (row : Row) → row ≡ record { conclusion = s; goals = []; leaves = s ∷ [] } →
      IsWithin (Leaf (sequent_at trees s)) (provable_at trees row)
  leaf_within within row is =
      let t = sequent_at trees s in
      rw is (all_within [] (Leaf t) (assumed t) (leaf t formulas arithmetic) (t ∷ []) (leaf_tells t) (rw made_is at within) (λ e. elim e [ ]) (λ e. elim e [ ]))

-- as many items are put at a place, whatever they stand for
put_all-length : {A B : Type 0} (f g : A → B) (items : List A) (place : ℕ) (new : List A) →
    length (put_all (map f items) place (map g new)) ≡ length (put_all items place new)
put_all-length f g items place new =
    rw (
      length-append (take (place - 1) (map f items) ++ map g new) (drop place (map f items)),
      length-append (take (place - 1) (map f items)) (map g new),
      take-map f (place - 1) items,
      drop-map f place items,
      length-append (take (place - 1) items ++ new) (drop place items),
      length-append (take (place - 1) items) new,
      length-map (take (place - 1) items) f,
      length-map new g,
      length-map (drop place items) f,
    ) refl

-- a rule on a goal, over a store that has grown
module _ (old : List Tree) (rows : List Row) (fact goal : ℕ) (rule : Rule) (row : Row) (s : Sequent) (there : at rows fact ≡ Some row)
    (goal_there : at row.goals goal ≡ Some s)
    (limited : All IsLimited (provables_at old rows)) (new : List Tree) (ps : List Sequent) (real : IsProperRule rule)
    (premises : Premises rule (sequent_at old s) (map (sequent_at new) ps)) where
  abbrev q : Provable
  q = provable_at old row

  abbrev p : Provable
  p = applied q goal (map (sequent_at new) ps)

  given : Gives (provables_at old rows) (Apply fact goal rule) p
  given = apply fact goal rule q (sequent_at old s) (map (sequent_at new) ps) (At-map (provable_at old) rows fact row there)
      (At-map (sequent_at old) row.goals goal s goal_there) real premises

  fact_limited : IsLimited q
  fact_limited = At_All IsLimited (provables_at old rows) fact q limited (At-map (provable_at old) rows fact row there)

  pub apply_past : (fault : StepFault) → IsStepFault (IsPast (map (sequent_at new) ps)) fault →
      IsStepFault (Fault (provables_at old rows) (Apply fact goal rule)) fault
  apply_past fault past =
      fault_weaker (IsPast (map (sequent_at new) ps)) (Fault (provables_at old rows) (Apply fact goal rule))
      (past_fault (provables_at old rows) (Apply fact goal rule) p given (map (sequent_at new) ps)
      (apply_tells q fact_limited fact goal rule (map (sequent_at new) ps))) fault past

  module _ (within : AreWithin (map (sequent_at new) ps)) where
    pub apply_full : (goals : List Sequent) → goals ≡ put_all row.goals goal ps → most_goals < length goals →
        Fault (provables_at old rows) (Apply fact goal rule) GoalsFull
    apply_full goals is more =
        let full : most_goals < length p.goals = rw (put_all-length (sequent_at old) (sequent_at new) row.goals goal ps, ← is) more in
        goals_fault (provables_at old rows) (Apply fact goal rule) p given (map (sequent_at new) ps)
        (apply_tells q fact_limited fact goal rule (map (sequent_at new) ps)) within
        (goals_applied full)

    pub apply_within : (r : Row) → provable_at new r ≡ p → (goals : List Sequent) → goals ≡ put_all row.goals goal ps → length goals ≤ most_goals →
        IsWithin (Apply fact goal rule) (provable_at new r)
    apply_within r stands goals is few =
        rw stands (all_within (provables_at old rows) (Apply fact goal rule) p given (map (sequent_at new) ps)
        (apply_tells q fact_limited fact goal rule (map (sequent_at new) ps)) within
        (λ e. omega (
          arith,
          apply_goals fact goal rule p e,
          few,
          ap (λ (l : List Sequent). length l) is,
          put_all-length (sequent_at old) (sequent_at new) row.goals goal ps,
        ))
        (λ e. elim e [ ]))

-- a merge
module _ (trees : List Tree) (rows : List Row) (fact goal by : ℕ) (row proof : Row) (fact_there : at rows fact ≡ Some row) (by_there : at rows by ≡ Some proof)
    (s : Sequent) (goal_there : at row.goals goal ≡ Some s) (same : sequent_at trees s ≡ sequent_at trees proof.conclusion) (goals : List Sequent)
    (goals_are : goals ≡ put_all row.goals goal proof.goals) where
  merge_gives : (new : List TreeSequent) → AreNew (map (sequent_at trees) row.leaves) (map (sequent_at trees) proof.leaves) new →
      Gives (provables_at trees rows) (Merge fact goal by) (merged (provable_at trees row) goal (provable_at trees proof) new)
  merge_gives new are_new =
      merge fact goal by (provable_at trees row) (provable_at trees proof) new
      (At-map (provable_at trees) rows fact row fact_there) (At-map (provable_at trees) rows by proof by_there)
      (At-map (sequent_at trees) row.goals goal s goal_there ∙ ap Some same) are_new

  as_many : length (put_all (map (sequent_at trees) row.goals) goal (map (sequent_at trees) proof.goals)) ≡ length goals
  as_many = put_all-length (sequent_at trees) (sequent_at trees) row.goals goal proof.goals ∙ ap (λ (l : List Sequent). length l) (sym goals_are)

  pub merge_full : most_goals < length goals → Fault (provables_at trees rows) (Merge fact goal by) GoalsFull
  merge_full more =
      let new = some_new (map (sequent_at trees) row.leaves) (map (sequent_at trees) proof.leaves) in
      merge_goals_fault fact goal by (merged (provable_at trees row) goal (provable_at trees proof) new.0) (provables_at trees rows)
      (merge_gives new.0 new.1) (rw as_many more)

  module _ (few : length goals ≤ most_goals) (leaves : List Sequent) (new : List TreeSequent)
      (are_new : AreNew (map (sequent_at trees) row.leaves) (map (sequent_at trees) proof.leaves) new)
      (leaves_are : map (sequent_at trees) leaves ≡ map (sequent_at trees) row.leaves ++ new) where
    pub merge_leaves_full : most_leaves < length leaves → Fault (provables_at trees rows) (Merge fact goal by) LeavesFull
    merge_leaves_full more =
        merge_leaves_fault fact goal by (merged (provable_at trees row) goal (provable_at trees proof) new)
        (λ full. omega (arith, full, few, as_many)) (provables_at trees rows) (merge_gives new are_new)
        (omega (arith, more, length-map leaves (sequent_at trees), ap (λ (l : List TreeSequent). length l) leaves_are))

    pub merge_row_within : length leaves ≤ most_leaves → (made : Row) →
        made ≡ record { conclusion = row.conclusion; goals = goals; leaves = leaves } → IsWithin (Merge fact goal by) (provable_at trees made)
    merge_row_within small made is =
        rw is (merge_within fact goal by (provable_at trees (record { conclusion = row.conclusion; goals = goals; leaves = leaves }))
        (λ full. omega (arith, full, few, length-map goals (sequent_at trees))) (λ full. omega (arith, full, small, length-map leaves (sequent_at trees))))

-- a substitution, whose pairs stand for the same over the store that has grown
module _ (rows : List Provable) (fact : ℕ) (pairs now : List TreePair) (same : now ≡ pairs) (p : Provable) (given : Gives rows (Substitute fact pairs) p) where
  pub subst_big : is_substituted_within Nodes now p ≡ false → Fault rows (Substitute fact pairs) TooBig
  subst_big n = big_fault fact pairs p rows given (fails (is_substituted_within Nodes pairs p) (substituted_decides Nodes fact pairs p) (rw same at n))

  module _ (small : is_substituted_within Nodes now p ≡ true) where
    pub subst_deep : is_substituted_within Levels now p ≡ false → Fault rows (Substitute fact pairs) TooDeep
    subst_deep n =
        deep_fault fact pairs p ((substituted_decides Nodes fact pairs p).0 (rw same at small)) rows given
        (fails (is_substituted_within Levels pairs p) (substituted_decides Levels fact pairs p) (rw same at n))

    pub subst_within : is_substituted_within Levels now p ≡ true → IsWithin (Substitute fact pairs) p
    subst_within shallow =
        substitute_within fact pairs p ((substituted_decides Nodes fact pairs p).0 (rw same at small))
        ((substituted_decides Levels fact pairs p).0 (rw same at shallow))
