-- The limits of the steps that make sequents: the faults of what is past one, and what is within them all.
use Rattle.std.proofs.Common.{ℕ, ◌<◌, ◌-◌, List, [], ◌∷◌, ◌++◌, length, take, drop}
use Rattle.std.specs.List.{All}
use Rattle.std.proofs.lemmas.List.Elements.{All-head, All-nil, All-append, All-take, All-drop, All-weaker}
use Rattle.dlk_calculus.specs.declared.reason.Reason.{Reason}
use Rattle.dlk_calculus.specs.declared.reason.Reason.TheVariants.{TooBig, TooDeep, SideFull, GoalsFull, LeavesFull}
use Rattle.dlk_calculus.specs.Places.{put_all}
use Rattle.dlk_calculus.specs.Rules.{Rule}
use Rattle.dlk_calculus.specs.Sequents.{Sequent}
use Rattle.dlk_calculus.specs.Provables.{Provable, started, assumed, applied}
use Rattle.dlk_calculus.specs.Limits.{most_goals, most_leaves, IsSmall, IsShallow}
use Rattle.dlk_calculus.specs.Limited.{InSequent, HasFewFormulas, IsLimitedSequent, IsLimited}
use Rattle.dlk_calculus.specs.Pairs.{Pair}
use Rattle.dlk_calculus.specs.Steps.{Step, Start, UseAxiom, UseRule, Leaf, Apply, Merge, Substitute, Rename, Gives, EachNew, Exceeds, too_big, too_deep}
use Rattle.dlk_calculus.specs.Steps.{start_full, leaf_full, side_full, goals_merged, leaves_merged, IsWithin, Fault}
use Rattle.dlk_calculus.proofs.PlaceLaws.{All-front, All-behind}
use Rattle.dlk_calculus.proofs.LimitLaws.{is_big, is_deep, start_side, leaf_side, apply_side, merge_goals, merge_leaves, limit_cases, first_big, first_deep}
use Rattle.dlk_calculus.proofs.LimitLaws.{first_side, first_goals, first_leaves, one}
use Rattle.dlk_kernel.specs.declared.fault.StepFault.{StepFault}
use Rattle.dlk_kernel.specs.declared.fault.StepFault.TheVariants.{Refused, Memory}
use Rattle.dlk_kernel.specs.Faults.{IsStepFault}
use Rattle.dlk_kernel.specs.Limits.{AreWithin, IsPast}

-- a weaker condition on the reason of a fault
pub fault_weaker : (A B : Reason → Type 0) → ((why : Reason) → A why → B why) → (fault : StepFault) → IsStepFault A fault → IsStepFault B fault
fault_weaker A B weaken (Refused why) h = weaken why h
fault_weaker A B weaken Memory h = tt

-- that the sequents made by a step that gives p are within the limits tells it of the step
pub record Tells (step : Step) (p : Provable) (made : List Sequent) : Type 0 where
  pub small : All (InSequent IsSmall) made → EachNew IsSmall step p
  pub all_small : EachNew IsSmall step p → All (InSequent IsSmall) made
  pub shallow : All (InSequent IsShallow) made → EachNew IsShallow step p
  pub all_shallow : EachNew IsShallow step p → All (InSequent IsShallow) made
  pub few : All HasFewFormulas made → ¬ Exceeds SideFull step p
  pub full : ¬ All HasFewFormulas made → Exceeds SideFull step p

module _ (rows : List Provable) (step : Step) (p : Provable) (given : Gives rows step p) (made : List Sequent) (tells : Tells step p made) where
  not_big : All (InSequent IsSmall) made → ¬ Exceeds TooBig step p
  not_big small e = is_big step p e (tells.small small)

  not_deep : All (InSequent IsShallow) made → ¬ Exceeds TooDeep step p
  not_deep shallow e = is_deep step p e (tells.shallow shallow)

  pub past_fault : (why : Reason) → IsPast made why → Fault rows step why
  past_fault TooBig n = first_big rows step p given (too_big (λ e. n (tells.all_small e)))
  past_fault TooDeep h = first_deep rows step p given (not_big h.0) (too_deep (λ e. h.1 (tells.all_shallow e)))
  past_fault SideFull h = first_side rows step p given (not_big h.0) (not_deep h.1) (tells.full h.2)
  past_fault _ h = absurd h

  module _ (within : AreWithin made) where
    pub goals_fault : Exceeds GoalsFull step p → Fault rows step GoalsFull
    goals_fault t = first_goals rows step p given (not_big within.small) (not_deep within.shallow) (tells.few within.few) t

    pub all_within : ¬ Exceeds GoalsFull step p → ¬ Exceeds LeavesFull step p → IsWithin step p
    all_within goals leaves = limit_cases step p (λ w. ⊥) (not_big within.small) (not_deep within.shallow) (tells.few within.few) goals leaves

-- a start makes its sequent, and so does a leaf
pub start_tells : (s : Sequent) → Tells (Start s) (started s) (s ∷ [])
start_tells s = record {
  small = λ h. record { conclusion = All-head (InSequent IsSmall) s [] h; goals = h };
  all_small = λ e. e.goals;
  shallow = λ h. record { conclusion = All-head (InSequent IsShallow) s [] h; goals = h };
  all_shallow = λ e. e.goals;
  few = λ h e. start_side s (started s) e (All-head HasFewFormulas s [] h);
  full = λ n. start_full (λ h. n (one HasFewFormulas s h));
}

pub leaf_tells : (s : Sequent) → Tells (Leaf s) (assumed s) (s ∷ [])
leaf_tells s = record {
  small = λ h. record { conclusion = All-head (InSequent IsSmall) s [] h; goals = All-nil (InSequent IsSmall) };
  all_small = λ e. one (InSequent IsSmall) s e.conclusion;
  shallow = λ h. record { conclusion = All-head (InSequent IsShallow) s [] h; goals = All-nil (InSequent IsShallow) };
  all_shallow = λ e. one (InSequent IsShallow) s e.conclusion;
  few = λ h e. leaf_side s (assumed s) e (All-head HasFewFormulas s [] h);
  full = λ n. leaf_full (λ h. n (one HasFewFormulas s h));
}

-- an axiom, an axiomatic rule and a renaming are past no limit
pub axiom_within : (name : List ℕ) (p : Provable) → IsWithin (UseAxiom name) p
axiom_within name p =
    let step = UseAxiom name in
    limit_cases step p (λ w. ⊥) (λ e. is_big step p e tt) (λ e. is_deep step p e tt) (λ e. elim e [ ]) (λ e. elim e [ ]) (λ e. elim e [ ])

pub rule_within : (name : List ℕ) (p : Provable) → IsWithin (UseRule name) p
rule_within name p =
    let step = UseRule name in
    limit_cases step p (λ w. ⊥) (λ e. is_big step p e tt) (λ e. is_deep step p e tt) (λ e. elim e [ ]) (λ e. elim e [ ]) (λ e. elim e [ ])

pub rename_within : (fact : ℕ) (x y : List ℕ) (p : Provable) → IsWithin (Rename fact x y) p
rename_within fact x y p =
    let step = Rename fact x y in
    limit_cases step p (λ w. ⊥) (λ e. is_big step p e tt) (λ e. is_deep step p e tt) (λ e. elim e [ ]) (λ e. elim e [ ]) (λ e. elim e [ ])

-- premises in the place of a goal: what all other goals have, all goals have where the premises do, and back
module _ (goal : ℕ) (goals premises : List Sequent) (P : Sequent → Type 0) where
  placed : All P goals → All P premises → All P (put_all goals goal premises)
  placed h k = All-append P _ _ (All-append P _ _ (All-take P (goal - 1) goals h) k) (All-drop P goal goals h)

  taken : All P (put_all goals goal premises) → All P premises
  taken h = All-behind P (take (goal - 1) goals) premises (All-front P (take (goal - 1) goals ++ premises) (drop goal goals) h)

pub apply_tells : (q : Provable) → IsLimited q → (fact goal : ℕ) (rule : Rule) (premises : List Sequent) →
    Tells (Apply fact goal rule) (applied q goal premises) premises
apply_tells q limited fact goal rule premises = record {
  small =
      λ h. record {
        conclusion = limited.conclusion.small;
        goals = placed goal q.goals premises (InSequent IsSmall) (All-weaker IsLimitedSequent (InSequent IsSmall) (λ s l. l.small) q.goals limited.goals) h;
      };
  all_small = λ e. taken goal q.goals premises (InSequent IsSmall) e.goals;
  shallow =
      λ h. record {
        conclusion = limited.conclusion.shallow;
        goals =
            placed goal q.goals premises (InSequent IsShallow) (All-weaker IsLimitedSequent (InSequent IsShallow) (λ s l. l.shallow) q.goals limited.goals) h;
      };
  all_shallow = λ e. taken goal q.goals premises (InSequent IsShallow) e.goals;
  few =
      λ h e. apply_side fact goal rule (applied q goal premises) e
      (placed goal q.goals premises HasFewFormulas (All-weaker IsLimitedSequent HasFewFormulas (λ s l. l.few) q.goals limited.goals) h);
  full = λ n. side_full (λ h. n (taken goal q.goals premises HasFewFormulas h));
}

-- a merge makes no sequent
module _ (fact goal by : ℕ) (p : Provable) where
  abbrev merging : Step
  merging = Merge fact goal by

  none_big : ¬ Exceeds TooBig merging p
  none_big e = is_big merging p e tt

  none_deep : ¬ Exceeds TooDeep merging p
  none_deep e = is_deep merging p e tt

  no_side : ¬ Exceeds SideFull merging p
  no_side e = elim e [ ]

  pub merge_goals_fault : (rows : List Provable) → Gives rows merging p → most_goals < length p.goals → Fault rows merging GoalsFull
  merge_goals_fault rows given t = first_goals rows merging p given none_big none_deep no_side (goals_merged t)

  module _ (goals : ¬ (most_goals < length p.goals)) where
    pub merge_leaves_fault : (rows : List Provable) → Gives rows merging p → most_leaves < length p.leaves → Fault rows merging LeavesFull
    merge_leaves_fault rows given t = first_leaves rows merging p given none_big none_deep no_side (λ e. goals (merge_goals fact goal by p e)) (leaves_merged t)

    pub merge_within : ¬ (most_leaves < length p.leaves) → IsWithin merging p
    merge_within leaves =
        limit_cases merging p (λ w. ⊥) none_big none_deep no_side (λ e. goals (merge_goals fact goal by p e)) (λ e. leaves (merge_leaves fact goal by p e))

-- a substitution
module _ (fact : ℕ) (pairs : List Pair) (p : Provable) where
  abbrev substitution : Step
  substitution = Substitute fact pairs

  pub big_fault : (rows : List Provable) → Gives rows substitution p → ¬ EachNew IsSmall substitution p → Fault rows substitution TooBig
  big_fault rows given t = first_big rows substitution p given (too_big t)

  module _ (small : EachNew IsSmall substitution p) where
    pub deep_fault : (rows : List Provable) → Gives rows substitution p → ¬ EachNew IsShallow substitution p → Fault rows substitution TooDeep
    deep_fault rows given t = first_deep rows substitution p given (λ e. is_big substitution p e small) (too_deep t)

    pub substitute_within : EachNew IsShallow substitution p → IsWithin substitution p
    substitute_within shallow =
        limit_cases substitution p (λ w. ⊥) (λ e. is_big substitution p e small) (λ e. is_deep substitution p e shallow)
        (λ e. elim e [ ]) (λ e. elim e [ ]) (λ e. elim e [ ])
