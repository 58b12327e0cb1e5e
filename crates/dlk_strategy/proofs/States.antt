-- What runs make of kernels and of what they keep.
use Rattle.std.proofs.Common.{◌≡◌, ℕ, zero, suc, ◌+◌, ◌-◌, ◌≤◌, ◌<◌, List, [], ◌∷◌, ◌++◌, map, take, drop, length, get_or, refl, sym, ap, subst, ◌∙◌}
use Rattle.std.proofs.Common.{arith, length-append, length-take, length-drop}
use Rattle.std.specs.List.{All}
use Rattle.std.proofs.lemmas.List.{map-append, length-map, take_all}
use Rattle.std.proofs.lemmas.List.Elements.{All-head, All-tail, All-append, All-weaker}
use Rattle.std.proofs.Math.Seq.{take-length, drop-cons}
use Rattle.dlk_tree.specs.Trees.{Tree}
use Rattle.dlk_store.specs.Stores.{Keeps}
use Rattle.dlk_calculus.specs.Places.{At, put_all}
use Rattle.dlk_calculus.specs.Provables.{Provable}
use Rattle.dlk_calculus.specs.Steps.{Step as TreeStep}
use Rattle.dlk_calculus.proofs.PlaceLaws.{at_suc}
use Rattle.dlk_rules.specs.declared.step.Step.{Step}
use Rattle.dlk_rules.specs.Steps.{step_at, HasKnownIds}
use Rattle.dlk_rules.proofs.StepsKept.{step_known, step_same}
use Rattle.dlk_kernel.specs.Kernel.{State, facts, provable_at, ExtendsRows, SameRows}
use Rattle.dlk_tacsyn.specs.Tactics.{Atom}
use Rattle.dlk_elab.specs.declared.fault.FailWhy.{FailWhy}
use Rattle.dlk_elab.specs.Atoms.{AtomSteps, AtomFault, HasGoalAt}
use Rattle.dlk_elab.proofs.Replaced.{replaced}
use Rattle.dlk_elab.proofs.Decided.{item}
use Rattle.dlk_elab.proofs.MainGoals.{last_goals, some_last}
use Rattle.dlk_strategy.specs.Runs.{Progress, Done, Fails, Once, steps, fault, most_runs, main_goals}

module _ (old new : List Tree) (keeps : Keeps old new) where
  pub steps_same : (xs : List Step) → All (HasKnownIds old) xs → map (step_at new) xs ≡ map (step_at old) xs
  steps_same [] h = refl
  steps_same (x ∷ xs) h =
      let one : step_at new x ≡ step_at old x = step_same old new keeps x (All-head (HasKnownIds old) x xs h) in
      let others : map (step_at new) xs ≡ map (step_at old) xs = steps_same xs (All-tail (HasKnownIds old) x xs h) in
      λ i. one i ∷ others i

  pub steps_known : (xs : List Step) → All (HasKnownIds old) xs → All (HasKnownIds new) xs
  steps_known xs h = All-weaker (HasKnownIds old) (HasKnownIds new) (step_known old new keeps) xs h

  -- more steps behind those that were kept
  pub steps_more : (xs ys all : List Step) → All (HasKnownIds old) xs → all ≡ xs ++ ys → map (step_at new) all ≡ map (step_at old) xs ++ map (step_at new) ys
  steps_more xs ys all h e = ap (map (step_at new)) e ∙ map-append (step_at new) xs ys ∙ ap (λ zs. zs ++ map (step_at new) ys) (steps_same xs h)

  pub known_more : (xs ys all : List Step) → All (HasKnownIds old) xs → All (HasKnownIds new) ys → all ≡ xs ++ ys → All (HasKnownIds new) all
  known_more xs ys all h k e = rw e (All-append (HasKnownIds new) xs ys (steps_known xs h) k)

pub at_place : {A : Type 0} (items : List A) (place : ℕ) → 1 ≤ place → place ≤ length items → (x : A) × At items place x
at_place items zero h k = absurd (omega (arith, h))
at_place items (suc n) h k = let found = item items n (omega arith) in (found.0, at_suc items n ∙ found.1)

pub main_some : (rows : List Provable) → 1 ≤ length (main_goals rows) → 1 ≤ length rows
main_some [] h = absurd (omega (arith, h))
main_some (q ∷ rows) h = omega arith

-- a goal of the last row
pub goal_there : (rows : List Provable) (fact goal : ℕ) → fact ≡ length rows → 1 ≤ goal → goal + 1 ≤ length (main_goals rows) + 1 → HasGoalAt rows fact goal
goal_there rows fact goal is first room =
    let some : 1 ≤ length rows = main_some rows (omega (arith, first, room)) in
    let last = some_last rows some in
    let same : main_goals rows ≡ last.0.goals = last_goals rows last.0 last.1 in
    let few : goal ≤ length last.0.goals = omega (arith, room, ap length same) in
    let found = at_place last.0.goals goal first few in
    (found.0, (last.0, rw is last.1, found.1))

put_length : {A : Type 0} (items new : List A) (goal : ℕ) → 1 ≤ goal → goal ≤ length items → length (put_all items goal new) + 1 ≡ length items + length new
put_length items new goal h k =
    let front : length (take (goal - 1) items) ≡ goal - 1 = length-take (goal - 1) items ∙ omega (arith, h, k) in
    let all = length-append (take (goal - 1) items ++ new) (drop goal items) in
    let some = length-append (take (goal - 1) items) new in
    let behind = length-drop goal items in
    omega (arith, front, all, some, behind, h, k)

-- an atom leaves some goals in its goal's place
pub counted : (rows after : List Provable) (goal : ℕ) (atom : Atom) (made : List TreeStep) → 1 ≤ goal → goal + 1 ≤ length (main_goals rows) + 1 →
    AtomSteps rows (length rows) goal atom made after → (left : ℕ) × (length (main_goals after) + 1 ≡ length (main_goals rows) + left)
counted rows after goal atom made first room is =
    let r = replaced rows after goal atom made is in
    let before : main_goals rows ≡ r.1.old_last.goals = last_goals rows r.1.old_last r.1.old_is in
    let behind : main_goals after ≡ r.1.new_last.goals = last_goals after r.1.new_last r.1.new_is in
    let few : goal ≤ length r.1.old_last.goals = omega (arith, room, ap length before) in
    let n = put_length r.1.old_last.goals r.0 goal first few in
    (length r.0, omega (arith, n, ap length before, ap length (behind ∙ r.1.goals)))

pub counted_as : (rows after : List Provable) (goal : ℕ) (atom : Atom) (made : List TreeStep) (b a : ℕ) → 1 ≤ goal → goal + 1 ≤ length (main_goals rows) + 1 →
    AtomSteps rows (length rows) goal atom made after → b ≡ length (main_goals rows) → a ≡ length (main_goals after) →
    (b ≤ a + 1) × (length (main_goals after) + 1 ≡ length (main_goals rows) + (a + 1 - b))
counted_as rows after goal atom made b a first room is eb ea =
    let n = counted rows after goal atom made first room is in
    (omega (arith, n.1, eb, ea), omega (arith, n.1, eb, ea))

-- the fact is the last row
pub of_last : (rows after : List Provable) (fact goal : ℕ) (atom : Atom) (made : List TreeStep) → fact ≡ length rows →
    AtomSteps rows fact goal atom made after →
    AtomSteps rows (length rows) goal atom made after
of_last rows after fact goal atom made is h = subst (λ n. AtomSteps rows n goal atom made after) is h

pub once_done : (atom : Atom) (goal used left : ℕ) (rows after : List Provable) (before made all : List TreeStep) → used < most_runs →
    AtomSteps rows (length rows) goal atom made after → length (main_goals after) + 1 ≡ length (main_goals rows) + left → all ≡ before ++ made →
    Once atom goal (record { steps = before; rows = rows; used = used }) (Done (record { steps = all; rows = after; used = used + 1 }) left)
once_done atom goal used left rows after before made all room is n e =
    let P : List TreeStep → Type 0 = λ xs. Once atom goal (record { steps = before; rows = rows; used = used })
    (Done (record { steps = xs; rows = after; used = used + 1 }) left) in
    subst P (sym e) (steps room is n)

pub once_fails : (atom : Atom) (goal fact : ℕ) (now : Progress) (why : FailWhy) → now.used < most_runs → fact ≡ length now.rows →
    AtomFault now.rows fact goal atom why →
    Once atom goal now (Fails atom.at why (now.used + 1))
once_fails atom goal fact now why room is h = fault room (subst (λ n. AtomFault now.rows n goal atom why) is h)

-- rows that stay are those of before with none behind them
pub same_extends : {S : Type 0} (trees : S → List Tree) (old new : State S) → SameRows trees old new → ExtendsRows trees old new
same_extends trees old new same = record {
  ids = ap (take (length old.rows)) same.ids ∙ take-length old.rows;
  provables = take_all (length old.rows) (facts trees new) (omega (arith, ap length same.ids, length-map new.rows (provable_at (trees new.store))))
      ∙ same.provables;
}

pub item_here : {A : Type 0} (items : List A) (i : ℕ) (a : A) → i < length items → a ≡ get_or items i a → drop i items ≡ a ∷ drop (i + 1) items
item_here items i a lt is =
    let n : i + 1 ≡ suc i = omega arith in
    rw n (drop-cons items i a lt ∙ ap (λ x. x ∷ drop (suc i) items) (sym is))
