-- The limits: what exceeds one is refused for it, and what none refuses is within them.
use Rattle.std.proofs.Common.{◌≡◌, ◌↔◌, ℕ, suc, ◌<◌, ◌≤◌, ◌-◌, List, [], ◌∷◌, length, map, refl, ap, subst, arith, ◌⊎◌, inl, inr}
use Rattle.std.specs.List.{All}
use Rattle.std.proofs.lemmas.Bool.{cases_lt}
use Rattle.std.proofs.lemmas.List.{length-map}
use Rattle.std.proofs.lemmas.List.Elements.{All-head, All-tail, All-cons, All-nil, All-append, All-take, All-drop}
use Rattle.dlk_calculus.specs.declared.reason.Reason.{Reason}
use Rattle.dlk_calculus.specs.declared.reason.Reason.TheVariants.{NotAdmissible, TooBig, TooDeep, SideFull, GoalsFull, LeavesFull, LinesFull}
use Rattle.dlk_calculus.specs.Reasons.{rank, IsOfCalculus}
use Rattle.dlk_tree.specs.Trees.{Tree, size, depth}
use Rattle.dlk_calculus.specs.Rename.{swap}
use Rattle.dlk_calculus.specs.Pairs.{Pair}
use Rattle.dlk_calculus.specs.Places.{put_all}
use Rattle.dlk_calculus.specs.Sequents.{Sequent, alone_right}
use Rattle.dlk_calculus.specs.Rules.{Rule}
use Rattle.dlk_calculus.specs.Provables.{Provable, SubstEach, SubstSequent, SubstSequents, swap_sequent}
use Rattle.dlk_calculus.specs.Limits.{most_nodes, greatest_depth, most_formulas, most_goals, most_leaves, most_rows, IsSmall, IsShallow}
use Rattle.dlk_calculus.specs.Limited.{InSequent, InProvable, HasFewFormulas, IsLimitedSequent, IsLimited}
use Rattle.dlk_calculus.specs.Steps.{Step, Start, UseAxiom, UseRule, Leaf, Apply, Merge, Substitute, Rename, IsProper, Gives, EachNew, Exceeds, too_big}
use Rattle.dlk_calculus.specs.Steps.{too_deep, start_full, leaf_full, side_full, goals_applied, goals_merged, leaves_merged, IsWithin, Against, against_rule}
use Rattle.dlk_calculus.specs.Steps.{past_limit, rows_full, Fault, StepOf}
use Rattle.dlk_calculus.proofs.PlaceLaws.{At_All}
use Rattle.dlk_calculus.proofs.Decide.{both}
use Rattle.dlk_calculus.proofs.AxiomLaws.{axiom_sized, rule_sized}
use Rattle.dlk_calculus.proofs.Swapped.{swap_size, swap_depth}
use Rattle.dlk_calculus.proofs.Formulas.{all_joined}
use Rattle.dlk_calculus.proofs.StepLaws.{given_by, given_unless, rule_of_calculus, one_given, step_cases}
use Rattle.dlk_calculus.proofs.Decided.{all_decided}

-- ---- what exceeds a limit is decided

at_most : (m n : ℕ) → Dec (m ≤ n)
at_most m n = elim (cases_lt n m) [ inl lt ↦ no (λ le. absurd (omega (arith, lt, le))) | inr le ↦ yes le ]

beyond : (m n : ℕ) → Dec (m < n)
beyond m n = elim (cases_lt m n) [ inl lt ↦ yes lt | inr le ↦ no (λ lt. absurd (omega (arith, lt, le))) ]

surely : {A : Type 0} → Dec A → ¬ ¬ A → A
surely (yes a) n = a
surely (no m) n = absurd (n m)

few : (s : Sequent) → Dec (HasFewFormulas s)
few s = both (λ a b. record { ante = a; succ = b }) (λ h. h.ante) (λ h. h.succ) (at_most (length s.ante) most_formulas) (at_most (length s.succ) most_formulas)

module _ (P : Tree → Type 0) (decide : (t : Tree) → Dec (P t)) where
  in_sequent : (s : Sequent) → Dec (InSequent P s)
  in_sequent s = both (λ a b. record { ante = a; succ = b }) (λ h. h.ante) (λ h. h.succ) (all_decided P decide s.ante) (all_decided P decide s.succ)

  in_provable : (p : Provable) → Dec (InProvable P p)
  in_provable p =
      both (λ a b. record { conclusion = a; goals = b }) (λ h. h.conclusion) (λ h. h.goals) (in_sequent p.conclusion)
      (all_decided (InSequent P) in_sequent p.goals)

  each_new : (step : Step) (p : Provable) → Dec (EachNew P step p)
  each_new (Start s) p = in_provable p
  each_new (UseAxiom name) p = yes tt
  each_new (UseRule name) p = yes tt
  each_new (Leaf s) p = in_provable p
  each_new (Apply fact goal rule) p = in_provable p
  each_new (Merge fact goal by) p = yes tt
  each_new (Substitute fact pairs) p =
      both (λ a b. (a, b)) (λ h. h.0) (λ h. h.1) (all_decided (λ (pair : Pair). P pair.by) (λ (pair : Pair). decide pair.by) pairs) (in_provable p)
  each_new (Rename fact x y) p = yes tt

small : (t : Tree) → Dec (IsSmall t)
small t = at_most (size t) most_nodes

shallow : (t : Tree) → Dec (IsShallow t)
shallow t = at_most (depth t) greatest_depth

-- what a limit that is exceeded says
pub is_big : (step : Step) (p : Provable) → Exceeds TooBig step p → ¬ EachNew IsSmall step p
is_big step p (too_big n) = n

pub is_deep : (step : Step) (p : Provable) → Exceeds TooDeep step p → ¬ EachNew IsShallow step p
is_deep step p (too_deep n) = n

pub start_side : (s : Sequent) (p : Provable) → Exceeds SideFull (Start s) p → ¬ HasFewFormulas p.conclusion
start_side s p (start_full n) = n

pub leaf_side : (s : Sequent) (p : Provable) → Exceeds SideFull (Leaf s) p → ¬ HasFewFormulas p.conclusion
leaf_side s p (leaf_full n) = n

pub apply_side : (fact goal : ℕ) (rule : Rule) (p : Provable) → Exceeds SideFull (Apply fact goal rule) p → ¬ All HasFewFormulas p.goals
apply_side fact goal rule p (side_full n) = n

pub apply_goals : (fact goal : ℕ) (rule : Rule) (p : Provable) → Exceeds GoalsFull (Apply fact goal rule) p → most_goals < length p.goals
apply_goals fact goal rule p (goals_applied more) = more

pub merge_goals : (fact goal by : ℕ) (p : Provable) → Exceeds GoalsFull (Merge fact goal by) p → most_goals < length p.goals
merge_goals fact goal by p (goals_merged more) = more

pub merge_leaves : (fact goal by : ℕ) (p : Provable) → Exceeds LeavesFull (Merge fact goal by) p → most_leaves < length p.leaves
merge_leaves fact goal by p (leaves_merged more) = more

-- by the limit that is exceeded
pub limit_cases : (step : Step) (p : Provable) (P : Reason → Type 0) → (Exceeds TooBig step p → P TooBig) → (Exceeds TooDeep step p → P TooDeep) →
    (Exceeds SideFull step p → P SideFull) → (Exceeds GoalsFull step p → P GoalsFull) → (Exceeds LeavesFull step p → P LeavesFull) →
    (why : Reason) → Exceeds why step p → P why
limit_cases step p P big deep side goals leaves _ (too_big n) = big (too_big n)
limit_cases step p P big deep side goals leaves _ (too_deep n) = deep (too_deep n)
limit_cases _ p P big deep side goals leaves _ (start_full n) = side (start_full n)
limit_cases _ p P big deep side goals leaves _ (leaf_full n) = side (leaf_full n)
limit_cases _ p P big deep side goals leaves _ (side_full n) = side (side_full n)
limit_cases _ p P big deep side goals leaves _ (goals_applied n) = goals (goals_applied n)
limit_cases _ p P big deep side goals leaves _ (goals_merged n) = goals (goals_merged n)
limit_cases _ p P big deep side goals leaves _ (leaves_merged n) = leaves (leaves_merged n)

big_decided : (step : Step) (p : Provable) → Dec (Exceeds TooBig step p)
big_decided step p = elim (each_new IsSmall small step p) [ yes h ↦ no (λ e. is_big step p e h) | no n ↦ yes (too_big n) ]

deep_decided : (step : Step) (p : Provable) → Dec (Exceeds TooDeep step p)
deep_decided step p = elim (each_new IsShallow shallow step p) [ yes h ↦ no (λ e. is_deep step p e h) | no n ↦ yes (too_deep n) ]

side_decided : (step : Step) (p : Provable) → Dec (Exceeds SideFull step p)
side_decided (Start s) p = elim (few p.conclusion) [ yes h ↦ no (λ e. start_side s p e h) | no n ↦ yes (start_full n) ]
side_decided (Leaf s) p = elim (few p.conclusion) [ yes h ↦ no (λ e. leaf_side s p e h) | no n ↦ yes (leaf_full n) ]
side_decided (Apply fact goal rule) p =
    elim (all_decided HasFewFormulas few p.goals) [ yes h ↦ no (λ e. apply_side fact goal rule p e h) | no n ↦ yes (side_full n) ]
side_decided (UseAxiom name) p = no (λ e. elim e [ ])
side_decided (UseRule name) p = no (λ e. elim e [ ])
side_decided (Merge fact goal by) p = no (λ e. elim e [ ])
side_decided (Substitute fact pairs) p = no (λ e. elim e [ ])
side_decided (Rename fact x y) p = no (λ e. elim e [ ])

goals_decided : (step : Step) (p : Provable) → Dec (Exceeds GoalsFull step p)
goals_decided (Apply fact goal rule) p =
    elim (beyond most_goals (length p.goals)) [ yes more ↦ yes (goals_applied more) | no n ↦ no (λ e. n (apply_goals fact goal rule p e)) ]
goals_decided (Merge fact goal by) p =
    elim (beyond most_goals (length p.goals)) [ yes more ↦ yes (goals_merged more) | no n ↦ no (λ e. n (merge_goals fact goal by p e)) ]
goals_decided (Start s) p = no (λ e. elim e [ ])
goals_decided (Leaf s) p = no (λ e. elim e [ ])
goals_decided (UseAxiom name) p = no (λ e. elim e [ ])
goals_decided (UseRule name) p = no (λ e. elim e [ ])
goals_decided (Substitute fact pairs) p = no (λ e. elim e [ ])
goals_decided (Rename fact x y) p = no (λ e. elim e [ ])

leaves_decided : (step : Step) (p : Provable) → Dec (Exceeds LeavesFull step p)
leaves_decided (Merge fact goal by) p =
    elim (beyond most_leaves (length p.leaves)) [ yes more ↦ yes (leaves_merged more) | no n ↦ no (λ e. n (merge_leaves fact goal by p e)) ]
leaves_decided (Apply fact goal rule) p = no (λ e. elim e [ ])
leaves_decided (Start s) p = no (λ e. elim e [ ])
leaves_decided (Leaf s) p = no (λ e. elim e [ ])
leaves_decided (UseAxiom name) p = no (λ e. elim e [ ])
leaves_decided (UseRule name) p = no (λ e. elim e [ ])
leaves_decided (Substitute fact pairs) p = no (λ e. elim e [ ])
leaves_decided (Rename fact x y) p = no (λ e. elim e [ ])

-- ---- the faults of a step that gives something

-- only a limit speaks against it
against_cases : (rows : List Provable) (step : Step) (p : Provable) → Gives rows step p → (why : Reason) → Against rows step why →
    Exceeds why step p ⊎ ((why ≡ LinesFull) × (most_rows ≤ length rows))
against_cases rows step p g why (past_limit q h e) = inl (subst (λ (x : Provable). Exceeds why step x) (one_given rows step q p h g) e)
against_cases rows step p g _ (rows_full full) = inr (refl, full)
against_cases rows _ p g why (against_rule s h a) = absurd (given_unless rows _ p why (rule_of_calculus why _ s a) g (against_rule s h a))
against_cases rows _ p g _ a = absurd (given_unless rows _ p _ (omega arith) g a)

module _ (rows : List Provable) (step : Step) (p : Provable) (g : Gives rows step p) where
  against_exceeds : (why : Reason) → rank why < rank LinesFull → Against rows step why → Exceeds why step p
  against_exceeds why lt a = elim (against_cases rows step p g why a) [ inl e ↦ e | inr f ↦ absurd (omega (arith, lt, ap rank f.0)) ]

  -- the first limit that is exceeded
  pub limit_fault : (why : Reason) → rank why < rank LinesFull → Exceeds why step p →
      ((earlier : Reason) → Exceeds earlier step p → rank earlier < rank why → ⊥) → Fault rows step why
  limit_fault why is t first = record {
    against = past_limit p g t;
    first = λ earlier lt a. first earlier (against_exceeds earlier (omega (arith, lt, is)) a) lt;
  }

  -- by those before it
  pub first_big : Exceeds TooBig step p → Fault rows step TooBig
  first_big t = limit_fault TooBig (omega arith) t (limit_cases step p (λ w. rank w < rank TooBig → ⊥)
      (λ e lt. absurd (omega (arith, lt))) (λ e lt. absurd (omega (arith, lt))) (λ e lt. absurd (omega (arith, lt)))
      (λ e lt. absurd (omega (arith, lt))) (λ e lt. absurd (omega (arith, lt))))

  module _ (big : ¬ Exceeds TooBig step p) where
    pub first_deep : Exceeds TooDeep step p → Fault rows step TooDeep
    first_deep t = limit_fault TooDeep (omega arith) t (limit_cases step p (λ w. rank w < rank TooDeep → ⊥)
        (λ e lt. big e) (λ e lt. absurd (omega (arith, lt))) (λ e lt. absurd (omega (arith, lt)))
        (λ e lt. absurd (omega (arith, lt))) (λ e lt. absurd (omega (arith, lt))))

    module _ (deep : ¬ Exceeds TooDeep step p) where
      pub first_side : Exceeds SideFull step p → Fault rows step SideFull
      first_side t = limit_fault SideFull (omega arith) t (limit_cases step p (λ w. rank w < rank SideFull → ⊥)
          (λ e lt. big e) (λ e lt. deep e) (λ e lt. absurd (omega (arith, lt))) (λ e lt. absurd (omega (arith, lt))) (λ e lt. absurd (omega (arith, lt))))

      module _ (side : ¬ Exceeds SideFull step p) where
        pub first_goals : Exceeds GoalsFull step p → Fault rows step GoalsFull
        first_goals t = limit_fault GoalsFull (omega arith) t (limit_cases step p (λ w. rank w < rank GoalsFull → ⊥)
            (λ e lt. big e) (λ e lt. deep e) (λ e lt. side e) (λ e lt. absurd (omega (arith, lt))) (λ e lt. absurd (omega (arith, lt))))

        pub first_leaves : ¬ Exceeds GoalsFull step p → Exceeds LeavesFull step p → Fault rows step LeavesFull
        first_leaves goals t = limit_fault LeavesFull (omega arith) t (limit_cases step p (λ w. rank w < rank LeavesFull → ⊥)
            (λ e lt. big e) (λ e lt. deep e) (λ e lt. side e) (λ e lt. goals e) (λ e lt. absurd (omega (arith, lt))))

  -- there are too many rows
  pub rows_fault : IsWithin step p → most_rows ≤ length rows → Fault rows step LinesFull
  rows_fault w full = record { against = rows_full full; first = λ earlier lt a. w earlier (against_exceeds earlier lt a) }

  allowed : IsWithin step p → length rows < most_rows → (why : Reason) → ¬ Against rows step why
  allowed w room why a = elim (against_cases rows step p g why a) [ inl e ↦ w why e | inr f ↦ omega (arith, room, f.1) ]

  pub StepOf-within : IsWithin step p → length rows < most_rows → StepOf rows step p
  StepOf-within w room = record { given = g; allowed = allowed w room }

  pub StepOf-taken : StepOf rows step p → Gives rows step p × IsWithin step p × (length rows < most_rows)
  StepOf-taken s = (
    g,
    λ why t. s.allowed why (past_limit p g t),
    elim (cases_lt (length rows) most_rows) [ inl room ↦ room | inr full ↦ absurd (s.allowed LinesFull (rows_full full)) ],
  )

  within_cases : ((why : Reason) × Fault rows step why) ⊎ IsWithin step p
  within_cases = elim (big_decided step p) [
    | yes t ↦ inl (TooBig, first_big t)
    | no big ↦ elim (deep_decided step p) [
      | yes t ↦ inl (TooDeep, first_deep big t)
      | no deep ↦ elim (side_decided step p) [
        | yes t ↦ inl (SideFull, first_side big deep t)
        | no side ↦ elim (goals_decided step p) [
          | yes t ↦ inl (GoalsFull, first_goals big deep side t)
          | no goals ↦ elim (leaves_decided step p) [
            | yes t ↦ inl (LeavesFull, first_leaves big deep side goals t)
            | no leaves ↦ inr (limit_cases step p (λ w. ⊥) big deep side goals leaves)
          ]
        ]
      ]
    ]
  ]

  given_cases : StepOf rows step p ⊎ ((why : Reason) × Fault rows step why)
  given_cases = elim within_cases [
    | inl f ↦ inr f
    | inr w ↦ elim (cases_lt (length rows) most_rows) [ inl room ↦ inl (StepOf-within w room) | inr full ↦ inr (LinesFull, rows_fault w full) ]
  ]

-- a proper step gives something within the limits, or there is a first reason against it
pub verdict_cases : (rows : List Provable) (step : Step) → IsProper step → ((p : Provable) × StepOf rows step p) ⊎ ((why : Reason) × Fault rows step why)
verdict_cases rows step proper = elim (step_cases rows step proper) [
  | inr f ↦ inr (f.0, f.2)
  | inl g ↦ elim (given_cases rows step g.0 g.1) [ inl s ↦ inl (g.0, s) | inr f ↦ inr f ]
]

-- a rule of the calculus gives what a limit refuses
pub limit_gives : (rows : List Provable) (step : Step) (why : Reason) → IsProper step → rank NotAdmissible < rank why → Fault rows step why →
    (p : Provable) × Gives rows step p
limit_gives rows step why proper limit f =
    elim (step_cases rows step proper) [ inl g ↦ g | inr e ↦ absurd (f.first e.0 (omega (arith, limit, e.1)) e.2.against) ]

-- where no reason of the calculus speaks against a proper step, a rule gives something
pub given_without_reason : (rows : List Provable) (step : Step) → IsProper step → ((why : Reason) → IsOfCalculus why → Against rows step why → ⊥) →
    (p : Provable) × Gives rows step p
given_without_reason rows step proper none = elim (step_cases rows step proper) [ inl g ↦ g | inr f ↦ absurd (none f.0 f.1 f.2.against) ]

-- a step is taken exactly where a rule gives something within the limits, and there is room for a row
pub taken_as_given : (rows : List Provable) (step : Step) (p : Provable) →
    StepOf rows step p ↔ (Gives rows step p × IsWithin step p × (length rows < most_rows))
taken_as_given rows step p = (λ s. StepOf-taken rows step p s.given s, λ t. StepOf-within rows step p t.0 t.1 t.2)

-- ---- what stays within the limits

module _ {A : Type 0} (P Q R T : A → Type 0) (all : (x : A) → P x → Q x → R x → T x) where
  all_three : (xs : List A) → All P xs → All Q xs → All R xs → All T xs
  all_three [] p q r = All-nil T
  all_three (x ∷ xs) p q r =
      All-cons T x xs (all x (All-head P x xs p) (All-head Q x xs q) (All-head R x xs r))
      (all_three xs (All-tail P x xs p) (All-tail Q x xs q) (All-tail R x xs r))

limited_sequent : (s : Sequent) → InSequent IsSmall s → InSequent IsShallow s → HasFewFormulas s → IsLimitedSequent s
limited_sequent s small shallow few = record { small = small; shallow = shallow; few = few }

limited_sequents : (all : List Sequent) → All (InSequent IsSmall) all → All (InSequent IsShallow) all → All HasFewFormulas all → All IsLimitedSequent all
limited_sequents = all_three (InSequent IsSmall) (InSequent IsShallow) HasFewFormulas IsLimitedSequent limited_sequent

room : (all : List Sequent) → All IsLimitedSequent all → All HasFewFormulas all
room [] h = All-nil HasFewFormulas
room (s ∷ all) h = All-cons HasFewFormulas s all (All-head IsLimitedSequent s all h).few (room all (All-tail IsLimitedSequent s all h))

pub one : {A : Type 0} (P : A → Type 0) (x : A) → P x → All P (x ∷ [])
one P x h = All-cons P x [] h (All-nil P)

none : {A : Type 0} (P : A → Type 0) → All P []
none P = All-nil P

alone : (f : Tree) → IsSmall f × IsShallow f → IsLimitedSequent (alone_right f)
alone f h = record {
  small = record { ante = none IsSmall; succ = one IsSmall f h.0 };
  shallow = record { ante = none IsShallow; succ = one IsShallow f h.1 };
  few = record { ante = omega arith; succ = omega arith };
}

at_the_most : (m n : ℕ) → ¬ (m < n) → n ≤ m
at_the_most m n no_more = elim (cases_lt m n) [ inl lt ↦ absurd (no_more lt) | inr le ↦ le ]

-- a substitution makes as many formulas as there were, and as many sequents
each_length : (pairs : List Pair) (fs gs : List Tree) → SubstEach pairs fs gs → length gs ≡ length fs
each_length pairs [] [] h = refl
each_length pairs [] (g ∷ gs) h = absurd h
each_length pairs (f ∷ fs) [] h = absurd h
each_length pairs (f ∷ fs) (g ∷ gs) h = ap suc (each_length pairs fs gs h.1)

sequents_length : (pairs : List Pair) (ss ts : List Sequent) → SubstSequents pairs ss ts → length ts ≡ length ss
sequents_length pairs [] [] h = refl
sequents_length pairs [] (t ∷ ts) h = absurd h
sequents_length pairs (s ∷ ss) [] h = absurd h
sequents_length pairs (s ∷ ss) (t ∷ ts) h = ap suc (sequents_length pairs ss ts h.1)

subst_few : (pairs : List Pair) (s t : Sequent) → SubstSequent pairs s t → HasFewFormulas s → HasFewFormulas t
subst_few pairs s t h f = record { ante = rw (each_length pairs s.ante t.ante h.0) f.ante; succ = rw (each_length pairs s.succ t.succ h.1) f.succ }

subst_all_few : (pairs : List Pair) (ss ts : List Sequent) → SubstSequents pairs ss ts → All HasFewFormulas ss → All HasFewFormulas ts
subst_all_few pairs [] [] h f = none HasFewFormulas
subst_all_few pairs [] (t ∷ ts) h f = absurd h
subst_all_few pairs (s ∷ ss) [] h f = absurd h
subst_all_few pairs (s ∷ ss) (t ∷ ts) h f =
    All-cons HasFewFormulas t ts (subst_few pairs s t h.0 (All-head HasFewFormulas s ss f)) (subst_all_few pairs ss ts h.1 (All-tail HasFewFormulas s ss f))

-- two names that are exchanged leave all sizes
module _ (x y : List ℕ) where
  swap_trees : (P : Tree → Type 0) → ((t : Tree) → P t → P (swap x y t)) → (ts : List Tree) → All P ts → All P (map (swap x y) ts)
  swap_trees P keep [] h = none P
  swap_trees P keep (t ∷ ts) h = All-cons P (swap x y t) (map (swap x y) ts) (keep t (All-head P t ts h)) (swap_trees P keep ts (All-tail P t ts h))

  swap_in : (P : Tree → Type 0) → ((t : Tree) → P t → P (swap x y t)) → (s : Sequent) → InSequent P s → InSequent P (swap_sequent x y s)
  swap_in P keep s h = record { ante = swap_trees P keep s.ante h.ante; succ = swap_trees P keep s.succ h.succ }

  swap_limited : (s : Sequent) → IsLimitedSequent s → IsLimitedSequent (swap_sequent x y s)
  swap_limited s h = record {
    small = swap_in IsSmall (λ t k. rw (swap_size x y t) k) s h.small;
    shallow = swap_in IsShallow (λ t k. rw (swap_depth x y t) k) s h.shallow;
    few = record { ante = rw (length-map s.ante (swap x y)) h.few.ante; succ = rw (length-map s.succ (swap x y)) h.few.succ };
  }

  swap_all_limited : (all : List Sequent) → All IsLimitedSequent all → All IsLimitedSequent (map (swap_sequent x y) all)
  swap_all_limited [] h = none IsLimitedSequent
  swap_all_limited (s ∷ all) h =
      All-cons IsLimitedSequent (swap_sequent x y s) (map (swap_sequent x y) all) (swap_limited s (All-head IsLimitedSequent s all h))
      (swap_all_limited all (All-tail IsLimitedSequent s all h))

all_small : (step : Step) (p : Provable) → IsWithin step p → EachNew IsSmall step p
all_small step p w = surely (each_new IsSmall small step p) (λ n. w TooBig (too_big n))

all_shallow : (step : Step) (p : Provable) → IsWithin step p → EachNew IsShallow step p
all_shallow step p w = surely (each_new IsShallow shallow step p) (λ n. w TooDeep (too_deep n))

-- premises in the place of a goal
replaced : (goals : List Sequent) (goal : ℕ) (new : List Sequent) → All IsLimitedSequent goals → All IsLimitedSequent new →
    All IsLimitedSequent (put_all goals goal new)
replaced goals goal new h k =
    All-append IsLimitedSequent _ _ (All-append IsLimitedSequent _ _ (All-take IsLimitedSequent (goal - 1) goals h) k) (All-drop IsLimitedSequent goal goals h)

-- a step from rows within the limits gives a row within them, where none is exceeded
pub given_limited : (rows : List Provable) (step : Step) (p : Provable) → All IsLimited rows → Gives rows step p → IsWithin step p → IsLimited p
given_limited rows (Start s) p h g w =
    let m = given_by rows (Start s) p g in
    let big = (rw m.1 at (all_small (Start s) p w)).conclusion in
    let deep = (rw m.1 at (all_shallow (Start s) p w)).conclusion in
    let side : HasFewFormulas s = rw m.1 at (surely (few p.conclusion) (λ n. w SideFull (start_full n))) in
    let all = limited_sequent s big deep side in
    rw m.1 (record { conclusion = all; goals = one IsLimitedSequent s all; leaves = none IsLimitedSequent; few_goals = omega arith; few_leaves = omega arith })
given_limited rows (UseAxiom name) p h g w =
    let m = given_by rows (UseAxiom name) p g in
    rw m.2 (record {
      conclusion = alone m.0.formula (axiom_sized name m.0 m.1);
      goals = none IsLimitedSequent;
      leaves = none IsLimitedSequent;
      few_goals = omega arith;
      few_leaves = omega arith;
    })
given_limited rows (UseRule name) p h g w =
    let m = given_by rows (UseRule name) p g in
    let sized = rule_sized name m.0 m.1 in
    rw m.2 (record {
      conclusion = alone m.0.conclusion sized.1;
      goals = one IsLimitedSequent (alone_right m.0.premise) (alone m.0.premise sized.0);
      leaves = none IsLimitedSequent;
      few_goals = omega arith;
      few_leaves = omega arith;
    })
given_limited rows (Leaf s) p h g w =
    let m = given_by rows (Leaf s) p g in
    let big = (rw m.2 at (all_small (Leaf s) p w)).conclusion in
    let deep = (rw m.2 at (all_shallow (Leaf s) p w)).conclusion in
    let side : HasFewFormulas s = rw m.2 at (surely (few p.conclusion) (λ n. w SideFull (leaf_full n))) in
    let all = limited_sequent s big deep side in
    rw m.2 (record { conclusion = all; goals = none IsLimitedSequent; leaves = one IsLimitedSequent s all; few_goals = omega arith; few_leaves = omega arith })
given_limited rows (Apply fact goal rule) p h g w =
    let m = given_by rows (Apply fact goal rule) p g in
    let q = At_All IsLimited rows fact m.0 h m.3 in
    record {
      conclusion = rw m.7 q.conclusion;
      goals = limited_sequents p.goals (all_small (Apply fact goal rule) p w).goals (all_shallow (Apply fact goal rule) p w).goals
          (surely (all_decided HasFewFormulas few p.goals) (λ n. w SideFull (side_full n)));
      leaves = rw m.7 q.leaves;
      few_goals = at_the_most most_goals (length p.goals) (λ more. w GoalsFull (goals_applied more));
      few_leaves = rw m.7 q.few_leaves;
    }
given_limited rows (Merge fact goal by) p h g w =
    let m = given_by rows (Merge fact goal by) p g in
    let q = At_All IsLimited rows fact m.0 h m.3 in
    let r = At_All IsLimited rows by m.1 h m.4 in
    record {
      conclusion = rw m.7 q.conclusion;
      goals = rw m.7 (replaced m.0.goals goal m.1.goals q.goals r.goals);
      leaves = rw m.7 (all_joined IsLimitedSequent m.0.leaves m.1.leaves m.2 q.leaves r.leaves m.6);
      few_goals = at_the_most most_goals (length p.goals) (λ more. w GoalsFull (goals_merged more));
      few_leaves = at_the_most most_leaves (length p.leaves) (λ more. w LeavesFull (leaves_merged more));
    }
given_limited rows (Substitute fact pairs) p h g w =
    let m = given_by rows (Substitute fact pairs) p g in
    let q = At_All IsLimited rows fact m.0 h m.1 in
    let big = (all_small (Substitute fact pairs) p w).1 in
    let deep = (all_shallow (Substitute fact pairs) p w).1 in
    record {
      conclusion = limited_sequent p.conclusion big.conclusion deep.conclusion (subst_few pairs m.0.conclusion p.conclusion m.5.conclusion q.conclusion.few);
      goals = limited_sequents p.goals big.goals deep.goals (subst_all_few pairs m.0.goals p.goals m.5.goals (room m.0.goals q.goals));
      leaves = rw m.5.leaves q.leaves;
      few_goals = rw (sequents_length pairs m.0.goals p.goals m.5.goals) q.few_goals;
      few_leaves = rw m.5.leaves q.few_leaves;
    }
given_limited rows (Rename fact x y) p h g w =
    let m = given_by rows (Rename fact x y) p g in
    let q = At_All IsLimited rows fact m.0 h m.1 in
    rw m.4 (record {
      conclusion = swap_limited x y m.0.conclusion q.conclusion;
      goals = swap_all_limited x y m.0.goals q.goals;
      leaves = q.leaves;
      few_goals = rw (length-map m.0.goals (swap_sequent x y)) q.few_goals;
      few_leaves = q.few_leaves;
    })

pub step_limited : (rows : List Provable) (step : Step) (p : Provable) → All IsLimited rows → StepOf rows step p → IsLimited p
step_limited rows step p h s = given_limited rows step p h s.given (λ why t. s.allowed why (past_limit p s.given t))
