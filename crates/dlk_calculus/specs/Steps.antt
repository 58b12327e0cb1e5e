-- What is derived, and the steps of a proof: what each gives, and what speaks against it.
use Rattle.std.specs.Prelude.{◌≡◌, ◌≢◌, ℕ, ◌<◌, ◌≤◌, List, [], ◌∷◌, ◌++◌, take, length, Some, None, slice_get, false, IsTrue, All}
use Rattle.dlk_tree.specs.Trees.{Tree}
use Rattle.dlk_tree.specs.Names.{is_name}
use Rattle.dlk_calculus.specs.declared.reason.Reason.{Reason}
use Rattle.dlk_calculus.specs.declared.reason.Reason.TheVariants.{NoFact, NoGoal, UnknownName, WrongShape, NotEqual, NotArith, IllSubst, FreeInSubst}
use Rattle.dlk_calculus.specs.declared.reason.Reason.TheVariants.{NotAdmissible, TooBig, TooDeep, SideFull, GoalsFull, LeavesFull, LinesFull}
use Rattle.dlk_calculus.specs.Reasons.{rank}
use Rattle.dlk_calculus.specs.Axioms.{Axiom, AxiomaticRule, axiom_named, rule_named}
use Rattle.dlk_calculus.specs.Arithmetic.{is_arithmetic_sequent}
use Rattle.dlk_calculus.specs.Pairs.{Pair, IsFreeIn, IsWellFormed, AreWellMade}
use Rattle.dlk_calculus.specs.Places.{At, IsPlace}
use Rattle.dlk_calculus.specs.Sequents.{Sequent, IsSequent}
use Rattle.dlk_calculus.specs.Rules.{Rule, IsProperRule, Premises, RuleAgainst}
use Rattle.dlk_calculus.specs.Limits.{most_goals, most_leaves, most_rows, IsSmall, IsShallow}
use Rattle.dlk_calculus.specs.Limited.{InProvable, HasFewFormulas}
use Rattle.dlk_calculus.specs.Provables.{Provable, started, known, inferred, assumed, applied, AreNew, merged, HasGoal, Substitutes, renamed}

-- Derives p: p is derived by the rules of the calculus. One case a rule. The goal that a rule or a fact replaces stands between others.
pub data Derives : Provable → Type 0 where
  -- any sequent is proved from itself
  by_itself : {s : Sequent} → IsSequent s → Derives (started s)
  -- an axiom is proved from nothing
  by_axiom : (name : List ℕ) (a : Axiom) → axiom_named name ≡ Some a → Derives (known a.formula)
  -- the conclusion of an axiomatic rule is proved from its premise
  by_axiomatic_rule : (name : List ℕ) (r : AxiomaticRule) → rule_named name ≡ Some r → Derives (inferred r.premise r.conclusion)
  -- a sequent of arithmetic is a leaf of its own
  by_arithmetic : {s : Sequent} → IsSequent s → IsTrue (is_arithmetic_sequent s) → Derives (assumed s)
  -- the premises of a rule on a goal stand in its place
  by_rule : {c s : Sequent} {premises leaves : List Sequent} {rule : Rule} (before after : List Sequent) →
      Derives (record { conclusion = c; goals = before ++ s ∷ after; leaves = leaves }) → IsProperRule rule → Premises rule s premises →
      Derives (record { conclusion = c; goals = before ++ premises ++ after; leaves = leaves })
  -- the goals of a fact stand in the place of its conclusion, and its new leaves come last
  by_fact : {c : Sequent} {leaves new : List Sequent} {p : Provable} (before after : List Sequent) →
      Derives (record { conclusion = c; goals = before ++ p.conclusion ∷ after; leaves = leaves }) → Derives p → AreNew leaves p.leaves new →
      Derives (record { conclusion = c; goals = before ++ p.goals ++ after; leaves = leaves ++ new })
  -- a substitution on conclusion and goals; where there is a goal, no variable is free in the replacement of a function or a predicate
  by_substitution : {p q : Provable} {pairs : List Pair} → Derives p → AreWellMade pairs → IsWellFormed pairs → (HasGoal p.goals → ¬ IsFreeIn pairs) →
      Substitutes pairs p q → Derives q
  -- two names are exchanged in conclusion and goals
  by_renaming : {p : Provable} (x y : List ℕ) → Derives p → IsTrue (is_name x) → IsTrue (is_name y) → Derives (renamed x y p)

-- a step, which names earlier rows and their goals by their numbers
pub data Step : Type 0 where
  Start : Sequent → Step
  UseAxiom : (name : List ℕ) → Step
  UseRule : (name : List ℕ) → Step
  Leaf : Sequent → Step
  Apply : (fact goal : ℕ) → Rule → Step
  Merge : (fact goal by : ℕ) → Step
  Substitute : (fact : ℕ) (pairs : List Pair) → Step
  Rename : (fact : ℕ) → (x y : List ℕ) → Step

-- The names that a step exchanges or gives to a variable are names, and its replacements are well made. In the code each name is one, and each
-- id has a well-made tree, so each step there is proper.
abbrev pub IsProper : Step → Type 0
IsProper (Start s) = Unit {0}
IsProper (UseAxiom name) = Unit {0}
IsProper (UseRule name) = Unit {0}
IsProper (Leaf s) = Unit {0}
IsProper (Apply fact goal rule) = IsProperRule rule
IsProper (Merge fact goal by) = Unit {0}
IsProper (Substitute fact pairs) = AreWellMade pairs
IsProper (Rename fact x y) = IsTrue (is_name x) × IsTrue (is_name y)

-- Gives rows step p: by a rule of the calculus the step gives p from these rows. One case a rule.
pub data Gives (rows : List Provable) : Step → Provable → Type 0 where
  -- any sequent is proved from itself
  start : (s : Sequent) → IsSequent s → Gives rows (Start s) (started s)
  -- an axiom is proved from nothing
  use_axiom : (name : List ℕ) (a : Axiom) → axiom_named name ≡ Some a → Gives rows (UseAxiom name) (known a.formula)
  -- the conclusion of an axiomatic rule is proved from its premise
  use_rule : (name : List ℕ) (r : AxiomaticRule) → rule_named name ≡ Some r → Gives rows (UseRule name) (inferred r.premise r.conclusion)
  -- a sequent of arithmetic is a leaf of its own
  leaf : (s : Sequent) → IsSequent s → IsTrue (is_arithmetic_sequent s) → Gives rows (Leaf s) (assumed s)
  -- the premises of a rule on a goal stand in its place
  apply : (fact goal : ℕ) (rule : Rule) (p : Provable) (s : Sequent) (premises : List Sequent) →
      At rows fact p → At p.goals goal s → IsProperRule rule → Premises rule s premises → Gives rows (Apply fact goal rule) (applied p goal premises)
  -- a fact whose conclusion is a goal of another: its goals stand in that goal's place, and its new leaves come last
  merge : (fact goal by : ℕ) (p q : Provable) (new : List Sequent) → At rows fact p → At rows by q → At p.goals goal q.conclusion →
      AreNew p.leaves q.leaves new → Gives rows (Merge fact goal by) (merged p goal q new)
  -- a substitution on a fact's conclusion and goals; where there is a goal, no variable is free in the replacement of a function or a
  -- predicate
  substitute : (fact : ℕ) (pairs : List Pair) (p q : Provable) → At rows fact p → AreWellMade pairs → IsWellFormed pairs →
      (HasGoal p.goals → ¬ IsFreeIn pairs) → Substitutes pairs p q → Gives rows (Substitute fact pairs) q
  -- two names are exchanged in a fact's conclusion and goals
  rename : (fact : ℕ) (x y : List ℕ) (p : Provable) → At rows fact p → IsTrue (is_name x) → IsTrue (is_name y) → Gives rows (Rename fact x y) (renamed x y p)

-- each row is given by a step from the rows before it
abbrev pub History : List Provable → Type 0
History rows = (n : ℕ) (p : Provable) → slice_get rows n ≡ Some p → (step : Step) × Gives (take n rows) step p

-- s is that goal of that fact
abbrev pub IsGoal : List Provable → ℕ → ℕ → Sequent → Type 0
IsGoal rows fact goal s = (p : Provable) × At rows fact p × At p.goals goal s

-- Each formula of the new conclusion and the new goals, and each replacement, has this, where the step makes any.
abbrev pub EachNew : (Tree → Type 0) → Step → Provable → Type 0
EachNew P (Start s) p = InProvable P p
EachNew P (UseAxiom name) p = Unit {0}
EachNew P (UseRule name) p = Unit {0}
EachNew P (Leaf s) p = InProvable P p
EachNew P (Apply fact goal rule) p = InProvable P p
EachNew P (Merge fact goal by) p = Unit {0}
EachNew P (Substitute fact pairs) p = All (λ pair. P pair.by) pairs × InProvable P p
EachNew P (Rename fact x y) p = Unit {0}

-- Exceeds why step p: p, as what the step gives, is past this limit
pub data Exceeds : Reason → Step → Provable → Type 0 where
  too_big : {step : Step} {p : Provable} → ¬ EachNew IsSmall step p → Exceeds TooBig step p
  too_deep : {step : Step} {p : Provable} → ¬ EachNew IsShallow step p → Exceeds TooDeep step p
  start_full : {s : Sequent} {p : Provable} → ¬ HasFewFormulas p.conclusion → Exceeds SideFull (Start s) p
  leaf_full : {s : Sequent} {p : Provable} → ¬ HasFewFormulas p.conclusion → Exceeds SideFull (Leaf s) p
  side_full : {fact goal : ℕ} {rule : Rule} {p : Provable} → ¬ All HasFewFormulas p.goals → Exceeds SideFull (Apply fact goal rule) p
  goals_applied : {fact goal : ℕ} {rule : Rule} {p : Provable} → most_goals < length p.goals → Exceeds GoalsFull (Apply fact goal rule) p
  goals_merged : {fact goal by : ℕ} {p : Provable} → most_goals < length p.goals → Exceeds GoalsFull (Merge fact goal by) p
  leaves_merged : {fact goal by : ℕ} {p : Provable} → most_leaves < length p.leaves → Exceeds LeavesFull (Merge fact goal by) p

-- no limit but that of the number of rows is exceeded
abbrev pub IsWithin : Step → Provable → Type 0
IsWithin step p = (why : Reason) → ¬ Exceeds why step p

-- Against rows step why: this speaks against the step. One case for each reason and kind of step, one for all reasons against a rule, one
-- for all limits of what is given, and one for the number of rows. That a proper step gives something wherever none but the last two speaks
-- against it is a law, so a case that is forgotten here is found.
pub data Against (rows : List Provable) : Step → Reason → Type 0 where
  no_fact_to_apply : {fact goal : ℕ} {rule : Rule} → ¬ IsPlace rows fact → Against rows (Apply fact goal rule) NoFact
  no_fact_to_merge : {fact goal by : ℕ} → ¬ (IsPlace rows fact × IsPlace rows by) → Against rows (Merge fact goal by) NoFact
  no_fact_to_substitute : {fact : ℕ} {pairs : List Pair} → ¬ IsPlace rows fact → Against rows (Substitute fact pairs) NoFact
  no_fact_to_rename : {fact : ℕ} {x y : List ℕ} → ¬ IsPlace rows fact → Against rows (Rename fact x y) NoFact
  no_goal_to_apply : {fact goal : ℕ} {rule : Rule} (p : Provable) → At rows fact p → ¬ IsPlace p.goals goal → Against rows (Apply fact goal rule) NoGoal
  no_goal_to_merge : {fact goal by : ℕ} (p : Provable) → At rows fact p → ¬ IsPlace p.goals goal → Against rows (Merge fact goal by) NoGoal
  unknown_axiom : {name : List ℕ} → axiom_named name ≡ None → Against rows (UseAxiom name) UnknownName
  unknown_rule : {name : List ℕ} → rule_named name ≡ None → Against rows (UseRule name) UnknownName
  -- NoPlace, WrongShape, NotEqual and NotFresh
  against_rule : {fact goal : ℕ} {rule : Rule} {why : Reason} (s : Sequent) → IsGoal rows fact goal s → RuleAgainst why rule s →
      Against rows (Apply fact goal rule) why
  start_no_formulas : {s : Sequent} → ¬ IsSequent s → Against rows (Start s) WrongShape
  leaf_no_formulas : {s : Sequent} → ¬ IsSequent s → Against rows (Leaf s) WrongShape
  other_goal : {fact goal by : ℕ} (s : Sequent) (q : Provable) → IsGoal rows fact goal s → At rows by q → s ≢ q.conclusion →
      Against rows (Merge fact goal by) NotEqual
  no_arithmetic : {s : Sequent} → is_arithmetic_sequent s ≡ false → Against rows (Leaf s) NotArith
  ill_pairs : {fact : ℕ} {pairs : List Pair} → ¬ IsWellFormed pairs → Against rows (Substitute fact pairs) IllSubst
  free_over_goals : {fact : ℕ} {pairs : List Pair} (p : Provable) → At rows fact p → HasGoal p.goals → IsFreeIn pairs →
      Against rows (Substitute fact pairs) FreeInSubst
  not_admissible : {fact : ℕ} {pairs : List Pair} (p : Provable) → At rows fact p → ((q : Provable) → ¬ Substitutes pairs p q) →
      Against rows (Substitute fact pairs) NotAdmissible
  -- TooBig, TooDeep, SideFull, GoalsFull and LeavesFull
  past_limit : {step : Step} {why : Reason} (p : Provable) → Gives rows step p → Exceeds why step p → Against rows step why
  rows_full : {step : Step} → most_rows ≤ length rows → Against rows step LinesFull

-- the first reason against the step
pub record Fault (rows : List Provable) (step : Step) (why : Reason) : Type 0 where
  pub against : Against rows step why
  pub first : (earlier : Reason) → rank earlier < rank why → ¬ Against rows step earlier

-- the provable of the step, where nothing speaks against it
pub record StepOf (rows : List Provable) (step : Step) (p : Provable) : Type 0 where
  pub given : Gives rows step p
  pub allowed : (why : Reason) → ¬ Against rows step why

-- the rows with the step's provable last
pub record Adds (rows : List Provable) (step : Step) (after : List Provable) : Type 0 where
  pub provable : Provable
  pub is_its : StepOf rows step provable
  pub after_is : after ≡ rows ++ provable ∷ []
