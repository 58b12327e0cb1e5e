-- A step gives at most one provable, and gives one exactly where nothing speaks against it.
use Rattle.std.proofs.Common.{◌≡◌, ◌≢◌, ℕ, ◌<◌, Bool, true, false, List, [], ◌∷◌, refl, sym, ap, subst, ◌∙◌, arith, Option, Some, None, ◌⊎◌, inl, inr}
use Rattle.std.specs.Prelude.{IsTrue}
use Rattle.std.proofs.lemmas.Option.{none-some, same_Some}
use Rattle.dlk_calculus.specs.declared.reason.Reason.{Reason}
use Rattle.dlk_calculus.specs.declared.reason.Reason.TheVariants.{NoFact, NoGoal, UnknownName, NoPlace, WrongShape, NotEqual, NotFresh, NotArith, IllSubst}
use Rattle.dlk_calculus.specs.declared.reason.Reason.TheVariants.{FreeInSubst, NotAdmissible, LinesFull}
use Rattle.dlk_calculus.specs.Reasons.{rank, IsOfCalculus}
use Rattle.dlk_tree.specs.Names.{is_name}
use Rattle.dlk_calculus.specs.Axioms.{Axiom, AxiomaticRule, axiom_named, rule_named}
use Rattle.dlk_calculus.specs.Arithmetic.{is_arithmetic_sequent}
use Rattle.dlk_calculus.specs.Pairs.{Pair, IsFreeIn, IsWellFormed, AreWellMade}
use Rattle.dlk_calculus.specs.Subst.{Subst}
use Rattle.dlk_calculus.specs.Places.{At, IsPlace}
use Rattle.dlk_calculus.specs.Sequents.{Sequent, IsSequent}
use Rattle.dlk_calculus.specs.Rules.{Rule, IsProperRule, Premises, RuleAgainst, FirstAgainst}
use Rattle.dlk_calculus.specs.Provables.{Provable, started, known, inferred, assumed, applied, IsAmong, AreNew, no_more, there, added, merged, SubstEach}
use Rattle.dlk_calculus.specs.Provables.{SubstSequent, SubstSequents, Substitutes, HasGoal, renamed}
use Rattle.dlk_calculus.specs.Steps.{Step, Start, UseAxiom, UseRule, Leaf, Apply, Merge, Substitute, Rename, IsProper, Gives, start, use_axiom, use_rule}
use Rattle.dlk_calculus.specs.Steps.{leaf, apply, merge, substitute, rename, IsGoal, Exceeds, too_big, too_deep, start_full, leaf_full, side_full}
use Rattle.dlk_calculus.specs.Steps.{goals_applied, goals_merged, leaves_merged, Against, no_fact_to_apply, no_fact_to_merge, no_fact_to_substitute}
use Rattle.dlk_calculus.specs.Steps.{no_fact_to_rename, no_goal_to_apply, no_goal_to_merge, unknown_axiom, unknown_rule, against_rule, start_no_formulas}
use Rattle.dlk_calculus.specs.Steps.{leaf_no_formulas, other_goal, no_arithmetic, ill_pairs, free_over_goals, not_admissible, past_limit, rows_full, Fault}
use Rattle.dlk_calculus.proofs.PlaceLaws.{at_one, At_place, place_cases}
use Rattle.dlk_calculus.specs.OneResult.{one_subst}
use Rattle.dlk_calculus.proofs.Decided.{subst_decided, free_in_decided, good_pairs}
use Rattle.dlk_tree.specs.Trees.{Tree}
use Rattle.dlk_calculus.proofs.Decide.{is_sequent, same_sequent, is_false, both}
use Rattle.dlk_calculus.proofs.RuleLaws.{one_premises, premises_unless_against, rule_cases}

-- what a step's provable is made of
abbrev pub GivenBy : List Provable → Step → Provable → Type 0
GivenBy rows (Start s) p = IsSequent s × (p ≡ started s)
GivenBy rows (UseAxiom name) p = (a : Axiom) × (axiom_named name ≡ Some a) × (p ≡ known a.formula)
GivenBy rows (UseRule name) p = (r : AxiomaticRule) × (rule_named name ≡ Some r) × (p ≡ inferred r.premise r.conclusion)
GivenBy rows (Leaf s) p = IsSequent s × IsTrue (is_arithmetic_sequent s) × (p ≡ assumed s)
GivenBy rows (Apply fact goal rule) p =
    (q : Provable) × (s : Sequent) × (premises : List Sequent) × At rows fact q × At q.goals goal s × IsProperRule rule × Premises rule s premises
    × (p ≡ applied q goal premises)
GivenBy rows (Merge fact goal by) p =
    (q r : Provable) × (new : List Sequent) × At rows fact q × At rows by r × At q.goals goal r.conclusion × AreNew q.leaves r.leaves new
    × (p ≡ merged q goal r new)
GivenBy rows (Substitute fact pairs) p =
    (q : Provable) × At rows fact q × AreWellMade pairs × IsWellFormed pairs × (HasGoal q.goals → ¬ IsFreeIn pairs) × Substitutes pairs q p
GivenBy rows (Rename fact x y) p = (q : Provable) × At rows fact q × IsTrue (is_name x) × IsTrue (is_name y) × (p ≡ renamed x y q)

pub given_by : (rows : List Provable) (step : Step) (p : Provable) → Gives rows step p → GivenBy rows step p
given_by rows (Start s) p (start t h) = (h, refl)
given_by rows (UseAxiom name) p (use_axiom n a h) = (a, h, refl)
given_by rows (UseRule name) p (use_rule n r h) = (r, h, refl)
given_by rows (Leaf s) p (leaf t h k) = (h, k, refl)
given_by rows (Apply fact goal rule) p (apply f g r q s premises a b c d) = (q, s, premises, a, b, c, d, refl)
given_by rows (Merge fact goal by) p (merge f g b q r new h k e j) = (q, r, new, h, k, e, j, refl)
given_by rows (Substitute fact pairs) p (substitute f w q r h a b c d) = (q, h, a, b, c, d)
given_by rows (Rename fact x y) p (rename f v w q a b c) = (q, a, b, c, refl)

-- the goal of a fact is one sequent
one_goal : (rows : List Provable) (fact goal : ℕ) (p q : Provable) (s t : Sequent) → At rows fact p → At rows fact q → At p.goals goal s →
    At q.goals goal t → s ≡ t
one_goal rows fact goal p q s t a b c d =
    let same : p ≡ q = at_one rows fact p q a b in
    at_one q.goals goal s t (subst (λ (x : Provable). At x.goals goal s) same c) d

-- a substitution makes one provable
one_each : (pairs : List Pair) (fs gs hs : List Tree) → SubstEach pairs fs gs → SubstEach pairs fs hs → gs ≡ hs
one_each pairs [] [] [] p q = refl
one_each pairs [] [] (h ∷ hs) p q = absurd q
one_each pairs [] (g ∷ gs) hs p q = absurd p
one_each pairs (f ∷ fs) [] hs p q = absurd p
one_each pairs (f ∷ fs) (g ∷ gs) [] p q = absurd q
one_each pairs (f ∷ fs) (g ∷ gs) (h ∷ hs) p q =
    let a = one_subst pairs f g h p.0 q.0 in
    let b = one_each pairs fs gs hs p.1 q.1 in
    λ i. a i ∷ b i

one_sequent : (pairs : List Pair) (s t u : Sequent) → SubstSequent pairs s t → SubstSequent pairs s u → t ≡ u
one_sequent pairs s t u p q =
    let a = one_each pairs s.ante t.ante u.ante p.0 q.0 in
    let b = one_each pairs s.succ t.succ u.succ p.1 q.1 in
    λ i. record { ante = a i; succ = b i }

one_sequents : (pairs : List Pair) (ss ts us : List Sequent) → SubstSequents pairs ss ts → SubstSequents pairs ss us → ts ≡ us
one_sequents pairs [] [] [] p q = refl
one_sequents pairs [] [] (u ∷ us) p q = absurd q
one_sequents pairs [] (t ∷ ts) us p q = absurd p
one_sequents pairs (s ∷ ss) [] us p q = absurd p
one_sequents pairs (s ∷ ss) (t ∷ ts) [] p q = absurd q
one_sequents pairs (s ∷ ss) (t ∷ ts) (u ∷ us) p q =
    let a = one_sequent pairs s t u p.0 q.0 in
    let b = one_sequents pairs ss ts us p.1 q.1 in
    λ i. a i ∷ b i

one_substituted : (pairs : List Pair) (p q r : Provable) → Substitutes pairs p q → Substitutes pairs p r → q ≡ r
one_substituted pairs p q r a b =
    let c = one_sequent pairs p.conclusion q.conclusion r.conclusion a.conclusion b.conclusion in
    let g = one_sequents pairs p.goals q.goals r.goals a.goals b.goals in
    let l = a.leaves ∙ sym b.leaves in
    λ i. record { conclusion = c i; goals = g i; leaves = l i }

-- which leaves are new is told in one way
one_new : (old more xs ys : List Sequent) → AreNew old more xs → AreNew old more ys → xs ≡ ys
one_new old [] _ _ no_more no_more = refl
one_new old (s ∷ more) xs ys (there a j) (there b k) = one_new old more xs ys j k
one_new old (s ∷ more) xs _ (there a j) (added n k) = absurd (n a)
one_new old (s ∷ more) _ ys (added n j) (there b k) = absurd (n b)
one_new old (s ∷ more) _ _ (added {new = xs} n j) (added {new = ys} m k) = ap (λ new. s ∷ new) (one_new old more xs ys j k)

pub one_given : (rows : List Provable) (step : Step) (p q : Provable) → Gives rows step p → Gives rows step q → p ≡ q
one_given rows (Start s) p q g h = (given_by rows (Start s) p g).1 ∙ sym (given_by rows (Start s) q h).1
one_given rows (UseAxiom name) p q g h =
    let a = given_by rows (UseAxiom name) p g in
    let b = given_by rows (UseAxiom name) q h in
    a.2 ∙ ap (λ (x : Axiom). known x.formula) (same_Some a.0 b.0 (sym a.1 ∙ b.1)) ∙ sym b.2
one_given rows (UseRule name) p q g h =
    let a = given_by rows (UseRule name) p g in
    let b = given_by rows (UseRule name) q h in
    a.2 ∙ ap (λ (x : AxiomaticRule). inferred x.premise x.conclusion) (same_Some a.0 b.0 (sym a.1 ∙ b.1)) ∙ sym b.2
one_given rows (Leaf s) p q g h = (given_by rows (Leaf s) p g).2 ∙ sym (given_by rows (Leaf s) q h).2
one_given rows (Apply fact goal rule) p q g h =
    let a = given_by rows (Apply fact goal rule) p g in
    let b = given_by rows (Apply fact goal rule) q h in
    let row : a.0 ≡ b.0 = at_one rows fact a.0 b.0 a.3 b.3 in
    let s : a.1 ≡ b.1 = one_goal rows fact goal a.0 b.0 a.1 b.1 a.3 b.3 a.4 b.4 in
    let premises : a.2 ≡ b.2 = one_premises rule b.1 a.2 b.2 (subst (λ x. Premises rule x a.2) s a.6) b.6 in
    a.7 ∙ (λ i. applied (row i) goal (premises i)) ∙ sym b.7
one_given rows (Merge fact goal by) p q g h =
    let a = given_by rows (Merge fact goal by) p g in
    let b = given_by rows (Merge fact goal by) q h in
    let first : a.0 ≡ b.0 = at_one rows fact a.0 b.0 a.3 b.3 in
    let second : a.1 ≡ b.1 = at_one rows by a.1 b.1 a.4 b.4 in
    let over : AreNew b.0.leaves b.1.leaves a.2 =
    subst (λ (x : Provable). AreNew x.leaves b.1.leaves a.2) first (subst (λ (x : Provable). AreNew a.0.leaves x.leaves a.2) second a.6) in
    let new : a.2 ≡ b.2 = one_new b.0.leaves b.1.leaves a.2 b.2 over b.6 in
    a.7 ∙ (λ i. merged (first i) goal (second i) (new i)) ∙ sym b.7
one_given rows (Substitute fact pairs) p q g h =
    let a = given_by rows (Substitute fact pairs) p g in
    let b = given_by rows (Substitute fact pairs) q h in
    let same : a.0 ≡ b.0 = at_one rows fact a.0 b.0 a.1 b.1 in
    one_substituted pairs b.0 p q (subst (λ (x : Provable). Substitutes pairs x p) same a.5) b.5
one_given rows (Rename fact x y) p q g h =
    let a = given_by rows (Rename fact x y) p g in
    let b = given_by rows (Rename fact x y) q h in
    a.4 ∙ ap (renamed x y) (at_one rows fact a.0 b.0 a.1 b.1) ∙ sym b.4

-- what a fact's goal lacks, no other goal of that number has
goal_unless : (rows : List Provable) (fact goal : ℕ) (s t : Sequent) (P : Sequent → Type 0) → IsGoal rows fact goal s → IsGoal rows fact goal t → (P s → ⊥) →
    P t → ⊥
goal_unless rows fact goal s t P g h n a = n (subst P (one_goal rows fact goal h.0 g.0 t s h.1 g.1 h.2 g.2) a)

-- a goal that is there
fact_there : (rows : List Provable) (fact goal : ℕ) (s : Sequent) → IsGoal rows fact goal s → (¬ IsPlace rows fact) → ⊥
fact_there rows fact goal s g n = n (At_place rows fact g.0 g.1)

goal_there : (rows : List Provable) (fact goal : ℕ) (s : Sequent) (p : Provable) → IsGoal rows fact goal s → At rows fact p → (¬ IsPlace p.goals goal) → ⊥
goal_there rows fact goal s p g h n =
    let same : g.0 ≡ p = at_one rows fact g.0 p g.1 h in
    n (subst (λ (x : Provable). IsPlace x.goals goal) same (At_place g.0.goals goal s g.2))

-- two facts that are there
facts_there : (rows : List Provable) (fact by : ℕ) (p q : Provable) → At rows fact p → At rows by q → ¬ ¬ (IsPlace rows fact × IsPlace rows by)
facts_there rows fact by p q h k n = n (At_place rows fact p h, At_place rows by q k)

-- the limits come behind the reasons of the calculus, and those against a rule are among these
limit_rank : (why : Reason) (step : Step) (p : Provable) → Exceeds why step p → (rank NotAdmissible < rank why) × (rank why < rank LinesFull)
limit_rank _ step p (too_big n) = (omega arith, omega arith)
limit_rank _ step p (too_deep n) = (omega arith, omega arith)
limit_rank _ _ p (start_full n) = (omega arith, omega arith)
limit_rank _ _ p (leaf_full n) = (omega arith, omega arith)
limit_rank _ _ p (side_full n) = (omega arith, omega arith)
limit_rank _ _ p (goals_applied n) = (omega arith, omega arith)
limit_rank _ _ p (goals_merged n) = (omega arith, omega arith)
limit_rank _ _ p (leaves_merged n) = (omega arith, omega arith)

rule_rank : (why : Reason) (rule : Rule) (s : Sequent) → RuleAgainst why rule s → (rank UnknownName < rank why) × (rank why < rank NotArith)
rule_rank NoPlace rule s a = (omega arith, omega arith)
rule_rank WrongShape rule s a = (omega arith, omega arith)
rule_rank NotEqual rule s a = (omega arith, omega arith)
rule_rank NotFresh rule s a = (omega arith, omega arith)
rule_rank _ rule s a = absurd a

pub rule_of_calculus : (why : Reason) (rule : Rule) (s : Sequent) → RuleAgainst why rule s → IsOfCalculus why
rule_of_calculus why rule s a = omega (arith, (rule_rank why rule s a).1)

pub given_unless : (rows : List Provable) (step : Step) (p : Provable) (why : Reason) → IsOfCalculus why → Gives rows step p → Against rows step why → ⊥
given_unless rows _ p _ lt g (no_fact_to_apply {fact} {goal} {rule} n) = let b = given_by rows (Apply fact goal rule) p g in n (At_place rows fact b.0 b.3)
given_unless rows _ p _ lt g (no_fact_to_merge {fact} {goal} {by} n) =
    let b = given_by rows (Merge fact goal by) p g in
    facts_there rows fact by b.0 b.1 b.3 b.4 n
given_unless rows _ p _ lt g (no_fact_to_substitute {fact} {pairs} n) = let b = given_by rows (Substitute fact pairs) p g in n (At_place rows fact b.0 b.1)
given_unless rows _ p _ lt g (no_fact_to_rename {fact} {x} {y} n) = let b = given_by rows (Rename fact x y) p g in n (At_place rows fact b.0 b.1)
given_unless rows _ p _ lt g (no_goal_to_apply {fact} {goal} {rule} q h n) =
    let b = given_by rows (Apply fact goal rule) p g in
    goal_there rows fact goal b.1 q (b.0, b.3, b.4) h n
given_unless rows _ p _ lt g (no_goal_to_merge {fact} {goal} {by} q h n) =
    let b = given_by rows (Merge fact goal by) p g in
    goal_there rows fact goal b.1.conclusion q (b.0, b.3, b.5) h n
given_unless rows _ p _ lt g (unknown_axiom {name} n) = let b = given_by rows (UseAxiom name) p g in none-some b.0 (sym n ∙ b.1)
given_unless rows _ p _ lt g (unknown_rule {name} n) = let b = given_by rows (UseRule name) p g in none-some b.0 (sym n ∙ b.1)
given_unless rows _ p why lt g (against_rule {fact} {goal} {rule} s h a) =
    let b = given_by rows (Apply fact goal rule) p g in
    goal_unless rows fact goal b.1 s (RuleAgainst why rule) (b.0, b.3, b.4) h (premises_unless_against rule b.1 b.2 why b.6) a
given_unless rows _ p _ lt g (start_no_formulas {s} n) = n (given_by rows (Start s) p g).0
given_unless rows _ p _ lt g (leaf_no_formulas {s} n) = n (given_by rows (Leaf s) p g).0
given_unless rows _ p _ lt g (other_goal {fact} {goal} {by} s q h k n) =
    let b = given_by rows (Merge fact goal by) p g in
    let same : b.1 ≡ q = at_one rows by b.1 q b.4 k in
    n (one_goal rows fact goal h.0 b.0 s b.1.conclusion h.1 b.3 h.2 b.5 ∙ ap (λ (x : Provable). x.conclusion) same)
given_unless rows _ p _ lt g (no_arithmetic {s} n) = let e : true ≡ false = sym (given_by rows (Leaf s) p g).1 ∙ n in cc
given_unless rows _ p _ lt g (ill_pairs {fact} {pairs} n) = n (given_by rows (Substitute fact pairs) p g).3
given_unless rows _ p _ lt g (free_over_goals {fact} {pairs} q h some free) =
    let b = given_by rows (Substitute fact pairs) p g in
    b.4 (subst (λ (x : Provable). HasGoal x.goals) (at_one rows fact q b.0 h b.1) some) free
given_unless rows _ p _ lt g (not_admissible {fact} {pairs} q h n) =
    let b = given_by rows (Substitute fact pairs) p g in
    n p (subst (λ (x : Provable). Substitutes pairs x p) (at_one rows fact b.0 q b.1 h) b.5)
given_unless rows step p why lt g (past_limit q h e) = absurd (omega (arith, lt, (limit_rank why step q e).0))
given_unless rows step p _ lt g (rows_full full) = absurd (omega (arith, lt))

-- ---- the first reason against a step, by the reasons before it

-- no reason comes before the first
first_no_fact : (rows : List Provable) (step : Step) → Against rows step NoFact → Fault rows step NoFact
first_no_fact rows step a = record { against = a; first = elim [ NoFact ↦ λ lt. absurd (omega arith) | _ ↦ λ lt. absurd (omega arith) ] }

pub first_no_fact_to_apply : (rows : List Provable) (fact goal : ℕ) (rule : Rule) → (¬ IsPlace rows fact) → Fault rows (Apply fact goal rule) NoFact
first_no_fact_to_apply rows fact goal rule n = first_no_fact rows (Apply fact goal rule) (no_fact_to_apply n)

pub first_no_fact_to_merge : (rows : List Provable) (fact goal by : ℕ) → (¬ (IsPlace rows fact × IsPlace rows by)) → Fault rows (Merge fact goal by) NoFact
first_no_fact_to_merge rows fact goal by n = first_no_fact rows (Merge fact goal by) (no_fact_to_merge n)

pub first_no_fact_to_substitute : (rows : List Provable) (fact : ℕ) (pairs : List Pair) → (¬ IsPlace rows fact) → Fault rows (Substitute fact pairs) NoFact
first_no_fact_to_substitute rows fact pairs n = first_no_fact rows (Substitute fact pairs) (no_fact_to_substitute n)

pub first_no_fact_to_rename : (rows : List Provable) (fact : ℕ) (x y : List ℕ) → (¬ IsPlace rows fact) → Fault rows (Rename fact x y) NoFact
first_no_fact_to_rename rows fact x y n = first_no_fact rows (Rename fact x y) (no_fact_to_rename n)

-- an axiom, an axiomatic rule and a start have one reason against them
module _ (rows : List Provable) where
  axiom_first : (name : List ℕ) (why : Reason) → rank why < rank UnknownName → Against rows (UseAxiom name) why → ⊥
  axiom_first name _ lt (unknown_axiom n) = absurd (omega (arith, lt))
  axiom_first name why lt (past_limit q g e) = absurd (omega (arith, lt, (limit_rank why (UseAxiom name) q e).0))
  axiom_first name _ lt (rows_full full) = absurd (omega (arith, lt))

  rule_first : (name : List ℕ) (why : Reason) → rank why < rank UnknownName → Against rows (UseRule name) why → ⊥
  rule_first name _ lt (unknown_rule n) = absurd (omega (arith, lt))
  rule_first name why lt (past_limit q g e) = absurd (omega (arith, lt, (limit_rank why (UseRule name) q e).0))
  rule_first name _ lt (rows_full full) = absurd (omega (arith, lt))

  start_first : (s : Sequent) (why : Reason) → rank why < rank WrongShape → Against rows (Start s) why → ⊥
  start_first s _ lt (start_no_formulas n) = absurd (omega (arith, lt))
  start_first s why lt (past_limit q g e) = absurd (omega (arith, lt, (limit_rank why (Start s) q e).0))
  start_first s _ lt (rows_full full) = absurd (omega (arith, lt))

  -- a leaf has two: before the second its formulas are asked for
  leaf_first : (s : Sequent) (why : Reason) → rank why < rank NotArith → Against rows (Leaf s) why → (rank why < rank WrongShape) ⊎ IsSequent s → ⊥
  leaf_first s _ lt (leaf_no_formulas n) h = elim h [ inl less ↦ absurd (omega (arith, less)) | inr formulas ↦ n formulas ]
  leaf_first s _ lt (no_arithmetic n) h = absurd (omega (arith, lt))
  leaf_first s why lt (past_limit q g e) h = absurd (omega (arith, lt, (limit_rank why (Leaf s) q e).0))
  leaf_first s _ lt (rows_full full) h = absurd (omega (arith, lt))

  -- of a rule on a goal, before those against the rule
  apply_first : (fact goal : ℕ) (rule : Rule) (p : Provable) (why : Reason) → At rows fact p → rank why < rank NoGoal →
      Against rows (Apply fact goal rule) why → ⊥
  apply_first fact goal rule p _ h lt (no_fact_to_apply n) = n (At_place rows fact p h)
  apply_first fact goal rule p _ h lt (no_goal_to_apply q k n) = absurd (omega (arith, lt))
  apply_first fact goal rule p why h lt (against_rule s g a) = absurd (omega (arith, lt, (rule_rank why rule s a).0))
  apply_first fact goal rule p why h lt (past_limit q g e) = absurd (omega (arith, lt, (limit_rank why (Apply fact goal rule) q e).0))
  apply_first fact goal rule p _ h lt (rows_full full) = absurd (omega (arith, lt))

  -- of a merge of facts that are there, before its goal is compared
  merge_first : (fact goal by : ℕ) (p q : Provable) (why : Reason) → At rows fact p → At rows by q → rank why < rank NotEqual →
      Against rows (Merge fact goal by) why →
      (rank why < rank NoGoal) ⊎ ((s : Sequent) × IsGoal rows fact goal s) → ⊥
  merge_first fact goal by p q _ h k lt (no_fact_to_merge n) m = facts_there rows fact by p q h k n
  merge_first fact goal by p q _ h k lt (no_goal_to_merge r j n) m = elim m [
    | inl less ↦ absurd (omega (arith, less))
    | inr g ↦ goal_there rows fact goal g.0 r g.1 j n
  ]
  merge_first fact goal by p q _ h k lt (other_goal s r g j n) m = absurd (omega (arith, lt))
  merge_first fact goal by p q why h k lt (past_limit r g e) m = absurd (omega (arith, lt, (limit_rank why (Merge fact goal by) r e).0))
  merge_first fact goal by p q _ h k lt (rows_full full) m = absurd (omega (arith, lt))

  -- of a substitution in a fact that is there: what is asked before it makes nothing
  substitute_first : (fact : ℕ) (pairs : List Pair) (p : Provable) (why : Reason) → At rows fact p → rank why < rank NotAdmissible →
      Against rows (Substitute fact pairs) why →
      (rank why < rank IllSubst) ⊎ IsWellFormed pairs → (rank why < rank FreeInSubst) ⊎ (HasGoal p.goals → ¬ IsFreeIn pairs) → ⊥
  substitute_first fact pairs p _ h lt (no_fact_to_substitute n) well free = n (At_place rows fact p h)
  substitute_first fact pairs p _ h lt (ill_pairs n) well free = elim well [ inl less ↦ absurd (omega (arith, less)) | inr formed ↦ n formed ]
  substitute_first fact pairs p _ h lt (free_over_goals q k some is_free) well free = elim free [
    | inl less ↦ absurd (omega (arith, less))
    | inr none ↦ none (subst (λ (x : Provable). HasGoal x.goals) (at_one rows fact q p k h) some) is_free
  ]
  substitute_first fact pairs p _ h lt (not_admissible q k n) well free = absurd (omega (arith, lt))
  substitute_first fact pairs p why h lt (past_limit q g e) well free = absurd (omega (arith, lt, (limit_rank why (Substitute fact pairs) q e).0))
  substitute_first fact pairs p _ h lt (rows_full full) well free = absurd (omega (arith, lt))

pub first_unknown_axiom : (rows : List Provable) (name : List ℕ) → axiom_named name ≡ None → Fault rows (UseAxiom name) UnknownName
first_unknown_axiom rows name n = record { against = unknown_axiom n; first = axiom_first rows name }

pub first_unknown_rule : (rows : List Provable) (name : List ℕ) → rule_named name ≡ None → Fault rows (UseRule name) UnknownName
first_unknown_rule rows name n = record { against = unknown_rule n; first = rule_first rows name }

pub first_start_no_formulas : (rows : List Provable) (s : Sequent) → (¬ IsSequent s) → Fault rows (Start s) WrongShape
first_start_no_formulas rows s n = record { against = start_no_formulas n; first = start_first rows s }

pub first_leaf_no_formulas : (rows : List Provable) (s : Sequent) → (¬ IsSequent s) → Fault rows (Leaf s) WrongShape
first_leaf_no_formulas rows s n = record { against = leaf_no_formulas n; first = λ why lt a. leaf_first rows s why (omega (arith, lt)) a (inl lt) }

pub first_no_arithmetic : (rows : List Provable) (s : Sequent) → IsSequent s → is_arithmetic_sequent s ≡ false → Fault rows (Leaf s) NotArith
first_no_arithmetic rows s h n = record { against = no_arithmetic n; first = λ why lt a. leaf_first rows s why lt a (inr h) }

pub first_no_goal_to_apply : (rows : List Provable) (fact goal : ℕ) (rule : Rule) (p : Provable) → At rows fact p → (¬ IsPlace p.goals goal) →
    Fault rows (Apply fact goal rule) NoGoal
first_no_goal_to_apply rows fact goal rule p h n = record { against = no_goal_to_apply p h n; first = λ why lt a. apply_first rows fact goal rule p why h lt a }

pub first_no_goal_to_merge : (rows : List Provable) (fact goal by : ℕ) (p q : Provable) → At rows fact p → At rows by q → (¬ IsPlace p.goals goal) →
    Fault rows (Merge fact goal by) NoGoal
first_no_goal_to_merge rows fact goal by p q h k n = record {
  against = no_goal_to_merge p h n;
  first = λ why lt a. merge_first rows fact goal by p q why h k (omega (arith, lt)) a (inl lt);
}

pub first_other_goal : (rows : List Provable) (fact goal by : ℕ) (p q : Provable) (s : Sequent) → At rows fact p → At rows by q → At p.goals goal s →
    s ≢ q.conclusion →
    Fault rows (Merge fact goal by) NotEqual
first_other_goal rows fact goal by p q s h k g n = record {
  against = other_goal s q (p, h, g) k n;
  first = λ why lt a. merge_first rows fact goal by p q why h k lt a (inr (s, (p, h, g)));
}

-- a substitution in a fact that is there
module _ (rows : List Provable) (fact : ℕ) (pairs : List Pair) (p : Provable) (h : At rows fact p) where
  pub first_ill_pairs : (¬ IsWellFormed pairs) → Fault rows (Substitute fact pairs) IllSubst
  first_ill_pairs n = record {
    against = ill_pairs n;
    first = λ why lt a. substitute_first rows fact pairs p why h (omega (arith, lt)) a (inl lt) (inl (omega (arith, lt)));
  }

  pub first_free_over_goals : IsWellFormed pairs → HasGoal p.goals → IsFreeIn pairs → Fault rows (Substitute fact pairs) FreeInSubst
  first_free_over_goals well some free = record {
    against = free_over_goals p h some free;
    first = λ why lt a. substitute_first rows fact pairs p why h (omega (arith, lt)) a (inr well) (inl lt);
  }

  pub first_not_admissible : IsWellFormed pairs → (HasGoal p.goals → ¬ IsFreeIn pairs) → ((q : Provable) → ¬ Substitutes pairs p q) →
      Fault rows (Substitute fact pairs) NotAdmissible
  first_not_admissible well free n = record {
    against = not_admissible p h n;
    first = λ why lt a. substitute_first rows fact pairs p why h lt a (inr well) (inr free);
  }

-- the first reason against a rule on a goal is that against its step
module _ (rows : List Provable) (fact goal : ℕ) (rule : Rule) (s : Sequent) (g : IsGoal rows fact goal s) where
  earlier_none : (why : Reason) → IsOfCalculus why → FirstAgainst rule s why → (earlier : Reason) → rank earlier < rank why →
      Against rows (Apply fact goal rule) earlier → ⊥
  earlier_none why of f _ lt (no_fact_to_apply n) = fact_there rows fact goal s g n
  earlier_none why of f _ lt (no_goal_to_apply p h n) = goal_there rows fact goal s p g h n
  earlier_none why of f earlier lt (against_rule t h a) = goal_unless rows fact goal s t (RuleAgainst earlier rule) g h (f.first earlier lt) a
  earlier_none why of f earlier lt (past_limit p h e) = absurd (omega (arith, lt, of, (limit_rank earlier (Apply fact goal rule) p e).0))
  earlier_none why of f _ lt (rows_full full) = absurd (omega (arith, lt, of))

  pub first_against_rule : (why : Reason) → FirstAgainst rule s why → Fault rows (Apply fact goal rule) why
  first_against_rule why f = record { against = against_rule s g f.against; first = earlier_none why (rule_of_calculus why rule s f.against) f }

-- ---- what is given is decided

-- what a substitution makes is decided
decided_each : (pairs : List Pair) (fs : List Tree) → Dec ((gs : List Tree) × SubstEach pairs fs gs)
decided_each pairs [] = yes ([], tt)
decided_each pairs (f ∷ fs) = elim (subst_decided pairs f) [
  | inr n ↦ no (no_first f fs (λ g. n g.0 g.1))
  | inl g ↦ elim (decided_each pairs fs) [ no n ↦ no (no_later f fs n) | yes gs ↦ yes (g.0 ∷ gs.0, (g.1, gs.1)) ]
]
  where
    no_first : (f : Tree) (fs : List Tree) → ¬ ((g : Tree) × Subst pairs f g) → ¬ ((gs : List Tree) × SubstEach pairs (f ∷ fs) gs)
    no_first f fs n ([], h) = h
    no_first f fs n (g ∷ gs, h) = n (g, h.0)

    no_later : (f : Tree) (fs : List Tree) → ¬ ((gs : List Tree) × SubstEach pairs fs gs) → ¬ ((gs : List Tree) × SubstEach pairs (f ∷ fs) gs)
    no_later f fs n ([], h) = h
    no_later f fs n (g ∷ gs, h) = n (gs, h.1)

decided_sequent : (pairs : List Pair) (s : Sequent) → Dec ((t : Sequent) × SubstSequent pairs s t)
decided_sequent pairs s = elim (decided_each pairs s.ante) [
  | no n ↦ no (λ h. n (h.0.ante, h.1.0))
  | yes a ↦ elim (decided_each pairs s.succ) [ no n ↦ no (λ h. n (h.0.succ, h.1.1)) | yes b ↦ yes (record { ante = a.0; succ = b.0 }, (a.1, b.1)) ]
]

decided_sequents : (pairs : List Pair) (ss : List Sequent) → Dec ((ts : List Sequent) × SubstSequents pairs ss ts)
decided_sequents pairs [] = yes ([], tt)
decided_sequents pairs (s ∷ ss) = elim (decided_sequent pairs s) [
  | no n ↦ no (no_first s ss n)
  | yes t ↦ elim (decided_sequents pairs ss) [ no n ↦ no (no_later s ss n) | yes ts ↦ yes (t.0 ∷ ts.0, (t.1, ts.1)) ]
]
  where
    no_first : (s : Sequent) (ss : List Sequent) → ¬ ((t : Sequent) × SubstSequent pairs s t) → ¬ ((ts : List Sequent) × SubstSequents pairs (s ∷ ss) ts)
    no_first s ss n ([], h) = h
    no_first s ss n (t ∷ ts, h) = n (t, h.0)

    no_later : (s : Sequent) (ss : List Sequent) → ¬ ((ts : List Sequent) × SubstSequents pairs ss ts) →
        ¬ ((ts : List Sequent) × SubstSequents pairs (s ∷ ss) ts)
    no_later s ss n ([], h) = h
    no_later s ss n (t ∷ ts, h) = n (ts, h.1)

decided_provable : (pairs : List Pair) (p : Provable) → Dec ((q : Provable) × Substitutes pairs p q)
decided_provable pairs p = elim (decided_sequent pairs p.conclusion) [
  | no n ↦ no (λ h. n (h.0.conclusion, h.1.conclusion))
  | yes c ↦ elim (decided_sequents pairs p.goals) [
    | no n ↦ no (λ h. n (h.0.goals, h.1.goals))
    | yes g ↦ yes (record { conclusion = c.0; goals = g.0; leaves = p.leaves }, record { conclusion = c.1; goals = g.1; leaves = refl })
  ]
]

has_goal : (ss : List Sequent) → Dec (HasGoal ss)
has_goal [] = no (λ h. h)
has_goal (s ∷ ss) = yes tt

free_and_goal : (pairs : List Pair) (p : Provable) → Dec (HasGoal p.goals × IsFreeIn pairs)
free_and_goal pairs p = both (λ g f. (g, f)) (λ c. c.0) (λ c. c.1) (has_goal p.goals) (free_in_decided pairs)

-- a rule of the calculus gives something, or there is a first reason of the calculus why none does
abbrev GivenOrNot : List Provable → Step → Type 0
GivenOrNot rows step = ((p : Provable) × Gives rows step p) ⊎ ((why : Reason) × IsOfCalculus why × Fault rows step why)

axiom_cases : (rows : List Provable) (name : List ℕ) (o : Option Axiom) → axiom_named name ≡ o → GivenOrNot rows (UseAxiom name)
axiom_cases rows name None e = inr (UnknownName, omega arith, first_unknown_axiom rows name e)
axiom_cases rows name (Some a) e = inl (known a.formula, use_axiom name a e)

rule_step_cases : (rows : List Provable) (name : List ℕ) (o : Option AxiomaticRule) → rule_named name ≡ o → GivenOrNot rows (UseRule name)
rule_step_cases rows name None e = inr (UnknownName, omega arith, first_unknown_rule rows name e)
rule_step_cases rows name (Some r) e = inl (inferred r.premise r.conclusion, use_rule name r e)

substitute_cases : (rows : List Provable) (fact : ℕ) (pairs : List Pair) → AreWellMade pairs → GivenOrNot rows (Substitute fact pairs)
substitute_cases rows fact pairs made =
    elim (place_cases rows fact) [
      | inr n ↦ inr (NoFact, omega arith, first_no_fact_to_substitute rows fact pairs n)
      | inl p ↦ elim (good_pairs pairs) [
        | no n ↦ inr (IllSubst, omega arith, first_ill_pairs rows fact pairs p.0 p.1 (λ well. n (made, well)))
        | yes good ↦ elim (free_and_goal pairs p.0) [
          | yes f ↦ inr (FreeInSubst, omega arith, first_free_over_goals rows fact pairs p.0 p.1 good.1 f.0 f.1)
          | no n ↦ elim (decided_provable pairs p.0) [
            | no m ↦ inr (NotAdmissible, omega arith, first_not_admissible rows fact pairs p.0 p.1 good.1 (λ g f. n (g, f)) (λ q h. m (q, h)))
            | yes q ↦ inl (q.0, substitute fact pairs p.0 q.0 p.1 made good.1 (λ g f. n (g, f)) q.1)
          ]
        ]
      ]
    ]

-- whether a sequent is one of others is decided, and so which leaves are new
pub is_among : (s : Sequent) (ss : List Sequent) → Dec (IsAmong s ss)
is_among s [] = no (λ a. a)
is_among s (t ∷ ss) =
    elim (same_sequent s t) [
      | yes e ↦ yes (inl e)
      | no n ↦ elim (is_among s ss) [ yes a ↦ yes (inr a) | no m ↦ no (λ a. elim a [ inl e ↦ n e | inr b ↦ m b ]) ]
    ]

pub some_new : (old more : List Sequent) → (new : List Sequent) × AreNew old more new
some_new old [] = ([], no_more)
some_new old (s ∷ more) =
    let rest = some_new old more in
    elim (is_among s old) [ yes a ↦ (rest.0, there a rest.1) | no n ↦ (s ∷ rest.0, added n rest.1) ]

merge_cases : (rows : List Provable) (fact goal by : ℕ) → GivenOrNot rows (Merge fact goal by)
merge_cases rows fact goal by =
    elim (place_cases rows fact) [
      | inr n ↦ inr (NoFact, omega arith, first_no_fact_to_merge rows fact goal by (λ h. n h.0))
      | inl p ↦ elim (place_cases rows by) [
        | inr n ↦ inr (NoFact, omega arith, first_no_fact_to_merge rows fact goal by (λ h. n h.1))
        | inl q ↦ elim (place_cases p.0.goals goal) [
          | inr n ↦ inr (NoGoal, omega arith, first_no_goal_to_merge rows fact goal by p.0 q.0 p.1 q.1 n)
          | inl s ↦ elim (same_sequent s.0 q.0.conclusion) [
            | no n ↦ inr (NotEqual, omega arith, first_other_goal rows fact goal by p.0 q.0 s.0 p.1 q.1 s.1 n)
            | yes e ↦
                let new = some_new p.0.leaves q.0.leaves in
                inl (merged p.0 goal q.0 new.0, merge fact goal by p.0 q.0 new.0 p.1 q.1 (s.1 ∙ ap Some e) new.1)
          ]
        ]
      ]
    ]

not_false : (b : Bool) → (¬ (b ≡ false)) → IsTrue b
not_false true n = refl
not_false false n = absurd (n refl)

pub step_cases : (rows : List Provable) (step : Step) → IsProper step → GivenOrNot rows step
step_cases rows (Start s) proper =
    elim (is_sequent s) [ yes h ↦ inl (started s, start s h) | no n ↦ inr (WrongShape, omega arith, first_start_no_formulas rows s n) ]
step_cases rows (UseAxiom name) proper = axiom_cases rows name (axiom_named name) refl
step_cases rows (UseRule name) proper = rule_step_cases rows name (rule_named name) refl
step_cases rows (Leaf s) proper =
    elim (is_sequent s) [
      | no n ↦ inr (WrongShape, omega arith, first_leaf_no_formulas rows s n)
      | yes h ↦ elim (is_false (is_arithmetic_sequent s)) [
        | yes n ↦ inr (NotArith, omega arith, first_no_arithmetic rows s h n)
        | no n ↦ inl (assumed s, leaf s h (not_false (is_arithmetic_sequent s) n))
      ]
    ]
step_cases rows (Apply fact goal rule) proper =
    elim (place_cases rows fact) [
      | inr n ↦ inr (NoFact, omega arith, first_no_fact_to_apply rows fact goal rule n)
      | inl p ↦ elim (place_cases p.0.goals goal) [
        | inr n ↦ inr (NoGoal, omega arith, first_no_goal_to_apply rows fact goal rule p.0 p.1 n)
        | inl s ↦ elim (rule_cases rule s.0) [
          | inl m ↦ inl (applied p.0 goal m.0, apply fact goal rule p.0 s.0 m.0 p.1 s.1 proper m.1)
          | inr f ↦
              let g : IsGoal rows fact goal s.0 = (p.0, p.1, s.1) in
              inr (f.0, rule_of_calculus f.0 rule s.0 f.1.against, first_against_rule rows fact goal rule s.0 g f.0 f.1)
        ]
      ]
    ]
step_cases rows (Merge fact goal by) proper = merge_cases rows fact goal by
step_cases rows (Substitute fact pairs) made = substitute_cases rows fact pairs made
step_cases rows (Rename fact x y) names =
    elim (place_cases rows fact) [
      | inr n ↦ inr (NoFact, omega arith, first_no_fact_to_rename rows fact x y n)
      | inl p ↦ inl (renamed x y p.0, rename fact x y p.0 p.1 names.0 names.1)
    ]
