-- Steps that are taken, one after another, and what then holds.
use Rattle.std.proofs.Common.{◌≡◌, ℕ, ◌<◌, ◌≤◌, List, [], ◌∷◌, ◌++◌, length, arith}
use Rattle.std.specs.List.{All}
use Rattle.std.specs.Prelude.{IsTrue, Some}
use Rattle.dlk_tree.specs.Names.{is_name}
use Rattle.dlk_calculus.specs.Arithmetic.{is_arithmetic_sequent}
use Rattle.dlk_calculus.specs.Axioms.{Axiom, axiom_named, AxiomaticRule, rule_named}
use Rattle.dlk_calculus.specs.Limits.{most_goals, most_leaves, most_rows, IsSmall, IsShallow}
use Rattle.dlk_calculus.specs.Limited.{InProvable, HasFewFormulas}
use Rattle.dlk_calculus.specs.Pairs.{Pair, IsWellFormed, AreWellMade, IsFreeIn}
use Rattle.dlk_calculus.specs.Places.{At}
use Rattle.dlk_calculus.specs.Provables.{Provable, known, started, assumed, inferred, applied, merged, renamed, AreNew, HasGoal, Substitutes}
use Rattle.dlk_calculus.specs.Rules.{Rule, IsProperRule, Premises}
use Rattle.dlk_calculus.specs.Sequents.{Sequent, IsSequent}
use Rattle.dlk_calculus.specs.Steps.{Step, Start, UseAxiom, UseRule, Leaf, Apply, Merge, Substitute, Rename, Gives, StepOf, IsWithin, EachNew}
use Rattle.dlk_calculus.specs.Steps.{use_axiom as by_axiom, start as by_start, leaf as by_leaf, use_rule as by_rule, apply as by_apply}
use Rattle.dlk_calculus.specs.Steps.{merge as by_merge, substitute as by_substitution, rename as by_renaming}
use Rattle.dlk_calculus.specs.Steps.{too_big, too_deep, start_full, leaf_full, side_full, goals_applied, goals_merged, leaves_merged}
use Rattle.dlk_calculus.proofs.LimitLaws.{taken_as_given}
use Rattle.dlk_kernel.specs.Taken.{Takes, none, more}
use Rattle.dlk_kernel.proofs.Limited.{rule_within, axiom_within, rename_within}
use Rattle.dlk_uses.proofs.Fitting.{Added, added}

-- the steps are taken, and then this holds
pub record Goes (rows : List Provable) (steps : List Step) (P : List Provable → Type 0) : Type 0 where
  pub after : List Provable
  pub takes : Takes rows steps after
  pub holds : P after

pub goes_nowhere : (rows : List Provable) (P : List Provable → Type 0) → P rows → Goes rows [] P
goes_nowhere rows P h = record { after = rows; takes = none; holds = h }

takes_first : {rows : List Provable} {step : Step} {p : Provable} {steps : List Step} {after : List Provable} →
    StepOf rows step p → Takes (rows ++ p ∷ []) steps after → Takes rows (step ∷ steps) after
takes_first of none = more none of
takes_first of (more before last) = more (takes_first of before) last

step_goes : (rows : List Provable) (n : ℕ) (step : Step) (steps : List Step) (p : Provable) (P : List Provable → Type 0) → n ≡ length rows →
    n < most_rows → Gives rows step p → IsWithin step p → ((after : List Provable) → Added rows n p after → Goes after steps P) → Goes rows (step ∷ steps) P
step_goes rows n step steps p P e few gives within others =
    let rest = others (rows ++ p ∷ []) (added rows n p e) in
    record {
      after = rest.after;
      takes = takes_first ((taken_as_given rows step p).1 (gives, within, omega (arith, e, few))) rest.takes;
      holds = rest.holds;
    }

pub rule_goes : (rows : List Provable) (n : ℕ) (name : List ℕ) (r : AxiomaticRule) (steps : List Step) (P : List Provable → Type 0) → n ≡ length rows →
    n < most_rows → rule_named name ≡ Some r → ((after : List Provable) → Added rows n (inferred r.premise r.conclusion) after → Goes after steps P) →
    Goes rows (UseRule name ∷ steps) P
rule_goes rows n name r steps P e few named others =
    step_goes rows n (UseRule name) steps (inferred r.premise r.conclusion) P e few (by_rule name r named) (rule_within name _) others

substitute_within : (m : ℕ) (pairs : List Pair) (p : Provable) → EachNew IsSmall (Substitute m pairs) p → EachNew IsShallow (Substitute m pairs) p →
    IsWithin (Substitute m pairs) p
substitute_within m pairs p small shallow why (too_big h) = h small
substitute_within m pairs p small shallow why (too_deep h) = h shallow

pub substitute_goes : (rows : List Provable) (n m : ℕ) (pairs : List Pair) (p q : Provable) (steps : List Step) (P : List Provable → Type 0) →
    n ≡ length rows → n < most_rows → At rows m p → AreWellMade pairs → IsWellFormed pairs → (HasGoal p.goals → ¬ IsFreeIn pairs) → Substitutes pairs p q →
    EachNew IsSmall (Substitute m pairs) q → EachNew IsShallow (Substitute m pairs) q →
    ((after : List Provable) → Added rows n q after → Goes after steps P) → Goes rows (Substitute m pairs ∷ steps) P
substitute_goes rows n m pairs p q steps P e few row made formed free makes small shallow others =
    step_goes rows n (Substitute m pairs) steps q P e few (by_substitution m pairs p q row made formed free makes)
    (substitute_within m pairs q small shallow) others

merge_within : (m goal by : ℕ) (p : Provable) → length p.goals ≤ most_goals → length p.leaves ≤ most_leaves → IsWithin (Merge m goal by) p
merge_within m goal by p goals leaves why (too_big h) = h tt
merge_within m goal by p goals leaves why (too_deep h) = h tt
merge_within m goal by p goals leaves why (goals_merged h) = omega (arith, h, goals)
merge_within m goal by p goals leaves why (leaves_merged h) = omega (arith, h, leaves)

pub merge_goes : (rows : List Provable) (n m goal by : ℕ) (p q : Provable) (new : List Sequent) (steps : List Step) (P : List Provable → Type 0) →
    n ≡ length rows → n < most_rows → At rows m p → At rows by q → At p.goals goal q.conclusion → AreNew p.leaves q.leaves new →
    length (merged p goal q new).goals ≤ most_goals → length (merged p goal q new).leaves ≤ most_leaves →
    ((after : List Provable) → Added rows n (merged p goal q new) after → Goes after steps P) → Goes rows (Merge m goal by ∷ steps) P
merge_goes rows n m goal by p q new steps P e few row other here are goals leaves others =
    step_goes rows n (Merge m goal by) steps (merged p goal q new) P e few (by_merge m goal by p q new row other here are)
    (merge_within m goal by (merged p goal q new) goals leaves) others

apply_within : (m goal : ℕ) (rule : Rule) (p : Provable) → InProvable IsSmall p → InProvable IsShallow p → All HasFewFormulas p.goals →
    length p.goals ≤ most_goals → IsWithin (Apply m goal rule) p
apply_within m goal rule p small shallow sides goals why (too_big h) = h small
apply_within m goal rule p small shallow sides goals why (too_deep h) = h shallow
apply_within m goal rule p small shallow sides goals why (side_full h) = h sides
apply_within m goal rule p small shallow sides goals why (goals_applied h) = omega (arith, h, goals)

pub apply_goes : (rows : List Provable) (n m goal : ℕ) (rule : Rule) (p : Provable) (s : Sequent) (premises : List Sequent) (steps : List Step)
    (P : List Provable → Type 0) → n ≡ length rows → n < most_rows → At rows m p → At p.goals goal s → IsProperRule rule → Premises rule s premises →
    InProvable IsSmall (applied p goal premises) → InProvable IsShallow (applied p goal premises) → All HasFewFormulas (applied p goal premises).goals →
    length (applied p goal premises).goals ≤ most_goals →
    ((after : List Provable) → Added rows n (applied p goal premises) after → Goes after steps P) → Goes rows (Apply m goal rule ∷ steps) P
apply_goes rows n m goal rule p s premises steps P e few row here proper makes small shallow sides goals others =
    step_goes rows n (Apply m goal rule) steps (applied p goal premises) P e few (by_apply m goal rule p s premises row here proper makes)
    (apply_within m goal rule (applied p goal premises) small shallow sides goals) others

pub start_within : (s : Sequent) (p : Provable) → InProvable IsSmall p → InProvable IsShallow p → HasFewFormulas p.conclusion → IsWithin (Start s) p
start_within s p small shallow few why (too_big h) = h small
start_within s p small shallow few why (too_deep h) = h shallow
start_within s p small shallow few why (start_full h) = h few

pub start_goes : (rows : List Provable) (n : ℕ) (s : Sequent) (steps : List Step) (P : List Provable → Type 0) → n ≡ length rows → n < most_rows →
    IsSequent s → InProvable IsSmall (started s) → InProvable IsShallow (started s) → HasFewFormulas s →
    ((after : List Provable) → Added rows n (started s) after → Goes after steps P) → Goes rows (Start s ∷ steps) P
start_goes rows n s steps P e few is small shallow sides others =
    step_goes rows n (Start s) steps (started s) P e few (by_start s is) (start_within s (started s) small shallow sides) others

leaf_within : (s : Sequent) (p : Provable) → InProvable IsSmall p → InProvable IsShallow p → HasFewFormulas p.conclusion → IsWithin (Leaf s) p
leaf_within s p small shallow few why (too_big h) = h small
leaf_within s p small shallow few why (too_deep h) = h shallow
leaf_within s p small shallow few why (leaf_full h) = h few

pub leaf_goes : (rows : List Provable) (n : ℕ) (s : Sequent) (steps : List Step) (P : List Provable → Type 0) → n ≡ length rows → n < most_rows →
    IsSequent s → IsTrue (is_arithmetic_sequent s) → InProvable IsSmall (assumed s) → InProvable IsShallow (assumed s) → HasFewFormulas s →
    ((after : List Provable) → Added rows n (assumed s) after → Goes after steps P) → Goes rows (Leaf s ∷ steps) P
leaf_goes rows n s steps P e few is arithmetic small shallow sides others =
    step_goes rows n (Leaf s) steps (assumed s) P e few (by_leaf s is arithmetic) (leaf_within s (assumed s) small shallow sides) others

pub axiom_goes : (rows : List Provable) (n : ℕ) (name : List ℕ) (a : Axiom) (steps : List Step) (P : List Provable → Type 0) → n ≡ length rows →
    n < most_rows → axiom_named name ≡ Some a → ((after : List Provable) → Added rows n (known a.formula) after → Goes after steps P) →
    Goes rows (UseAxiom name ∷ steps) P
axiom_goes rows n name a steps P e few named others =
    step_goes rows n (UseAxiom name) steps (known a.formula) P e few (by_axiom name a named) (axiom_within name _) others

pub rename_goes : (rows : List Provable) (n m : ℕ) (x y : List ℕ) (p : Provable) (steps : List Step) (P : List Provable → Type 0) → n ≡ length rows →
    n < most_rows → At rows m p → IsTrue (is_name x) → IsTrue (is_name y) →
    ((after : List Provable) → Added rows n (renamed x y p) after → Goes after steps P) → Goes rows (Rename m x y ∷ steps) P
rename_goes rows n m x y p steps P e few row a b others =
    step_goes rows n (Rename m x y) steps (renamed x y p) P e few (by_renaming m x y p row a b) (rename_within m x y _) others
