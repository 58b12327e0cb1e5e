-- Rules in turn, over ids and over trees.
use Rattle.std.proofs.Common.{◌≡◌, ◌+◌, ℕ, List, [], ◌∷◌, ◌++◌, length, map, All, refl, sym, ap, subst, ◌∙◌, arith}
use Rattle.dlk_tree.specs.Trees.{Tree}
use Rattle.std.specs.Prelude.{Result, Ok, Err, IfOk}
use Rattle.std.proofs.lemmas.List.{map-append, length-map}
use Rattle.std.proofs.lemmas.List.Elements.{All-cons, All-nil, All-head, All-tail, All-append}
use Rattle.dlk_calculus.specs.Rules.{Rule as TreeRule}
use Rattle.dlk_calculus.specs.Steps.{Step as TreeStep, Apply, Merge}
use Rattle.dlk_rules.specs.declared.rule.Rule.{Rule}
use Rattle.dlk_rules.specs.declared.step.Step.{Step}
use Rattle.dlk_rules.specs.declared.step.Step.TheVariants as step
use Rattle.dlk_rules.specs.Steps.{rule_at, step_at, HasKnownIds, RuleIsKnown}
use Rattle.dlk_uses.specs.Uses.{in_turn, closed_by}
use Rattle.dlk_elab.specs.Forms.{applying, row_behind}
use Rattle.dlk_elab.specs.Plans.{goals_and_rules, ArePlanned}

-- one rule more, behind the others
pub one_more : (fact rows : ℕ) (rules : List (ℕ × Rule)) (r : ℕ × Rule) →
    applying fact rows (rules ++ r ∷ []) ≡ applying fact rows rules ++ step.Apply (row_behind fact rows rules) r.0 r.1 ∷ []
one_more fact rows [] r = refl
one_more fact rows (q ∷ rules) r = ap (λ l. step.Apply fact q.0 q.1 ∷ l) (one_more (rows + 1) (rows + 1) rules r)

-- the row behind them is the last one
pub behind_more : (fact rows : ℕ) (rules : List (ℕ × Rule)) (r : ℕ × Rule) → row_behind fact rows (rules ++ r ∷ []) ≡ rows + length rules + 1
behind_more fact rows [] r = omega arith
behind_more fact rows (q ∷ rules) r = let e = behind_more (rows + 1) (rows + 1) rules r in omega (arith, e)

-- over trees
turns_are : (trees : List Tree) (fact rows : ℕ) (rules : List (ℕ × Rule)) →
    map (step_at trees) (applying fact rows rules) ≡ in_turn fact rows (goals_and_rules trees rules)
turns_are trees fact rows [] = refl
turns_are trees fact rows (r ∷ rules) = ap (λ l. Apply fact r.0 (rule_at trees r.1) ∷ l) (turns_are trees (rows + 1) (rows + 1) rules)

turns_known : (trees : List Tree) (fact rows : ℕ) (rules : List (ℕ × Rule)) → All (λ (r : ℕ × Rule). RuleIsKnown trees r.1) rules →
    All (HasKnownIds trees) (applying fact rows rules)
turns_known trees fact rows [] known = All-nil (HasKnownIds trees)
turns_known trees fact rows (r ∷ rules) known =
    All-cons (HasKnownIds trees) (step.Apply fact r.0 r.1) (applying (rows + 1) (rows + 1) rules)
    (All-head (λ (r : ℕ × Rule). RuleIsKnown trees r.1) r rules known)
    (turns_known trees (rows + 1) (rows + 1) rules (All-tail (λ (r : ℕ × Rule). RuleIsKnown trees r.1) r rules known))

-- and closed by a row
pub closed_are : (trees : List Tree) (by fact rows : ℕ) (rules : List (ℕ × Rule)) (goal : ℕ) (steps : List Step) →
    All (λ (r : ℕ × Rule). RuleIsKnown trees r.1) rules → steps ≡ applying fact rows rules ++ step.Merge (rows + length rules) goal by ∷ [] →
    ArePlanned trees steps (closed_by by fact rows (goals_and_rules trees rules) goal)
closed_are trees by fact rows rules goal steps known is = record {
  are =
      ap (map (step_at trees)) is ∙ map-append (step_at trees) (applying fact rows rules) (step.Merge (rows + length rules) goal by ∷ []) ∙
      (λ i. turns_are trees fact rows rules i ++ Merge (rows + sym (length-map rules (over trees)) i) goal by ∷ []);
  known = subst (All (HasKnownIds trees)) (sym is)
      (All-append (HasKnownIds trees) (applying fact rows rules) (step.Merge (rows + length rules) goal by ∷ []) (turns_known trees fact rows rules known)
      (All-cons (HasKnownIds trees) (step.Merge (rows + length rules) goal by) [] tt (All-nil (HasKnownIds trees))));
}
  where
    over : List Tree → ℕ × Rule → ℕ × TreeRule
    over trees r = (r.0, rule_at trees r.1)

-- what holds of a value holds of what it implies
pub if_ok : {T F : Type 0} (r : Result T F) (P Q : T → Type 0) → IfOk r P → ((x : T) → P x → Q x) → IfOk r Q
if_ok (Ok x) P Q p f = f x p
if_ok (Err e) P Q p f = tt

-- the ids of a rule on a goal are known
abbrev pub Known : List Tree → ℕ × Rule → Type 0
Known trees r = RuleIsKnown trees r.1

pub no_more : (trees : List Tree) → All (Known trees) []
no_more trees = All-nil (Known trees)

pub and_known : (trees : List Tree) (r : ℕ × Rule) (rules : List (ℕ × Rule)) → RuleIsKnown trees r.1 → All (Known trees) rules → All (Known trees) (r ∷ rules)
and_known trees r rules one others = All-cons (Known trees) r rules one others

-- the same of all of them, as one tuple
abbrev pub AreKnown : List Tree → List (ℕ × Rule) → Type 0
AreKnown trees [] = Unit {0}
AreKnown trees (r ∷ rules) = RuleIsKnown trees r.1 × AreKnown trees rules

pub all_known : (trees : List Tree) (rules : List (ℕ × Rule)) → AreKnown trees rules → All (Known trees) rules
all_known trees [] known = no_more trees
all_known trees (r ∷ rules) known = and_known trees r rules known.0 (all_known trees rules known.1)

-- steps behind steps
pub both_planned : (trees : List Tree) (steps more all : List Step) (wanted others : List TreeStep) →
    ArePlanned trees steps wanted → ArePlanned trees more others → all ≡ steps ++ more → ArePlanned trees all (wanted ++ others)
both_planned trees steps more all wanted others p q is = record {
  are = ap (map (step_at trees)) is ∙ map-append (step_at trees) steps more ∙ (λ i. p.are i ++ q.are i);
  known = subst (All (HasKnownIds trees)) (sym is) (All-append (HasKnownIds trees) steps more p.known q.known);
}

-- the same of steps, as one tuple
abbrev pub AreKnownSteps : List Tree → List Step → Type 0
AreKnownSteps trees [] = Unit {0}
AreKnownSteps trees (s ∷ steps) = HasKnownIds trees s × AreKnownSteps trees steps

pub steps_known : (trees : List Tree) (steps : List Step) → AreKnownSteps trees steps → All (HasKnownIds trees) steps
steps_known trees [] known = All-nil (HasKnownIds trees)
steps_known trees (s ∷ steps) known = All-cons (HasKnownIds trees) s steps known.0 (steps_known trees steps known.1)
