-- The tests for the limits decide what they say.
use Rattle.std.proofs.Common.{◌≡◌, ℕ, ◌≤◌, Bool, true, false, ◌&&◌, List, [], ◌∷◌, length, refl, Decides, nat_le}
use Rattle.std.specs.List.{All, list_all}
use Rattle.std.proofs.lemmas.Bool.{leb-true, le-leb, and_parts, and_from}
use Rattle.std.proofs.lemmas.List.Elements.{All-head, All-tail, All-cons, All-nil}
use Rattle.dlk_tree.specs.Trees.{Tree, size, depth}
use Rattle.dlk_calculus.specs.declared.reason.Reason.TheVariants.{TooBig, TooDeep, SideFull}
use Rattle.dlk_calculus.specs.Pairs.{Pair}
use Rattle.dlk_calculus.specs.Sequents.{Sequent}
use Rattle.dlk_calculus.specs.Provables.{Provable}
use Rattle.dlk_calculus.specs.Steps.{EachNew, Substitute}
use Rattle.dlk_calculus.specs.Limits.{most_nodes, greatest_depth, most_formulas, IsSmall, IsShallow}
use Rattle.dlk_calculus.specs.Limited.{InSequent, HasFewFormulas}
use Rattle.dlk_kernel.specs.declared.limits.Measure.{Measure}
use Rattle.dlk_kernel.specs.declared.limits.Measure.TheVariants.{Nodes, Levels}
use Rattle.dlk_kernel.specs.Limits.{is_within, is_sequent_within, is_substituted_within, has_few, AreWithin, IsPast}

-- the tree is within the limit of the measure
abbrev pub Passes : Measure → Tree → Type 0
Passes Nodes t = IsSmall t
Passes Levels t = IsShallow t

at_most : (m n : ℕ) → Decides (nat_le m n) (m ≤ n)
at_most m n = (leb-true m n, le-leb m n)

both : {A B C : Type 0} (a b : Bool) → (A → B → C) → (C → A) → (C → B) → Decides a A → Decides b B → Decides (a && b) C
both a b make first second p q = (
  λ h. let parts = and_parts a b h in make (p.0 parts.0) (q.0 parts.1),
  λ c. and_from a b (p.1 (first c)) (q.1 (second c)),
)

all : {A : Type 0} (test : A → Bool) (P : A → Type 0) → ((x : A) → Decides (test x) (P x)) → (xs : List A) → Decides (list_all test xs) (All P xs)
all test P decides [] = ((λ h. All-nil P), λ h. refl)
all test P decides (x ∷ xs) = both (test x) (list_all test xs) (All-cons P x xs) (All-head P x xs) (All-tail P x xs) (decides x) (all test P decides xs)

tree_decides : (measure : Measure) (t : Tree) → Decides (is_within measure t) (Passes measure t)
tree_decides Nodes t = at_most (size t) most_nodes
tree_decides Levels t = at_most (depth t) greatest_depth

module _ (measure : Measure) where
  sequent_decides : (s : Sequent) → Decides (is_sequent_within measure s) (InSequent (Passes measure) s)
  sequent_decides s =
      both (list_all (is_within measure) s.ante) (list_all (is_within measure) s.succ) (λ a b. record { ante = a; succ = b }) (λ h. h.ante) (λ h. h.succ)
      (all (is_within measure) (Passes measure) (tree_decides measure) s.ante) (all (is_within measure) (Passes measure) (tree_decides measure) s.succ)

  pub sequents_decide : (ss : List Sequent) → Decides (list_all (is_sequent_within measure) ss) (All (InSequent (Passes measure)) ss)
  sequents_decide ss = all (is_sequent_within measure) (InSequent (Passes measure)) sequent_decides ss

  pub substituted_decides : (fact : ℕ) (pairs : List Pair) (p : Provable) →
      Decides (is_substituted_within measure pairs p) (EachNew (Passes measure) (Substitute fact pairs) p)
  substituted_decides fact pairs p =
      both (list_all (λ (pair : Pair). is_within measure pair.by) pairs)
      (is_sequent_within measure p.conclusion && list_all (is_sequent_within measure) p.goals)
      (λ a b. (a, b)) (λ h. h.0) (λ h. h.1)
      (all (λ (pair : Pair). is_within measure pair.by) (λ (pair : Pair). Passes measure pair.by) (λ (pair : Pair). tree_decides measure pair.by) pairs)
      (both (is_sequent_within measure p.conclusion) (list_all (is_sequent_within measure) p.goals) (λ a b. record { conclusion = a; goals = b })
      (λ h. h.conclusion) (λ h. h.goals)
      (sequent_decides p.conclusion) (sequents_decide p.goals))

few_decides : (ss : List Sequent) → Decides (list_all has_few ss) (All HasFewFormulas ss)
few_decides ss =
    all has_few HasFewFormulas
    (λ s. both (nat_le (length s.ante) most_formulas) (nat_le (length s.succ) most_formulas) (λ a b. record { ante = a; succ = b }) (λ h. h.ante) (λ h. h.succ)
    (at_most (length s.ante) most_formulas) (at_most (length s.succ) most_formulas)) ss

-- a test that fails
pub fails : {A : Type 0} (b : Bool) → Decides b A → b ≡ false → A → ⊥
fails b d is a = let e = d.1 a in cc

-- what the tests on sequents tell, each where those before it passed
module _ (ss : List Sequent) where
  pub past_nodes : list_all (is_sequent_within Nodes) ss ≡ false → IsPast ss TooBig
  past_nodes n = fails (list_all (is_sequent_within Nodes) ss) (sequents_decide Nodes ss) n

  pub past_levels : list_all (is_sequent_within Nodes) ss ≡ true → list_all (is_sequent_within Levels) ss ≡ false → IsPast ss TooDeep
  past_levels a n = ((sequents_decide Nodes ss).0 a, fails (list_all (is_sequent_within Levels) ss) (sequents_decide Levels ss) n)

  pub past_sides : list_all (is_sequent_within Nodes) ss ≡ true → list_all (is_sequent_within Levels) ss ≡ true → list_all has_few ss ≡ false →
      IsPast ss SideFull
  past_sides a b n = ((sequents_decide Nodes ss).0 a, (sequents_decide Levels ss).0 b, fails (list_all has_few ss) (few_decides ss) n)

  pub within : list_all (is_sequent_within Nodes) ss ≡ true → list_all (is_sequent_within Levels) ss ≡ true → list_all has_few ss ≡ true → AreWithin ss
  within a b c = record { small = (sequents_decide Nodes ss).0 a; shallow = (sequents_decide Levels ss).0 b; few = (few_decides ss).0 c }
