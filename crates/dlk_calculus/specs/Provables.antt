-- Provables: what a proof has shown so far.
use Rattle.std.specs.Prelude.{◌≡◌, ◌⊎◌, ℕ, List, [], ◌∷◌, ◌++◌, map, IsTrue, All}
use Rattle.dlk_calculus.specs.Pairs.{Pair}
use Rattle.dlk_calculus.specs.Subst.{Subst}
use Rattle.dlk_calculus.specs.Places.{put_all}
use Rattle.dlk_calculus.specs.Sequents.{Sequent, alone_right, IsSequent}
use Rattle.dlk_tree.specs.Trees.{Tree}
use Rattle.dlk_calculus.specs.Arithmetic.{is_arithmetic_sequent}
use Rattle.dlk_calculus.specs.Rename.{swap}

-- The conclusion is derived from the goals and the leaves. The goals are left to be proved, the leaves are facts of arithmetic.
pub record Provable : Type 0 where
  pub conclusion : Sequent
  pub goals : List Sequent
  pub leaves : List Sequent

-- a sequent with itself as goal
abbrev pub started : Sequent → Provable
started s = record { conclusion = s; goals = s ∷ []; leaves = [] }

-- a formula alone on the right, from nothing
abbrev pub known : Tree → Provable
known f = record { conclusion = alone_right f; goals = []; leaves = [] }

-- a formula alone on the right, with another one alone on the right as goal
abbrev pub inferred : Tree → Tree → Provable
inferred premise conclusion = record { conclusion = alone_right conclusion; goals = alone_right premise ∷ []; leaves = [] }

-- a sequent of arithmetic, from itself as a leaf
abbrev pub assumed : Sequent → Provable
assumed s = record { conclusion = s; goals = []; leaves = s ∷ [] }

-- premises in the place of a goal
abbrev pub applied : Provable → ℕ → List Sequent → Provable
applied p goal premises = record p { goals = put_all p.goals goal premises }

-- s is one of these sequents
abbrev pub IsAmong : Sequent → List Sequent → Type 0
IsAmong s [] = ⊥
IsAmong s (t ∷ ts) = (s ≡ t) ⊎ IsAmong s ts

-- AreNew old more new: new are those of more that aren't among the old leaves, in their order
pub data AreNew (old : List Sequent) : List Sequent → List Sequent → Type 0 where
  no_more : AreNew old [] []
  there : {s : Sequent} {more new : List Sequent} → IsAmong s old → AreNew old more new → AreNew old (s ∷ more) new
  added : {s : Sequent} {more new : List Sequent} → (¬ IsAmong s old) → AreNew old more new → AreNew old (s ∷ more) (s ∷ new)

-- the goals of another provable in the place of a goal, and new leaves behind the old ones
abbrev pub merged : Provable → ℕ → Provable → List Sequent → Provable
merged p goal q new = record { conclusion = p.conclusion; goals = put_all p.goals goal q.goals; leaves = p.leaves ++ new }

-- A substitution makes the new formulas of the old ones, one by one; and so of sequents.

abbrev pub SubstEach : List Pair → List Tree → List Tree → Type 0
SubstEach pairs [] [] = Unit {0}
SubstEach pairs [] (g ∷ gs) = ⊥
SubstEach pairs (f ∷ fs) [] = ⊥
SubstEach pairs (f ∷ fs) (g ∷ gs) = Subst pairs f g × SubstEach pairs fs gs

abbrev pub SubstSequent : List Pair → Sequent → Sequent → Type 0
SubstSequent pairs s t = SubstEach pairs s.ante t.ante × SubstEach pairs s.succ t.succ

abbrev pub SubstSequents : List Pair → List Sequent → List Sequent → Type 0
SubstSequents pairs [] [] = Unit {0}
SubstSequents pairs [] (t ∷ ts) = ⊥
SubstSequents pairs (s ∷ ss) [] = ⊥
SubstSequents pairs (s ∷ ss) (t ∷ ts) = SubstSequent pairs s t × SubstSequents pairs ss ts

-- q has what the substitution makes of p's conclusion and goals, and p's leaves
pub record Substitutes (pairs : List Pair) (p q : Provable) : Type 0 where
  pub conclusion : SubstSequent pairs p.conclusion q.conclusion
  pub goals : SubstSequents pairs p.goals q.goals
  pub leaves : q.leaves ≡ p.leaves

abbrev pub HasGoal : List Sequent → Type 0
HasGoal [] = ⊥
HasGoal (s ∷ ss) = Unit {0}

-- two names exchanged in the formulas of a sequent
abbrev pub swap_sequent : List ℕ → List ℕ → Sequent → Sequent
swap_sequent x y s = record { ante = map (swap x y) s.ante; succ = map (swap x y) s.succ }

-- two names exchanged in conclusion and goals; the leaves stay
abbrev pub renamed : List ℕ → List ℕ → Provable → Provable
renamed x y p = record { conclusion = swap_sequent x y p.conclusion; goals = map (swap_sequent x y) p.goals; leaves = p.leaves }

-- each of its sequents is one of formulas
pub record HasFormulas (p : Provable) : Type 0 where
  pub conclusion : IsSequent p.conclusion
  pub goals : All IsSequent p.goals
  pub leaves : All IsSequent p.leaves

-- no sequent stands twice
abbrev pub AreDistinct : List Sequent → Type 0
AreDistinct [] = Unit {0}
AreDistinct (s ∷ ss) = (¬ IsAmong s ss) × AreDistinct ss

-- its leaves are sequents of arithmetic, and none stands twice
pub record HasLeaves (p : Provable) : Type 0 where
  pub arithmetic : All (λ s. IsTrue (is_arithmetic_sequent s)) p.leaves
  pub distinct : AreDistinct p.leaves
