-- Examples of the steps of a use.
use Rattle.std.specs.Prelude.{◌≡◌, ℕ, refl, List, [], ◌∷◌, ◌++◌, length, codes}
use Rattle.dlk_tree.specs.declared.op.Op.TheVariants.{Hole}
use Rattle.dlk_tree.specs.Trees.{Tree}
use Rattle.dlk_calculus.specs.Notation.{leaf, box}
use Rattle.dlk_calculus.specs.Pairs.{Pair, Extra}
use Rattle.dlk_calculus.specs.Rules.{CutR, CoHideR, EquivifyR, CommuteEquivR, ImplyR, imply}
use Rattle.dlk_calculus.specs.Sequents.{Sequent}
use Rattle.dlk_calculus.specs.Steps.{UseAxiom, UseRule, Apply, Merge, Substitute, Rename}
use Rattle.dlk_sequent.specs.declared.sequent.Place.TheVariants.{Succ}
use Rattle.dlk_uses.specs.Uses.{Forwards, Spot, any_p, any_q, program_a, context_c, ◌~>◌, instance, by_equivalence, by_conditional_equation, cutting_box}

-- the first goal of the second row, which is this sequent
abbrev first_of_second : Sequent → Spot
first_of_second s = record { fact = 2; goal = 1; s = s }

-- a name, and a replacement
abbrev renamed_x : Pair → List Pair → Extra
renamed_x p pairs = record { renames = (codes "x_", codes "x") ∷ []; pairs = p ∷ pairs }

-- assignb on the whole formula l at place 1 on the right, which comes to be r: lines 3 to 13
assigns : (p : Pair) (pairs : List Pair) (s : Sequent) (l r : Tree) →
    instance 2 (codes "assignb") (renamed_x p pairs) ++ by_equivalence 5 (first_of_second s) (Succ 1) Forwards l [] l r
    ≡ UseAxiom (codes "assignb") ∷
    Rename 3 (codes "x_") (codes "x") ∷
    Substitute 4 (p ∷ pairs) ∷
    UseRule (codes "CE") ∷
    Substitute 6 ((any_p ~> l) ∷ (any_q ~> r) ∷ (context_c ~> leaf Hole) ∷ []) ∷
    Merge 7 1 5 ∷
    Apply 2 1 (CutR 1 r) ∷
    Apply 9 2 (CoHideR 1) ∷
    Apply 10 2 (EquivifyR 1) ∷
    Apply 11 2 (CommuteEquivR 1) ∷
    Merge 12 2 8 ∷
    []
assigns p pairs s l r = refl

-- the most steps: an instance with replacements alone, and a conditional equation
most : (p : Pair) (pairs : List Pair) (s : Sequent) (e d b l r : Tree) (outer inner : List ℕ) →
    length
    (instance 2 (codes "Dpow") (record { renames = []; pairs = p ∷ pairs })
    ++ by_conditional_equation 4 (first_of_second s) (Succ 1) Forwards e outer inner d b l r)
    ≡ 19
most p pairs s e d b l r outer inner = refl

-- [b]f from [b]h: ten steps behind two rows
ten : (s : Sequent) (b f h : Tree) →
    cutting_box 2 (first_of_second s) 1 b f h
    ≡ UseAxiom (codes "K") ∷
    Substitute 3 ((program_a ~> b) ∷ (any_p ~> h) ∷ (any_q ~> f) ∷ []) ∷
    UseRule (codes "G") ∷
    Substitute 5 ((program_a ~> b) ∷ (any_p ~> imply h f) ∷ []) ∷
    Apply 2 1 (CutR 1 (box b h)) ∷
    Apply 7 2 (CoHideR 1) ∷
    Apply 8 2 (CutR 1 (box b (imply h f))) ∷
    Merge 9 3 4 ∷
    Merge 10 2 6 ∷
    Apply 11 2 (ImplyR 1) ∷
    []
ten s b f h = refl
