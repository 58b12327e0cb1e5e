-- Axioms at inner positions: what an atom that uses an axiom looks for, and the steps that each form of an axiom asks for.
use Rattle.std.specs.Prelude.{◌≡◌, ◌+◌, ℕ, List, [], ◌∷◌, ◌++◌, length, Bool, true, false, ◌&&◌, if◌then◌else◌, Option, None, codes}
use Rattle.std.specs.Str.{bytes_eq}
use Rattle.dlk_tree.specs.declared.op.Sym.{Sym}
use Rattle.dlk_tree.specs.declared.op.Kind.{Kind}
use Rattle.dlk_tree.specs.declared.op.Kind.TheVariants.{UnitFunc, Pred, UnitPred, Quant, Prog}
use Rattle.dlk_tree.specs.declared.op.Op.TheVariants.{Dot, Hole, Eq}
use Rattle.dlk_tree.specs.Trees.{Tree, node}
use Rattle.dlk_calculus.specs.declared.form.AxiomForm.{AxiomForm}
use Rattle.dlk_calculus.specs.declared.form.AxiomForm.TheVariants.{E, Q, C, R, I, F}
use Rattle.dlk_calculus.specs.Axioms.{Axiom}
use Rattle.dlk_calculus.specs.Kids.{first, last}
use Rattle.dlk_calculus.specs.Notation.{leaf, two, box}
use Rattle.dlk_calculus.specs.Pairs.{Pair, Extra}
use Rattle.dlk_calculus.specs.Paths.{put_at, IsInnermost}
use Rattle.dlk_calculus.specs.Places.{at, At}
use Rattle.dlk_calculus.specs.Provables.{Provable}
use Rattle.dlk_calculus.specs.Rules.{Rule, Close, Cut, CutL, CutR, CoHideR, ImplyL, ImplyR, EquivifyR, CommuteEquivR, imply, equiv}
use Rattle.dlk_calculus.specs.Sequents.{Sequent, alone_right}
use Rattle.dlk_calculus.specs.Steps.{Step, Start, UseAxiom, UseRule, Leaf, Apply, Merge, Substitute, Rename}
use Rattle.dlk_sequent.specs.declared.sequent.Place.{Place}
use Rattle.dlk_sequent.specs.declared.sequent.Place.TheVariants.{Ante, Succ}

-- which side of an equivalence or an equation is looked for: the left one, or with `useBack` the right one
pub data Direction : Type 0 where
  Forwards : Direction
  Backwards : Direction

-- of l and r, that which comes to stand there
abbrev pub new_side : Direction → Tree → Tree → Tree
new_side Forwards l r = r
new_side Backwards l r = l

-- what an atom that uses an axiom says: the axiom, which side of it is looked for, where, and what is given beside its name
pub record Use : Type 0 where
  pub its_axiom : Axiom
  pub direction : Direction
  pub place : Place
  pub path : List ℕ
  pub given : Extra

-- Parts of a formula: both sides of `l <-> r`, `l=r` and `b -> h`.

abbrev pub left_of : Tree → Tree
left_of (node op kids) = first kids

abbrev pub right_of : Tree → Tree
right_of (node op kids) = last kids

abbrev pub side_of : Direction → Tree → Tree
side_of Forwards f = left_of f
side_of Backwards f = right_of f

-- what is looked for, of an axiom's formula; one row a form
abbrev pub key : AxiomForm → Direction → Place → Tree → Tree
-- l <-> r
key E direction place f = side_of direction f
-- l=r
key Q direction place f = side_of direction f
-- b -> (l <-> r)
key C direction place f = left_of (right_of f)
-- b -> l=r
key R direction place f = left_of (right_of f)
-- b -> h
key I direction (Succ j) f = right_of f
key I direction (Ante i) f = left_of f
key F direction place f = f

-- what a formula of an axiom of this form is; one row a form
abbrev pub HasShape : AxiomForm → Tree → Type 0
HasShape E f = f ≡ equiv (left_of f) (right_of f)
HasShape Q f = f ≡ two Eq (left_of f) (right_of f)
HasShape C f = (f ≡ imply (left_of f) (right_of f)) × (right_of f ≡ equiv (left_of (right_of f)) (right_of (right_of f)))
HasShape R f = (f ≡ imply (left_of f) (right_of f)) × (right_of f ≡ two Eq (left_of (right_of f)) (right_of (right_of f)))
HasShape I f = f ≡ imply (left_of f) (right_of f)
HasShape F f = Unit {0}

abbrev pub is_forwards : Direction → Bool
is_forwards Forwards = true
is_forwards Backwards = false

abbrev pub is_on_the_right : Place → Bool
is_on_the_right (Succ j) = true
is_on_the_right (Ante i) = false

abbrev pub is_whole : List ℕ → Bool
is_whole [] = true
is_whole (n ∷ path) = false

-- an axiom of this form may be used so; one row a form
abbrev pub may_stand : AxiomForm → Direction → Place → List ℕ → Bool
may_stand E direction place path = true
may_stand Q direction place path = true
may_stand C direction place path = is_forwards direction && is_on_the_right place && is_whole path
may_stand R direction place path = is_forwards direction
may_stand I direction place path = is_forwards direction && is_whole path
may_stand F direction place path = is_forwards direction && is_on_the_right place && is_whole path

-- the formula at a place
abbrev pub formula_at : Sequent → Place → Option Tree
formula_at s (Ante i) = at s.ante i
formula_at s (Succ j) = at s.succ j

-- Steps, where there are so many rows: the last of them is the row that they number.

-- the steps that exchange each name with its new one, where they differ
abbrev pub renaming : ℕ → List (List ℕ × List ℕ) → List Step
renaming rows [] = []
renaming rows (r ∷ renames) = if bytes_eq r.0 r.1 then renaming rows renames else Rename rows r.0 r.1 ∷ renaming (rows + 1) renames

-- a substitution of the last row, unless there are no pairs
abbrev pub substituting : ℕ → List Pair → List Step
substituting rows [] = []
substituting rows (p ∷ pairs) = Substitute rows (p ∷ pairs) ∷ []

-- the axiom, with these names and replacements
abbrev pub instance : ℕ → List ℕ → Extra → List Step
instance rows name extra =
    let named = UseAxiom name ∷ renaming (rows + 1) extra.renames
    in named ++ substituting (rows + length named) extra.pairs

-- the steps of rules in turn: the first on a goal of the fact, each other one on the last row
abbrev pub in_turn : ℕ → ℕ → List (ℕ × Rule) → List Step
in_turn fact rows [] = []
in_turn fact rows (r ∷ rules) = Apply fact r.0 r.1 ∷ in_turn (rows + 1) (rows + 1) rules

-- rules in turn, and then a merge of a row into a goal of what they make
abbrev pub closed_by : ℕ → ℕ → ℕ → List (ℕ × Rule) → ℕ → List Step
closed_by by fact rows rules goal = in_turn fact rows rules ++ Merge (rows + length rules) goal by ∷ []

-- Symbols of axioms and axiomatic rules:

abbrev pub symbol : Kind → List ℕ → ℕ → Sym
symbol kind name arity = record { kind = kind; name = name; arity = arity; taboo = None }

infix 4 ◌~>◌
abbrev pub ◌~>◌ : Sym → Tree → Pair
s ~> e = record { sym = s; by = e }

-- a;
abbrev pub program_a : Sym
program_a = symbol Prog (codes "a") 0

-- p(||)
abbrev pub any_p : Sym
any_p = symbol UnitPred (codes "p") 0

abbrev pub any_q : Sym
any_q = symbol UnitPred (codes "q") 0

-- f(||) and g(||)
abbrev pub any_f : Sym
any_f = symbol UnitFunc (codes "f") 0

abbrev pub any_g : Sym
any_g = symbol UnitFunc (codes "g") 0

-- p(._0)
abbrev pub p_of_one : Sym
p_of_one = symbol Pred (codes "p") 1

-- C{_}
abbrev pub context_c : Sym
context_c = symbol Quant (codes "C") 0

-- Where an atom acts: a goal of a fact, which is this sequent.
pub record Spot : Type 0 where
  pub fact : ℕ
  pub goal : ℕ
  pub s : Sequent

-- The goal, whose formula e at the place is one side of an equivalence that this row proves, with the other side there instead. The rules
-- leave the goal with the new formula, and one that the row proves.
abbrev pub exchange : ℕ → ℕ → Spot → Place → Direction → Tree → List Step
exchange by rows spot (Succ j) Forwards new =
    closed_by by spot.fact rows (
    (spot.goal, CutR j new) ∷ (spot.goal + 1, CoHideR j) ∷ (spot.goal + 1, EquivifyR 1) ∷ (spot.goal + 1, CommuteEquivR 1) ∷ []
    ) (spot.goal + 1)
exchange by rows spot (Succ j) Backwards new =
    closed_by by spot.fact rows (
    (spot.goal, CutR j new) ∷ (spot.goal + 1, CoHideR j) ∷ (spot.goal + 1, EquivifyR 1) ∷ []
    ) (spot.goal + 1)
exchange by rows spot (Ante i) Forwards new =
    closed_by by spot.fact rows (
    (spot.goal, CutL i new) ∷ (spot.goal + 1, CoHideR (length spot.s.succ + 1)) ∷ (spot.goal + 1, EquivifyR 1) ∷ []
    ) (spot.goal + 1)
exchange by rows spot (Ante i) Backwards new =
    closed_by by spot.fact rows (
    (spot.goal, CutL i new) ∷ (spot.goal + 1, CoHideR (length spot.s.succ + 1)) ∷ (spot.goal + 1, EquivifyR 1) ∷
    (spot.goal + 1, CommuteEquivR 1) ∷ []
    ) (spot.goal + 1)

-- The row `now`, the last of so many, proves l <-> r: in the formula e one side stands at the path, and comes to be the other one. First that
-- the equivalence holds of the whole formulas, and then the exchange.
abbrev pub by_equivalence : ℕ → Spot → Place → Direction → Tree → List ℕ → (l r : Tree) → List Step
by_equivalence now spot place direction e path l r =
    UseRule (codes "CE") ∷
    Substitute (now + 1) ((any_p ~> l) ∷ (any_q ~> r) ∷ (context_c ~> put_at e path (leaf Hole)) ∷ []) ∷
    Merge (now + 2) 1 now ∷
    exchange (now + 3) (now + 3) spot place direction (put_at e path (replacing direction l r))
  where
    replacing : Direction → Tree → Tree → Tree
    replacing Forwards l r = r
    replacing Backwards l r = l

-- The row `now`, the last of so many, proves l=r: one side stands at the path `inner` of the formula d, which stands at the path `outer` of e.
-- First that d with one side is equivalent to d with the other, and then as by that equivalence.
abbrev pub by_equation : ℕ → Spot → Place → Direction → Tree → (outer inner : List ℕ) → (d l r : Tree) → List Step
by_equation now spot place direction e outer inner d l r =
    UseRule (codes "CQ") ∷
    Substitute (now + 1) ((any_f ~> l) ∷ (any_g ~> r) ∷ []) ∷
    Merge (now + 2) 1 now ∷
    Substitute (now + 3) ((p_of_one ~> put_at d inner (leaf (Dot 0))) ∷ []) ∷
    by_equivalence (now + 4) spot place direction e outer (put_at d inner l) (put_at d inner r)

-- The row `now` proves b -> l=r: its condition is taken for a leaf, and the equation is used.
abbrev pub by_conditional_equation : ℕ → Spot → Place → Direction → Tree → (outer inner : List ℕ) → (d b l r : Tree) → List Step
by_conditional_equation now spot place direction e outer inner d b l r =
    Start (alone_right (two Eq l r)) ∷
    Apply (now + 1) 1 (CutR 1 b) ∷
    Merge (now + 2) 2 now ∷
    Leaf (alone_right b) ∷
    Merge (now + 3) 1 (now + 4) ∷
    by_equation (now + 5) spot place direction e outer inner d l r

-- The row `now` proves b -> (l <-> r), and l stands at place j on the right: it comes to be r, and b is a goal behind it.
abbrev pub by_conditional_equivalence : ℕ → Spot → ℕ → (b l r : Tree) → List Step
by_conditional_equivalence now spot j b l r =
    let third = spot.goal + 2
    in closed_by now spot.fact now (
    (spot.goal, CutR j r) ∷ (spot.goal + 1, CutR j b) ∷
    (third, CoHideR j) ∷ (third, ImplyR 1) ∷ (third, EquivifyR 1) ∷ (third, CommuteEquivR 1) ∷
    (third, Cut (imply b (equiv l r))) ∷ (third, ImplyL 2) ∷ (third, Close 1 2) ∷ (third, Close 2 1) ∷ (third, CoHideR 2) ∷ []
    ) third

-- The row `now` proves b -> h: on the right h comes to be b, and on the left b comes to be h.
abbrev pub by_implication : ℕ → Spot → Place → (b h : Tree) → List Step
by_implication now spot (Succ j) b h =
    closed_by now spot.fact now ((spot.goal, CutR j b) ∷ (spot.goal + 1, CoHideR j) ∷ []) (spot.goal + 1)
by_implication now spot (Ante i) b h =
    closed_by now spot.fact now ((spot.goal, CutL i h) ∷ (spot.goal + 1, CoHideR (length spot.s.succ + 1)) ∷ []) (spot.goal + 1)

-- The row `now` proves the formula at place j on the right.
abbrev pub by_fact : ℕ → Spot → ℕ → List Step
by_fact now spot j = closed_by now spot.fact now ((spot.goal, CoHideR j) ∷ []) spot.goal

-- Finishes now spot used e f steps: behind an instance of the axiom, the formula f, which the row `now` concludes, these steps use it
-- on the formula e at the place. An equation is used in the smallest formula round the place. One row a form.
pub data Finishes (now : ℕ) (spot : Spot) (used : Use) (e f : Tree) : List Step → Type 0 where
  equivalence : used.its_axiom.form ≡ E →
      Finishes now spot used e f (by_equivalence now spot used.place used.direction e used.path (left_of f) (right_of f))
  equation : (outer inner : List ℕ) (d : Tree) → used.its_axiom.form ≡ Q → IsInnermost e used.path outer inner d →
      Finishes now spot used e f (by_equation now spot used.place used.direction e outer inner d (left_of f) (right_of f))
  conditional_equivalence : (j : ℕ) → used.its_axiom.form ≡ C → used.place ≡ Succ j →
      Finishes now spot used e f (by_conditional_equivalence now spot j (left_of f) (left_of (right_of f)) (right_of (right_of f)))
  conditional_equation : (outer inner : List ℕ) (d : Tree) → used.its_axiom.form ≡ R → IsInnermost e used.path outer inner d →
      Finishes now spot used e f
      (by_conditional_equation now spot used.place used.direction e outer inner d (left_of f) (left_of (right_of f)) (right_of (right_of f)))
  implication : used.its_axiom.form ≡ I →
      Finishes now spot used e f (by_implication now spot used.place (left_of f) (right_of f))
  fact : (j : ℕ) → used.its_axiom.form ≡ F → used.place ≡ Succ j →
      Finishes now spot used e f (by_fact now spot j)

-- the last of the rows concludes f alone on the right
pub record ProvesLast (rows : List Provable) (f : Tree) : Type 0 where
  pub row : Provable
  pub is_last : At rows (length rows) row
  pub concludes : row.conclusion ≡ alone_right f

-- behind an instance of the axiom, which the last of the rows concludes, these steps use it on the formula e at the place
pub record FinishesBehind (rows : List Provable) (spot : Spot) (used : Use) (e : Tree) (steps : List Step) : Type 0 where
  pub f : Tree
  pub proves : ProvesLast rows f
  pub finishes : Finishes (length rows) spot used e f steps

-- Boxes at place j on the right:

-- [b]f follows from f alone
abbrev pub generalizing : ℕ → Spot → ℕ → (b f : Tree) → List Step
generalizing now spot j b f =
    UseRule (codes "G") ∷
    Substitute (now + 1) ((program_a ~> b) ∷ (any_p ~> f) ∷ []) ∷
    Apply spot.fact spot.goal (CoHideR j) ∷
    Merge (now + 3) spot.goal (now + 2) ∷
    []

-- [b]f follows from [b]h and h -> f
abbrev pub cutting_box : ℕ → Spot → ℕ → (b f h : Tree) → List Step
cutting_box now spot j b f h =
    let second = spot.goal + 1
    in let third = spot.goal + 2
    in UseAxiom (codes "K") ∷
    Substitute (now + 1) ((program_a ~> b) ∷ (any_p ~> h) ∷ (any_q ~> f) ∷ []) ∷
    UseRule (codes "G") ∷
    Substitute (now + 3) ((program_a ~> b) ∷ (any_p ~> imply h f) ∷ []) ∷
    Apply spot.fact spot.goal (CutR j (box b h)) ∷
    Apply (now + 5) second (CoHideR j) ∷
    Apply (now + 6) second (CutR 1 (box b (imply h f))) ∷
    Merge (now + 7) third (now + 2) ∷
    Merge (now + 8) second (now + 4) ∷
    Apply (now + 9) second (ImplyR 1) ∷
    []
