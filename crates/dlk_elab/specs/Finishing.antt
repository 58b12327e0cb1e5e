-- The steps behind the instance of an axiom, over ids.
use Rattle.std.specs.Prelude.{◌≡◌, ℕ, List, length, map, All}
use Rattle.dlk_tree.specs.declared.op.Sort.TheVariants.{Term, Formula}
use Rattle.dlk_tree.specs.Trees.{Tree, sort}
use Rattle.dlk_store.specs.Stores.{tree, StandsFor}
use Rattle.dlk_calculus.specs.declared.form.AxiomForm.{AxiomForm}
use Rattle.dlk_calculus.specs.declared.form.AxiomForm.TheVariants.{E, Q, C, R, I, F}
use Rattle.dlk_calculus.specs.Notation.{eq}
use Rattle.dlk_calculus.specs.Paths.{put_at, IsInnermost}
use Rattle.dlk_calculus.specs.Provables.{Provable}
use Rattle.dlk_calculus.specs.Rules.{imply, equiv}
use Rattle.dlk_calculus.specs.Sequents.{Sequent}
use Rattle.dlk_sequent.specs.declared.sequent.Place.{Place}
use Rattle.dlk_sequent.specs.declared.sequent.Place.TheVariants.{Ante, Succ}
use Rattle.dlk_sequent.specs.Spines.{Way, top, path_of, IsSpine}
use Rattle.dlk_rules.specs.declared.step.Step.{Step}
use Rattle.dlk_rules.specs.Steps.{step_at, HasKnownIds}
use Rattle.dlk_uses.specs.Uses.{Direction, Use, Finishes, ProvesLast, left_of, right_of}
use Rattle.dlk_elab.specs.declared.forms.Aim.{Aim}
use Rattle.dlk_elab.specs.declared.finishing.Sides.{Sides}
use Rattle.dlk_elab.specs.declared.finishing.Around.{Around}
use Rattle.dlk_elab.specs.declared.finishing.Equation.{Equation}
use Rattle.dlk_elab.specs.Calls.{direction_of}
use Rattle.dlk_elab.specs.Forms.{AreExchangeTrees, AreEquatedTrees}
use Rattle.dlk_elab.specs.Plans.{spot_at}

-- the formula f is an instance of an axiom of this form, which may be used at this place, where the tree `found` is; one row a form
abbrev pub HasForm : AxiomForm → Place → (found f : Tree) → Type 0
-- l <-> r, for a formula
HasForm E place found f = (f ≡ equiv (left_of f) (right_of f)) × (sort found ≡ Formula)
-- l=r, for a term
HasForm Q place found f = (f ≡ eq (left_of f) (right_of f)) × (sort found ≡ Term)
-- b -> (l <-> r), on the right
HasForm C (Succ j) found f = f ≡ imply (left_of f) (equiv (left_of (right_of f)) (right_of (right_of f)))
HasForm C (Ante i) found f = ⊥
-- b -> l=r, for a term
HasForm R place found f = (f ≡ imply (left_of f) (eq (left_of (right_of f)) (right_of (right_of f)))) × (sort found ≡ Term)
-- b -> h
HasForm I place found f = f ≡ imply (left_of f) (right_of f)
-- any formula, on the right
HasForm F (Succ j) found f = Unit {0}
HasForm F (Ante i) found f = ⊥

-- the use is of an axiom of this form, in this direction, at this place and path
pub record IsUse (form : AxiomForm) (aim : Aim) (path : List ℕ) (used : Use) : Type 0 where
  pub form_is : used.its_axiom.form ≡ form
  pub direction_is : used.direction ≡ direction_of aim.direction
  pub place_is : used.place ≡ aim.place
  pub path_is : used.path ≡ path

-- behind the instance f the steps use it on the formula e, and their ids are those of the store
pub record FinishUse (trees : List Tree) (now : ℕ) (aim : Aim) (s : Sequent) (used : Use) (e f : Tree) (steps : List Step) : Type 0 where
  pub finishes : Finishes now (spot_at aim.spot s) used e f (map (step_at trees) steps)
  pub known : All (HasKnownIds trees) steps

-- so they do for each use of an axiom of this form, whatever the sequent is
abbrev pub FinishUses : List Tree → ℕ → Aim → AxiomForm → (path : List ℕ) → (e f : Tree) → List Step → Type 0
FinishUses trees now aim form path e f steps =
    (s : Sequent) (used : Use) → aim.spot.right ≡ length s.succ → IsUse form aim path used → FinishUse trees now aim s used e f steps

-- behind the formula that the last of the rows proves
pub record FinishLast (trees : List Tree) (rows : List Provable) (aim : Aim) (form : AxiomForm) (path : List ℕ) (e : Tree) (steps : List Step) : Type 0 where
  pub f : Tree
  pub proves : ProvesLast rows f
  pub finish : FinishUses trees (length rows) aim form path e f steps

-- the ids of both sides of a tree
pub record AreSides (trees : List Tree) (t : Tree) (sides : Sides) : Type 0 where
  pub left : StandsFor trees sides.left (left_of t)
  pub right : StandsFor trees sides.right (right_of t)

-- the ways to the smallest formula round what is found, and on from there
pub record AreAround (trees : List Tree) (way : Way) (around : Around) : Type 0 where
  pub outer_spine : IsSpine trees around.outer
  pub inner_spine : IsSpine trees around.inner
  pub starts : top around.outer ≡ top way
  pub joins : tree trees (top around.inner) ≡ tree trees around.outer.found
  pub ends : around.inner.found ≡ way.found
  pub innermost : IsInnermost (tree trees (top way)) (path_of way) (path_of around.outer) (path_of around.inner) (tree trees around.outer.found)

-- the trees for a use of l=r at a path of the formula d, which stands at a path of e
pub record AreEquationTrees (trees : List Tree) (direction : Direction) (e : Tree) (outer inner : List ℕ) (d l r : Tree) (x : Equation) : Type 0 where
  pub equated : AreEquatedTrees trees d inner l r x.equated
  pub exchanged : AreExchangeTrees trees direction e outer (put_at d inner l) (put_at d inner r) x.exchanged
