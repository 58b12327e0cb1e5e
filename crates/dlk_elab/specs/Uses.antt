-- What a use of an axiom finds, over the ids of a store.
use Rattle.std.specs.Prelude.{◌≡◌, ◌≤◌, ℕ, List, length, Some, IsTrue}
use Rattle.dlk_tree.specs.declared.op.Sort.TheVariants.{Formula}
use Rattle.dlk_tree.specs.Trees.{Tree, sort, node, no_kids, kid}
use Rattle.dlk_store.specs.declared.Id.{Id}
use Rattle.dlk_store.specs.Stores.{IsId, tree, StandsFor}
use Rattle.dlk_calculus.specs.declared.form.AxiomForm.{AxiomForm}
use Rattle.dlk_calculus.specs.declared.form.AxiomForm.TheVariants.{E, Q, C, R, I, F}
use Rattle.dlk_calculus.specs.Axioms.{Axiom, axiom_named}
use Rattle.dlk_calculus.specs.Limits.{most_formulas}
use Rattle.dlk_calculus.specs.Paths.{subtree}
use Rattle.dlk_calculus.specs.Provables.{Provable}
use Rattle.dlk_calculus.specs.Sequents.{Sequent as TreeSequent}
use Rattle.dlk_calculus.specs.Steps.{IsGoal}
use Rattle.dlk_sequent.specs.declared.sequent.Place.{Place}
use Rattle.dlk_sequent.specs.declared.sequent.Sequent.{Sequent}
use Rattle.dlk_sequent.specs.Sequents.{sequent_at}
use Rattle.dlk_sequent.specs.Spines.{Way, top, path_of, IsSpine, IsSpineOf}
use Rattle.dlk_sequent.specs.Extras.{extra_at, IsKnownExtra}
use Rattle.dlk_tacsyn.specs.Tactics.{Atom}
use Rattle.dlk_uses.specs.Uses.{Use, ProvesLast, right_of, formula_at, key, may_stand}
use Rattle.dlk_elab.specs.Finishing.{HasForm}
use Rattle.dlk_elab.specs.declared.forms.Aim.{Aim}
use Rattle.dlk_elab.specs.Atoms.{Asks, Instance, MatchesThere}
use Rattle.dlk_elab.specs.Calls.{direction_of}
use Rattle.dlk_elab.specs.declared.calls.UseCall.{UseCall}
use Rattle.dlk_elab.specs.declared.keys.Named.{Named}
use Rattle.dlk_elab.specs.declared.plan.Target.{Target}
use Rattle.dlk_elab.specs.declared.ways.Reached.{Reached}
use Rattle.dlk_elab.specs.declared.uses.Found.{Found}

-- the tree has a kid
abbrev pub HasKids : Tree → Type 0
HasKids (node op no_kids) = ⊥
HasKids (node op (kid t rest)) = Unit {0}

-- so do the parts of an axiom's formula of which one may be looked for
abbrev pub HasParts : AxiomForm → Tree → Type 0
HasParts E f = HasKids f
HasParts Q f = HasKids f
HasParts C f = HasKids f × HasKids (right_of f)
HasParts R f = HasKids f × HasKids (right_of f)
HasParts I f = HasKids f
HasParts F f = Unit {0}

-- what the tables say of the axiom of this name, and an id of its formula
pub record IsAxiomAt (trees : List Tree) (name : List ℕ) (named : Named) : Type 0 where
  pub its_axiom : Axiom
  pub is_axiom : axiom_named name ≡ Some its_axiom
  pub form : named.form ≡ its_axiom.form
  pub own : named.own.items ≡ its_axiom.own_names
  pub formula : StandsFor trees named.formula its_axiom.formula

-- the formula at the place, and the way along the path in it
pub record IsWayAt (trees : List Tree) (s : Sequent) (place : Place) (path : List ℕ) (way : Way) : Type 0 where
  pub formula : Id
  pub known : IsId trees formula
  pub stands : formula_at (sequent_at trees s) place ≡ Some (tree trees formula)
  pub spine : IsSpineOf trees formula path way

-- there is no such way
abbrev pub HasNoWay : List Tree → Sequent → Place → List ℕ → Type 0
HasNoWay trees s place path = (e t : Tree) → formula_at (sequent_at trees s) place ≡ Some e → ¬ (subtree e path ≡ Some t)

-- where a use acts: the formula at the place of the goal, and the way along the path in it
pub record IsReached (rows : List Provable) (target : Target) (trees : List Tree) (place : Place) (path : List ℕ) (reached : Reached) : Type 0 where
  pub s : TreeSequent
  pub is_goal : IsGoal rows target.fact target.goal s
  pub stands : formula_at s place ≡ Some (tree trees (top reached.way))
  pub formula : sort (tree trees (top reached.way)) ≡ Formula
  pub spine : IsSpine trees reached.way
  pub goes : path_of reached.way ≡ path
  pub right : reached.right ≡ length s.succ
  pub few : reached.right ≤ most_formulas

-- there is no such place in the goal
pub record IsNotThere (rows : List Provable) (target : Target) (place : Place) (path : List ℕ) : Type 0 where
  pub s : TreeSequent
  pub is_goal : IsGoal rows target.fact target.goal s
  pub none : (e t : Tree) → formula_at s place ≡ Some e → ¬ (subtree e path ≡ Some t)

-- what is looked for of the axiom
abbrev pub wanted : List Tree → Named → UseCall → Tree
wanted trees named u = key named.form (direction_of u.direction) u.place (tree trees named.formula)

-- it may be used so
abbrev pub MayBeUsed : Named → UseCall → Type 0
MayBeUsed named u = IsTrue (may_stand named.form (direction_of u.direction) u.place u.path.now)

-- What a use finds on a goal: it asks for the instance with these names and replacements, on the formula at the way's top; and what the
-- steps need of that.
pub record IsFound (rows : List Provable) (target : Target) (atom : Atom) (trees : List Tree) (u : UseCall) (found : Found) : Type 0 where
  pub s : TreeSequent
  pub is_goal : IsGoal rows target.fact target.goal s
  pub used : Use
  pub asks : Asks (length rows) target.fact target.goal s atom (Instance used (extra_at trees found.extra) (tree trees (top found.way)))
  pub is_axiom : axiom_named u.name.now ≡ Some used.its_axiom
  pub form : used.its_axiom.form ≡ found.form
  pub direction : used.direction ≡ direction_of u.direction
  pub place : used.place ≡ u.place
  pub path : used.path ≡ path_of found.way
  pub may : IsTrue (may_stand used.its_axiom.form used.direction used.place used.path)
  pub matches : MatchesThere used (tree trees found.way.found) (extra_at trees found.extra)
  pub known : IsKnownExtra trees found.extra
  pub spine : IsSpine trees found.way
  pub formula : sort (tree trees (top found.way)) ≡ Formula
  pub right : found.right ≡ length s.succ
  pub few : found.right ≤ most_formulas

-- the last row proves an instance of an axiom of this form alone, which may be used at this place, where this tree is
pub record ProvesForm (rows : List Provable) (form : AxiomForm) (place : Place) (t : Tree) : Type 0 where
  pub f : Tree
  pub last : ProvesLast rows f
  pub has_form : HasForm form place t f

-- where the use acts
abbrev pub aim_of : Target → UseCall → ℕ → Aim
aim_of target u right = record { spot = record { fact = target.fact; goal = target.goal; right = right }; place = u.place; direction = u.direction }
