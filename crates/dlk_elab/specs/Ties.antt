-- What plans stand for, and the faults of atoms, beside want of memory.
use Rattle.std.specs.Prelude.{◌≡◌, ◌≤◌, ◌⊎◌, IsTrue, ℕ, List, [], length, Option, map, All}
use Rattle.dlk_tree.specs.Trees.{Tree, WellMade}
use Rattle.dlk_store.specs.Stores.{IsId, tree}
use Rattle.dlk_calculus.specs.Places.{At}
use Rattle.dlk_calculus.specs.Rules.{Arguments}
use Rattle.dlk_calculus.specs.Provables.{Provable}
use Rattle.dlk_calculus.specs.Sequents.{Sequent as TreeSequent}
use Rattle.dlk_calculus.specs.Steps.{Step as TreeStep, IsGoal}
use Rattle.dlk_calculus.specs.Notation.{box}
use Rattle.dlk_sequent.specs.declared.sequent.Place.TheVariants.{Succ}
use Rattle.dlk_sequent.specs.declared.sequent.Sequent.{Sequent}
use Rattle.dlk_sequent.specs.Sequents.{sequent_at}
use Rattle.dlk_rules.specs.declared.arguments.Shape.{Shape}
use Rattle.dlk_rules.specs.declared.arguments.Side.{Side}
use Rattle.dlk_rules.specs.declared.step.Step.{Step}
use Rattle.dlk_rules.specs.Steps.{step_at, HasKnownIds}
use Rattle.dlk_rules.specs.Words.{shape_of}
use Rattle.dlk_tacsyn.specs.declared.tactic.Atom.{Atom}
use Rattle.dlk_tacsyn.specs.Tactics.{Argument, AtPlace, Atom as TreeAtom}
use Rattle.dlk_tacsyn.specs.Rows.{is_use}
use Rattle.dlk_tacsyn.specs.Ties.{atom_at}
use Rattle.dlk_kernel.specs.Kernel.{State, facts}
use Rattle.dlk_kernel.specs.declared.fault.StepFault.{StepFault}
use Rattle.dlk_kernel.specs.declared.fault.StepFault.TheVariants as step_fault
use Rattle.dlk_elab.specs.declared.boxes.Boxed.{Boxed}
use Rattle.dlk_elab.specs.declared.boxes.Parts.{Parts}
use Rattle.dlk_elab.specs.declared.fault.TacFault.{TacFault}
use Rattle.dlk_elab.specs.declared.fault.TacFault.TheVariants as fault
use Rattle.dlk_elab.specs.declared.outcome.OnFault.{OnFault}
use Rattle.dlk_elab.specs.declared.outcome.OnFault.TheVariants as on_fault
use Rattle.dlk_elab.specs.Outcomes.{Progress, Outcome, Fails, Budget}
use Rattle.dlk_elab.specs.Atoms.{FailWhy, UnknownName, NoPlace, NoMatch, AtStep, AreFor, Asks, Steps, Refused, IsForBox, AtomSteps}

-- what this fault says is one of those allowed: want of memory always is
abbrev pub IsTacFault : (FailWhy → Type 0) → TacFault → Type 0
IsTacFault allowed fault.UnknownName = allowed UnknownName
IsTacFault allowed fault.NoPlace = allowed NoPlace
IsTacFault allowed fault.NoMatch = allowed NoMatch
IsTacFault allowed (fault.Step why) = allowed (AtStep why)
IsTacFault allowed fault.Memory = Unit {0}

-- what a kernel, the recorded steps and the count of runs stand for
abbrev pub progress_at : {S : Type 0} → (S → List Tree) → State S → List Step → ℕ → Progress
progress_at trees kernel recorded used = record {
  steps = map (step_at (trees kernel.store)) recorded;
  rows = facts trees kernel;
  used = used;
}

-- the fault is what becomes of a goal; want of memory is free
abbrev pub IsOnFaultOf : (Outcome → Type 0) → OnFault → Type 0
IsOnFaultOf becomes (on_fault.Fails at why used) = becomes (Fails at why used)
IsOnFaultOf becomes (on_fault.Budget at) = becomes (Budget at)
IsOnFaultOf becomes on_fault.Memory = Unit {0}

-- no arguments of a rule of this shape are said
abbrev pub HasNone : Shape → Option Side → List Argument → Type 0
HasNone shape side given = (a : Arguments) → shape_of a ≡ shape → ¬ AreFor side given a

-- some are
abbrev pub HasSome : Shape → Option Side → List Argument → Type 0
HasSome shape side given = (a : Arguments) × (shape_of a ≡ shape) × AreFor side given a

-- x stands at the place, and at none before
pub record IsFirstPlace {A : Type 0} (items : List A) (place : ℕ) (x : A) : Type 0 where
  pub stands : At items place x
  pub least : (k : ℕ) → At items k x → place ≤ k

-- on a goal that is this sequent the atom asks for these steps over a store; their ids are those of the store
pub record IsPlan (rows fact goal : ℕ) (trees : List Tree) (s : Sequent) (atom : Atom) (steps : List Step) : Type 0 where
  pub asks : Asks rows fact goal (sequent_at trees s) (atom_at trees atom) (Steps (map (step_at trees) steps))
  pub known : All (HasKnownIds trees) steps

-- on a goal of these rows the atom asks for these steps over a store; their ids are those of the store
pub record AreAsked (rows : List Provable) (fact goal : ℕ) (atom : TreeAtom) (trees : List Tree) (steps : List Step) : Type 0 where
  pub s : TreeSequent
  pub is_goal : IsGoal rows fact goal s
  pub asks : Asks (length rows) fact goal s atom (Steps (map (step_at trees) steps))
  pub known : All (HasKnownIds trees) steps

-- on a goal of these rows the atom asks for some steps
pub record AsksSome (rows : List Provable) (fact goal : ℕ) (atom : TreeAtom) : Type 0 where
  pub s : TreeSequent
  pub is_goal : IsGoal rows fact goal s
  pub steps : List TreeStep
  pub asks : Asks (length rows) fact goal s atom (Steps steps)

-- it asks for some, or it uses an axiom
abbrev pub AsksOrUses : List Provable → (fact goal : ℕ) → TreeAtom → Type 0
AsksOrUses rows fact goal atom = AsksSome rows fact goal atom ⊎ IsTrue (is_use atom.name)

-- the atom gives these steps over a store, and with them these rows; their ids are those of the store
pub record AreMade (rows : List Provable) (fact goal : ℕ) (atom : TreeAtom) (trees : List Tree) (steps : List Step) (after : List Provable) : Type 0 where
  pub made : AtomSteps rows fact goal atom (map (step_at trees) steps) after
  pub known : All (HasKnownIds trees) steps

-- the tree is the box of these
pub record IsBoxOf (trees : List Tree) (e : Tree) (parts : Parts) : Type 0 where
  pub program_known : IsId trees parts.program
  pub formula_known : IsId trees parts.formula
  pub box_is : e ≡ box (tree trees parts.program) (tree trees parts.formula)

-- the box at a place on the right, which the argument says
pub record IsBoxAt (trees : List Tree) (s : Sequent) (argument : Argument) (b : Boxed) : Type 0 where
  pub place : argument ≡ AtPlace (Succ b.place) []
  pub stands : At (sequent_at trees s).succ b.place (box (tree trees b.program) (tree trees b.formula))
  pub program_known : IsId trees b.program
  pub formula_known : IsId trees b.formula
  pub fits : WellMade (box (tree trees b.program) (tree trees b.formula))

-- whatever atom for a box is given the argument, it asks for nothing on the sequent, for this reason
abbrev pub NoBox : TreeSequent → Argument → FailWhy → Type 0
NoBox s argument why = (rows fact goal : ℕ) (atom : TreeAtom) → IsForBox atom argument → Asks rows fact goal s atom (Refused why)

-- a step's fault as that of an atom
abbrev pub of_step : StepFault → TacFault
of_step (step_fault.Refused why) = fault.Step why
of_step step_fault.Memory = fault.Memory
