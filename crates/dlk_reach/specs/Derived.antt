-- What the uses of a plan make of a proof, one after another.
use Rattle.std.specs.Prelude.{◌≡◌, ◌≤◌, ◌⊎◌, ℕ, List, [], ◌∷◌, ◌++◌, length, Some}
use Rattle.dlk_tree.specs.Trees.{Tree, size}
use Rattle.dlk_calculus.specs.Notation.{diff, diff_formula}
use Rattle.dlk_calculus.specs.Paths.{subtree}
use Rattle.dlk_calculus.specs.Places.{At}
use Rattle.dlk_calculus.specs.Provables.{Provable, started, AreNew}
use Rattle.dlk_calculus.specs.Sequents.{Sequent, IsFormula, alone_right}
use Rattle.dlk_calculus.specs.Steps.{Step, Start, StepOf}
use Rattle.dlk_sequent.specs.declared.sequent.Place.TheVariants.{Succ}
use Rattle.dlk_derive.specs.Derivative.{OfTerm, OfFormula}
use Rattle.dlk_derive.specs.Derives.{use_of}
use Rattle.dlk_derive.specs.Plans.{Call}
use Rattle.dlk_derive.specs.Rewriting.{IsTermPlace}
use Rattle.dlk_elab.specs.Atoms.{AtomSteps}

-- Derivable model path k d: in the model, a formula of at most 150 nodes, the `( )'` of k stands at the path, and d is the derivative of k. That
-- of a term stands on a plain way from a formula.
pub record Derivable (model : Tree) (path : List ℕ) (k d : Tree) : Type 0 where
  pub formula : IsFormula model
  pub few : size model ≤ 150
  pub place : (IsTermPlace model path (diff k) × OfTerm k d) ⊎ ((subtree model path ≡ Some (diff_formula k)) × OfFormula k d)

-- Gathers old asked new: the conditions come behind the leaves in turn, those that aren't there yet
pub data Gathers : List Sequent → List Tree → List Sequent → Type 0 where
  none_asked : {old : List Sequent} → Gathers old [] old
  one_asked : {old : List Sequent} {b : Tree} {asked : List Tree} {new all : List Sequent} → AreNew old (alone_right b ∷ []) new →
      Gathers (old ++ new) asked all → Gathers old (b ∷ asked) all

-- the last of the rows has one goal
pub record HasOneGoal (rows : List Provable) : Type 0 where
  pub row : Provable
  pub is_last : At rows (length rows) row
  pub one : length row.goals ≡ 1

-- UsedInTurn byte calls rows after: from these rows on, the axioms are used in turn at place 1 on the right of the only goal, by atoms that stand
-- at this byte, and with their steps the rows come to be those after. Each use leaves one goal.
pub data UsedInTurn (byte : ℕ) : List Call → List Provable → List Provable → Type 0 where
  none : {rows : List Provable} → UsedInTurn byte [] rows rows
  first : {call : Call} {calls : List Call} {rows between after : List Provable} {steps : List Step} → HasOneGoal rows →
      AtomSteps rows (length rows) 1 (use_of byte (Succ 1) call) steps between → HasOneGoal between → UsedInTurn byte calls between after →
      UsedInTurn byte (call ∷ calls) rows after

-- Reaches byte calls formula goal asked: the step that states the formula is taken, and from its row the uses in turn lead to rows, at most 2,832
-- with it. The last of them has the formula as its conclusion, this as its only goal, and these conditions as its leaves, each once and in order.
pub record Reaches (byte : ℕ) (calls : List Call) (formula goal : Tree) (asked : List Tree) : Type 0 where
  pub start : StepOf [] (Start (alone_right formula)) (started (alone_right formula))
  pub after : List Provable
  pub used : UsedInTurn byte calls (started (alone_right formula) ∷ []) after
  pub few : length after ≤ 2832
  pub leaves : List Sequent
  pub gathers : Gathers [] asked leaves
  pub last : At after (length after) (record { conclusion = alone_right formula; goals = alone_right goal ∷ []; leaves = leaves })
