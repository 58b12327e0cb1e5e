-- Strategies as trees.
use Rattle.std.specs.Prelude.{ℕ, ◌+◌, ◌≤◌, List}
use Rattle.dlk_tree.specs.Trees.{Tree}
use Rattle.dlk_calculus.specs.Pairs.{Extra}
use Rattle.dlk_sequent.specs.declared.sequent.Place.{Place}

-- an argument of an atom
pub data Argument : Type 0 where
  -- a formula of the goal, and the way into it: its kids, counted from 0
  AtPlace : Place → List ℕ → Argument
  -- the first place on a side at which the atom doesn't fail
  AnyLeft : Argument
  AnyRight : Argument
  Word : List ℕ → Argument
  -- what is quoted
  GivenFormula : Tree → Argument
  GivenTerm : Tree → Argument
  -- names with their new names, and pairs
  GivenExtra : Extra → Argument

-- a strategy without parts: a name with arguments, and the byte of the name
pub record Atom : Type 0 where
  pub name : List ℕ
  pub arguments : List Argument
  pub at : ℕ

mutual
  pub data Tactic : Type 0 where
    -- the first of these that doesn't fail
    Choice : Tactics → Tactic
    -- one after another, each on every goal that is left
    Sequence : Tactics → Tactic
    -- each on a goal of its own; the byte of its `<(`
    Branch : ℕ → Tactics → Tactic
    -- a strategy again and again, so many times
    Repeat : Tactic → ℕ → Tactic
    One : Atom → Tactic

  -- a list of strategies
  pub data Tactics : Type 0 where
    no_parts : Tactics
    part : Tactic → Tactics → Tactics

-- how many there are
abbrev pub count : Tactics → ℕ
count no_parts = 0
count (part t rest) = count rest + 1

-- Where a strategy stands: behind a part of a sequence, or elsewhere.
pub data Position : Type 0 where
  Behind : Position
  Elsewhere : Position

abbrev mutual
  -- each choice and each sequence has at least two parts, each branch at least one, and a branch stands behind a part of a
  -- sequence alone
  pub StandsAt : Position → Tactic → Type 0
  StandsAt position (Choice parts) = (2 ≤ count parts) × StandAt Elsewhere Elsewhere parts
  StandsAt position (Sequence parts) = (2 ≤ count parts) × StandAt Elsewhere Behind parts
  StandsAt Behind (Branch at parts) = (1 ≤ count parts) × StandAt Elsewhere Elsewhere parts
  StandsAt Elsewhere (Branch at parts) = ⊥
  StandsAt position (Repeat body times) = StandsAt Elsewhere body
  StandsAt position (One atom) = Unit {0}

  -- the first of these stands at one position, and each that follows at another
  pub StandAt : Position → Position → Tactics → Type 0
  StandAt first others no_parts = Unit {0}
  StandAt first others (part t rest) = StandsAt first t × StandAt others others rest

-- a strategy of this shape
abbrev pub IsShaped : Tactic → Type 0
IsShaped t = StandsAt Elsewhere t

abbrev mutual
  -- each atom of the strategy has the property
  pub EachAtom : (Atom → Type 0) → Tactic → Type 0
  EachAtom Is (Choice parts) = EachAtomOf Is parts
  EachAtom Is (Sequence parts) = EachAtomOf Is parts
  EachAtom Is (Branch at parts) = EachAtomOf Is parts
  EachAtom Is (Repeat body times) = EachAtom Is body
  EachAtom Is (One atom) = Is atom

  pub EachAtomOf : (Atom → Type 0) → Tactics → Type 0
  EachAtomOf Is no_parts = Unit {0}
  EachAtomOf Is (part t rest) = EachAtom Is t × EachAtomOf Is rest
