-- What strategies over ids stand for.
use Rattle.std.specs.Prelude.{List, map, All}
use Rattle.dlk_tree.specs.Trees.{Tree}
use Rattle.dlk_store.specs.Stores.{IsId, tree}
use Rattle.dlk_sequent.specs.Extras.{extra_at, IsKnownExtra}
use Rattle.dlk_tacsyn.specs.declared.kind.Row.{Row}
use Rattle.dlk_tacsyn.specs.declared.tactic.Arg.{Arg}
use Rattle.dlk_tacsyn.specs.declared.tactic.Arg.TheVariants as arg
use Rattle.dlk_tacsyn.specs.declared.tactic.Atom.{Atom}
use Rattle.dlk_tacsyn.specs.declared.tactic.Tactic.{Tactic, One, Choice', Seq', Branch', Repeat', Row_of-Tactic, end_of-Tactic, more_of-Tactic}
use Rattle.dlk_tacsyn.specs.Tactics.{Argument, AtPlace, AnyLeft, AnyRight, Word, GivenFormula, GivenTerm, GivenExtra}
use Rattle.dlk_tacsyn.specs.Tactics.{Atom as TreeAtom, Tactic as TreeTactic, Choice as TheChoice, Sequence, Branch as TheBranch, Repeat as TheRepeat}
use Rattle.dlk_tacsyn.specs.Tactics.{One as TheOne, Tactics, no_parts, part}
use Rattle.dlk_tacsyn.specs.Rows.{Row as TheRow}

abbrev pub row_at : Row → TheRow
row_at row = record { wanted = row.wanted.now; optional = row.optional }

-- the argument over the trees of its ids
abbrev pub argument_at : List Tree → Arg → Argument
argument_at trees (arg.At place path) = AtPlace place path
argument_at trees arg.AnyLeft = AnyLeft
argument_at trees arg.AnyRight = AnyRight
argument_at trees (arg.Word name) = Word name
argument_at trees (arg.Formula id) = GivenFormula (tree trees id)
argument_at trees (arg.Term id) = GivenTerm (tree trees id)
argument_at trees (arg.With extra) = GivenExtra (extra_at trees extra)

-- its ids are those of the store
abbrev pub ArgumentIsKnown : List Tree → Arg → Type 0
ArgumentIsKnown trees (arg.At place path) = Unit {0}
ArgumentIsKnown trees arg.AnyLeft = Unit {0}
ArgumentIsKnown trees arg.AnyRight = Unit {0}
ArgumentIsKnown trees (arg.Word name) = Unit {0}
ArgumentIsKnown trees (arg.Formula id) = IsId trees id
ArgumentIsKnown trees (arg.Term id) = IsId trees id
ArgumentIsKnown trees (arg.With extra) = IsKnownExtra trees extra

abbrev pub atom_at : List Tree → Atom → TreeAtom
atom_at trees atom = record { name = atom.name; arguments = map (argument_at trees) atom.args; at = atom.at }

abbrev pub AtomIsKnown : List Tree → Atom → Type 0
AtomIsKnown trees atom = All (ArgumentIsKnown trees) atom.args

abbrev mutual
  pub tactic_at : List Tree → Tactic → TreeTactic
  tactic_at trees (Choice' shape all) = TheChoice (tactics_at trees all)
  tactic_at trees (Seq' shape all) = Sequence (tactics_at trees all)
  tactic_at trees (Branch' at shape all) = TheBranch at (tactics_at trees all)
  tactic_at trees (Repeat' place body times) = TheRepeat (tactic_at trees body) times
  tactic_at trees (One atom) = TheOne (atom_at trees atom)

  pub tactics_at : {m : _} → List Tree → Row_of-Tactic m → Tactics
  tactics_at trees end_of-Tactic = no_parts
  tactics_at trees (more_of-Tactic t rest) = part (tactic_at trees t) (tactics_at trees rest)

-- its ids are those of the store
abbrev mutual
  pub TacticIsKnown : List Tree → Tactic → Type 0
  TacticIsKnown trees (Choice' shape all) = TacticsAreKnown trees all
  TacticIsKnown trees (Seq' shape all) = TacticsAreKnown trees all
  TacticIsKnown trees (Branch' at shape all) = TacticsAreKnown trees all
  TacticIsKnown trees (Repeat' place body times) = TacticIsKnown trees body
  TacticIsKnown trees (One atom) = AtomIsKnown trees atom

  pub TacticsAreKnown : {m : _} → List Tree → Row_of-Tactic m → Type 0
  TacticsAreKnown trees end_of-Tactic = Unit {0}
  TacticsAreKnown trees (more_of-Tactic t rest) = TacticIsKnown trees t × TacticsAreKnown trees rest
