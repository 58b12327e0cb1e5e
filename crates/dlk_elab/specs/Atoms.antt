-- The atoms of the strategy language: what each asks of the kernel on a goal, the steps that it gives, and its fault.
pub use Rattle.dlk_tacsyn.specs.Rows.{IsNamed, HasNames}
pub use Rattle.dlk_uses.specs.Taking.{FirstFault}
pub use Rattle.dlk_elab.specs.declared.fault.FailWhy.{FailWhy}
pub use Rattle.dlk_elab.specs.declared.fault.FailWhy.TheVariants.{UnknownName, NoPlace, NoMatch, Step as AtStep}
use Rattle.std.specs.Prelude.{◌≡◌, ◌≢◌, IsTrue, ◌<◌, ◌≤◌, ◌+◌, ◌⊎◌, ℕ, List, [], ◌∷◌, ◌++◌, length, Option, Some, None, All, Any, codes}
use Rattle.dlk_tree.specs.Trees.{Tree}
use Rattle.dlk_calculus.specs.declared.reason.Reason.{Reason}
use Rattle.dlk_calculus.specs.declared.reason.Reason.TheVariants.{NotEqual, WrongShape}
use Rattle.dlk_calculus.specs.Axioms.{axiom_named}
use Rattle.dlk_calculus.specs.Notation.{box}
use Rattle.dlk_calculus.specs.Pairs.{Extra}
use Rattle.dlk_calculus.specs.Paths.{subtree}
use Rattle.dlk_calculus.specs.Places.{At, put_all}
use Rattle.dlk_calculus.specs.Sequents.{Sequent}
use Rattle.dlk_calculus.specs.Rules.{Rule, Close, Arguments, OnePlace, TwoPlaces, PlaceAndFormula, OneFormula, PlaceAndName, word_of, arguments_of}
use Rattle.dlk_calculus.specs.Provables.{Provable}
use Rattle.dlk_calculus.specs.Steps.{Step, Leaf, Apply, Merge, IsGoal}
use Rattle.dlk_sequent.specs.declared.sequent.Place.{Place}
use Rattle.dlk_sequent.specs.declared.sequent.Place.TheVariants.{Ante, Succ}
use Rattle.dlk_rules.specs.declared.arguments.Side.{Side}
use Rattle.dlk_rules.specs.declared.arguments.Side.TheVariants.{Left, Right}
use Rattle.dlk_rules.specs.declared.rule.RuleWord.{RuleWord}
use Rattle.dlk_rules.specs.Steps.{side_of}
use Rattle.dlk_rules.specs.Words.{text_of}
use Rattle.dlk_kernel.specs.Taken.{Takes}
use Rattle.dlk_tacsyn.specs.Tactics.{Argument, AtPlace, AnyLeft, AnyRight, Word, GivenFormula, GivenTerm, GivenExtra, Atom}
use Rattle.dlk_uses.specs.Uses.{Direction, Forwards, Backwards, Use, key, may_stand, formula_at, instance, generalizing, cutting_box, FinishesBehind}
use Rattle.dlk_match.specs.Matching.{Match}

-- Arguments:

-- place i on this side
abbrev pub place_on : Side → ℕ → Place
place_on Left i = Ante i
place_on Right i = Succ i

abbrev pub other_side : Side → Side
other_side Left = Right
other_side Right = Left

-- the argument is place i on the side, if there is one, without a path
abbrev pub IsThere : Option Side → ℕ → Argument → Type 0
IsThere None i argument = ⊥
IsThere (Some side) i argument = argument ≡ AtPlace (place_on side i) []

-- the argument is a place that has a path, or is on the other side
pub data IsElsewhere (side : Side) : Argument → Type 0 where
  further : (place : Place) (kid : ℕ) (path : List ℕ) → IsElsewhere side (AtPlace place (kid ∷ path))
  across : (i : ℕ) (path : List ℕ) → IsElsewhere side (AtPlace (place_on (other_side side) i) path)

-- AreFor side given arguments: what an atom is given says these arguments of a rule, whose places are on this side. A formula and a name
-- come before a place. One case a shape.
pub data AreFor (side : Option Side) : List Argument → Arguments → Type 0 where
  one_place : {a : Argument} {i : ℕ} → IsThere side i a → AreFor side (a ∷ []) (OnePlace i)
  two_places : {a b : Argument} {i k : ℕ} → IsThere side i a → IsThere side k b → AreFor side (a ∷ b ∷ []) (TwoPlaces i k)
  place_and_formula : {a : Argument} {i : ℕ} (h : Tree) → IsThere side i a → AreFor side (GivenFormula h ∷ a ∷ []) (PlaceAndFormula i h)
  one_formula : (h : Tree) → AreFor side (GivenFormula h ∷ []) (OneFormula h)
  place_and_name : {a : Argument} {i : ℕ} (y : List ℕ) → IsThere side i a → AreFor side (Word y ∷ a ∷ []) (PlaceAndName i y)

-- the argument is no locator
abbrev pub IsFixed : Argument → Type 0
IsFixed (AtPlace place path) = Unit {0}
IsFixed AnyLeft = ⊥
IsFixed AnyRight = ⊥
IsFixed (Word name) = Unit {0}
IsFixed (GivenFormula h) = Unit {0}
IsFixed (GivenTerm e) = Unit {0}
IsFixed (GivenExtra extra) = Unit {0}

abbrev pub HasNoLocator : Atom → Type 0
HasNoLocator atom = All IsFixed atom.arguments

-- Formulas that are the same:

-- the same formula stands at place i on the left and at place j on the right
abbrev pub AreSame : Sequent → ℕ → ℕ → Type 0
AreSame s i j = (f : Tree) × At s.ante i f × At s.succ j f

-- AreSame, and i is the least such place, and j the least with it
pub record AreFirstSame (s : Sequent) (i j : ℕ) : Type 0 where
  pub same : AreSame s i j
  pub least : (k l : ℕ) → AreSame s k l → (i < k) ⊎ ((i ≡ k) × (j ≤ l))

-- the goal is one of the fact's
abbrev pub HasGoalAt : List Provable → ℕ → ℕ → Type 0
HasGoalAt rows fact goal = (s : Sequent) × IsGoal rows fact goal s

-- Uses of axioms:

-- the arguments of an atom that uses an axiom: its name, a place with a path, and what may be given beside them
pub data UseArguments : List Argument → (name : List ℕ) (place : Place) (path : List ℕ) (given : Extra) → Type 0 where
  alone : {name : List ℕ} {place : Place} {path : List ℕ} →
      UseArguments (Word name ∷ AtPlace place path ∷ []) name place path (record { renames = []; pairs = [] })
  with_extra : {name : List ℕ} {place : Place} {path : List ℕ} {given : Extra} →
      UseArguments (Word name ∷ AtPlace place path ∷ GivenExtra given ∷ []) name place path given

-- the name of the atom that uses an axiom in this direction
abbrev pub word_of_direction : Direction → List ℕ
word_of_direction Forwards = codes "useAt"
word_of_direction Backwards = codes "useBack"

-- the atom uses the axiom of this name
abbrev pub NamesAxiom : Atom → Direction → (name : List ℕ) (place : Place) (path : List ℕ) (given : Extra) → Type 0
NamesAxiom atom direction name place path given = (atom.name ≡ word_of_direction direction) × UseArguments atom.arguments name place path given

-- the atom uses an axiom, and there is an axiom of this name
pub record IsUse (atom : Atom) (used : Use) : Type 0 where
  pub name : List ℕ
  pub names : NamesAxiom atom used.direction name used.place used.path used.given
  pub is_axiom : axiom_named name ≡ Some used.its_axiom

-- the formula e stands at the place, and the subtree at the path of it
pub record StandsThere (s : Sequent) (used : Use) (e subtree_there : Tree) : Type 0 where
  pub formula : formula_at s used.place ≡ Some e
  pub inside : subtree e used.path ≡ Some subtree_there

-- what is looked for of the axiom matches the subtree, with these names and replacements
abbrev pub MatchesThere : Use → Tree → Extra → Type 0
MatchesThere used t extra = Match (key used.its_axiom.form used.direction used.place used.its_axiom.formula) used.its_axiom.own_names t used.given extra

-- the name of an atom whose steps use axioms or axiomatic rules
abbrev pub IsByAxioms : List ℕ → Type 0
IsByAxioms name = (name ≡ codes "G") ⊎ ((name ≡ codes "boxCut") ⊎ ((name ≡ codes "useAt") ⊎ (name ≡ codes "useBack")))

-- Boxes:

-- the atom is one for a box, and this is its place
pub data IsForBox : Atom → Argument → Type 0 where
  generalizes : {atom : Atom} {p : Argument} → atom.name ≡ codes "G" → atom.arguments ≡ p ∷ [] → IsForBox atom p
  cuts : {atom : Atom} {p : Argument} (h : Tree) → atom.name ≡ codes "boxCut" → atom.arguments ≡ GivenFormula h ∷ p ∷ [] → IsForBox atom p

-- the formula e stands at place j on the right, without a path
pub record IsOnTheRight (s : Sequent) (p : Argument) (j : ℕ) (e : Tree) : Type 0 where
  pub place : p ≡ AtPlace (Succ j) []
  pub stands : At s.succ j e

-- what an atom asks for
pub data Asked : Type 0 where
  -- these steps, in turn
  Steps : List Step → Asked
  -- an instance of an axiom with these names and replacements, and then what uses it on the formula at the place
  Instance : Use → Extra → Tree → Asked
  -- none
  Refused : FailWhy → Asked

-- Asks rows fact goal s atom asked: what the atom asks for on this goal of this fact, which is the sequent s, where there are so many rows.
-- `close` asks for the rule of that name at the first formulas that are the same, and each other rule's atom for its rule.
pub data Asks (rows fact goal : ℕ) (s : Sequent) (atom : Atom) : Asked → Type 0 where
  nil : atom.name ≡ codes "nil" → Asks rows fact goal s atom (Steps [])
  close : {i j : ℕ} → atom.name ≡ codes "close" → AreFirstSame s i j → Asks rows fact goal s atom (Steps (Apply fact goal (Close i j) ∷ []))
  nothing_same : atom.name ≡ codes "close" → ((i j : ℕ) → ¬ AreSame s i j) → Asks rows fact goal s atom (Refused (AtStep NotEqual))
  leaf : atom.name ≡ codes "leaf" → Asks rows fact goal s atom (Steps (Leaf s ∷ Merge fact goal (rows + 1) ∷ []))
  a_rule : (word : RuleWord) (rule : Rule) → atom.name ≡ text_of word → word_of rule ≡ text_of word →
      AreFor (side_of word) atom.arguments (arguments_of rule) → Asks rows fact goal s atom (Steps (Apply fact goal rule ∷ []))
  elsewhere : (word : RuleWord) (side : Side) → atom.name ≡ text_of word → side_of word ≡ Some side → Any (IsElsewhere side) atom.arguments →
      Asks rows fact goal s atom (Refused NoPlace)
  generalize : (j : ℕ) (b f : Tree) → atom.name ≡ codes "G" → atom.arguments ≡ AtPlace (Succ j) [] ∷ [] → At s.succ j (box b f) →
      Asks rows fact goal s atom (Steps (generalizing rows (record { fact = fact; goal = goal; s = s }) j b f))
  cut_box : (j : ℕ) (b f h : Tree) → atom.name ≡ codes "boxCut" → atom.arguments ≡ GivenFormula h ∷ AtPlace (Succ j) [] ∷ [] →
      At s.succ j (box b f) → Asks rows fact goal s atom (Steps (cutting_box rows (record { fact = fact; goal = goal; s = s }) j b f h))
  no_box : (p : Argument) (j : ℕ) (e : Tree) → IsForBox atom p → IsOnTheRight s p j e → ((b f : Tree) → e ≢ box b f) →
      Asks rows fact goal s atom (Refused (AtStep WrongShape))
  not_on_the_right : (p : Argument) → IsForBox atom p → ((j : ℕ) (e : Tree) → ¬ IsOnTheRight s p j e) → Asks rows fact goal s atom (Refused NoPlace)
  use_axiom : (used : Use) (e t : Tree) (extra : Extra) → IsUse atom used → StandsThere s used e t →
      IsTrue (may_stand used.its_axiom.form used.direction used.place used.path) → MatchesThere used t extra →
      Asks rows fact goal s atom (Instance used extra e)
  no_axiom : (direction : Direction) (name : List ℕ) (place : Place) (path : List ℕ) (given : Extra) →
      NamesAxiom atom direction name place path given → axiom_named name ≡ None → Asks rows fact goal s atom (Refused UnknownName)
  not_there : (used : Use) → IsUse atom used → ((e t : Tree) → ¬ StandsThere s used e t) → Asks rows fact goal s atom (Refused NoPlace)
  no_match : (used : Use) (e t : Tree) → IsUse atom used → StandsThere s used e t →
      (IsTrue (may_stand used.its_axiom.form used.direction used.place used.path) → (extra : Extra) → ¬ MatchesThere used t extra) →
      Asks rows fact goal s atom (Refused NoMatch)

-- the steps that make the instance of an axiom
abbrev pub instance_of : ℕ → Use → Extra → List Step
instance_of rows used extra = instance rows used.its_axiom.name extra

-- the atom gives these steps on a goal of a fact, and with them these rows
pub data AtomSteps (rows : List Provable) (fact goal : ℕ) (atom : Atom) : List Step → List Provable → Type 0 where
  asked : {steps : List Step} {after : List Provable} (s : Sequent) → IsGoal rows fact goal s →
      Asks (length rows) fact goal s atom (Steps steps) → Takes rows steps after → AtomSteps rows fact goal atom steps after
  uses : {after : List Provable} (s : Sequent) (used : Use) (extra : Extra) (e : Tree) (between : List Provable) (rest : List Step) →
      IsGoal rows fact goal s → Asks (length rows) fact goal s atom (Instance used extra e) →
      Takes rows (instance_of (length rows) used extra) between →
      FinishesBehind between (record { fact = fact; goal = goal; s = s }) used e rest → Takes between rest after →
      AtomSteps rows fact goal atom (instance_of (length rows) used extra ++ rest) after

-- the atom gives no steps on a goal of a fact: it asks for none, or one isn't taken
pub data AtomFault (rows : List Provable) (fact goal : ℕ) (atom : Atom) : FailWhy → Type 0 where
  asks_none : {why : FailWhy} (s : Sequent) → IsGoal rows fact goal s → Asks (length rows) fact goal s atom (Refused why) →
      AtomFault rows fact goal atom why
  not_taken : {why : Reason} (s : Sequent) (steps : List Step) → IsGoal rows fact goal s → Asks (length rows) fact goal s atom (Steps steps) →
      FirstFault rows steps why → AtomFault rows fact goal atom (AtStep why)
  not_instantiated : {why : Reason} (s : Sequent) (used : Use) (extra : Extra) (e : Tree) → IsGoal rows fact goal s →
      Asks (length rows) fact goal s atom (Instance used extra e) → FirstFault rows (instance_of (length rows) used extra) why →
      AtomFault rows fact goal atom (AtStep why)
  not_used : {why : Reason} (s : Sequent) (used : Use) (extra : Extra) (e : Tree) (between : List Provable) (rest : List Step) →
      IsGoal rows fact goal s → Asks (length rows) fact goal s atom (Instance used extra e) →
      Takes rows (instance_of (length rows) used extra) between →
      FinishesBehind between (record { fact = fact; goal = goal; s = s }) used e rest → FirstFault between rest why →
      AtomFault rows fact goal atom (AtStep why)

-- Replaces before goal after new: the last row is as it was, but for these goals in the place of one of its goals, and for its leaves.
pub record Replaces (before : List Provable) (goal : ℕ) (after : List Provable) (new : List Sequent) : Type 0 where
  pub old_last : Provable
  pub new_last : Provable
  pub old_is : At before (length before) old_last
  pub new_is : At after (length after) new_last
  pub conclusion : new_last.conclusion ≡ old_last.conclusion
  pub goals : new_last.goals ≡ put_all old_last.goals goal new
