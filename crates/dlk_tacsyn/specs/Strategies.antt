-- What a text says as a strategy, and why it says none.
use Rattle.std.specs.Prelude.{◌≡◌, ℕ, ◌+◌, nat_le, nat_lt, List, [], ◌∷◌, ◌++◌, Option, Some, None, option_map, option_and_then, MatchOption, if◌then◌else◌}
use Rattle.dlk_tree.specs.Trees.{Tree}
use Rattle.dlk_calculus.specs.Pairs.{Extra}
use Rattle.dlk_grammar.specs.declared.token.Form.TheVariants.{Formula, Term}
use Rattle.dlk_grammar.specs.declared.token.Dots.TheVariants.{Refused}
use Rattle.dlk_grammar.specs.Texts.{TreeText, ExtraText}
use Rattle.dlk_sequent.specs.declared.sequent.Place.{Place}
use Rattle.dlk_sequent.specs.declared.sequent.Place.TheVariants.{Ante, Succ}
use Rattle.dlk_scripts.specs.Scripts as script
use Rattle.dlk_scripts.specs.Texts.{IsScript, Stops}
use Rattle.dlk_tacsyn.specs.declared.kind.Kind.{Kind}
use Rattle.dlk_tacsyn.specs.declared.kind.Kind.TheVariants.{FixedPlace, AnyPlace, QuotedFormula, QuotedTerm, AName, QuotedExtra}
use Rattle.dlk_tacsyn.specs.declared.argument.Written.{Written}
use Rattle.dlk_tacsyn.specs.declared.argument.Written.TheVariants as written
use Rattle.dlk_tacsyn.specs.Tactics.{Argument, AtPlace, AnyLeft, AnyRight, Word, GivenFormula, GivenTerm, GivenExtra, Tactic, Choice, Sequence, Branch, Repeat}
use Rattle.dlk_tacsyn.specs.Tactics.{One, Tactics}
use Rattle.dlk_tacsyn.specs.Tactics.{no_parts, part}
use Rattle.dlk_tacsyn.specs.Rows.{Row, text_row_of}
use Rattle.dlk_tacsyn.specs.Faults.{Fault, Nesting, UnknownAtom, Arguments}
use Rattle.dlk_tacsyn.specs.Faults as fault

-- a strategy, or the first fault in its text
pub data Outcome (A : Type 0) : Type 0 where
  Says : A → Outcome A
  Fails : Fault → Outcome A

infixl 10 ◌>>=◌
abbrev pub ◌>>=◌ : {A B : Type 0} → Outcome A → (A → Outcome B) → Outcome B
Says a >>= next = next a
Fails f >>= next = Fails f

-- The limits: how many brackets may be open, and how often a strategy may be repeated.
abbrev pub most_open : ℕ
most_open = 64

abbrev pub most_times : ℕ
most_times = 1000

-- an argument as it is written: its place is the side with the first number, and the numbers behind points are the path
abbrev pub side_of : script.Place → Place
side_of (script.Right at n) = Succ n
side_of (script.Left minus at n) = Ante n
side_of (script.Below p point at n) = side_of p

abbrev pub path_of : script.Place → List ℕ
path_of (script.Right at n) = []
path_of (script.Left minus at n) = []
path_of (script.Below p point at n) = path_of p ++ n ∷ []

abbrev pub written_of : script.Argument → Written
written_of (script.At p) = written.At (side_of p) (path_of p)
written_of (script.AnyLeft at) = written.AnyLeft
written_of (script.AnyRight at) = written.AnyRight
written_of (script.Word' at x) = written.Word x
written_of (script.Quoted at text) = written.Quoted text

abbrev pub all_written : script.Arguments → List Written
all_written (script.OneArgument a) = written_of a ∷ []
all_written (script.ThenArgument l comma a) = all_written l ++ written_of a ∷ []

-- strategies as parts of one
abbrev pub parts : List Tactic → Tactics
parts [] = no_parts
parts (t ∷ ts) = part t (parts ts)

-- a choice or a sequence of one part is that part
abbrev pub whole : (Tactics → Tactic) → List Tactic → Tactic
whole make [] = make no_parts
whole make (t ∷ []) = t
whole make (t ∷ u ∷ ts) = make (parts (t ∷ u ∷ ts))

-- a bracket at this byte, in so many open ones, round what gives this
abbrev pub opened : {A : Type 0} → ℕ → ℕ → Outcome A → Outcome A
opened level at inside = if nat_lt level most_open then inside else Fails (Nesting at)

-- a strategy, repeated so often as the number at this byte says
abbrev pub repeated : ℕ → ℕ → Tactic → Outcome Tactic
repeated at n t = if nat_le n most_times then Says (Repeat t n) else Fails (fault.Repeat at)

-- the place that is written, if it is one
abbrev pub place_of : Written → Option Argument
place_of (written.At place path) = Some (AtPlace place path)
place_of written.AnyLeft = None
place_of written.AnyRight = None
place_of (written.Word x) = None
place_of (written.Quoted text) = None

abbrev pub place_or_locator_of : Written → Option Argument
place_or_locator_of (written.At place path) = Some (AtPlace place path)
place_or_locator_of written.AnyLeft = Some AnyLeft
place_or_locator_of written.AnyRight = Some AnyRight
place_or_locator_of (written.Word x) = None
place_or_locator_of (written.Quoted text) = None

abbrev pub word_of : Written → Option Argument
word_of (written.At place path) = None
word_of written.AnyLeft = None
word_of written.AnyRight = None
word_of (written.Word x) = Some (Word x)
word_of (written.Quoted text) = None

-- what is quoted, as it is read
abbrev pub quoted_of : {A : Type 0} → (A → Argument) → (List ℕ → Option A) → Written → Option Argument
quoted_of make read (written.At place path) = None
quoted_of make read written.AnyLeft = None
quoted_of make read written.AnyRight = None
quoted_of make read (written.Word x) = None
quoted_of make read (written.Quoted text) = option_map make (read text)

-- How quoted texts are read: the formula and the term of each text that is read as one, and the names and pairs of each text that is read as
-- these.
pub record Reading : Type 0 where
  pub formula : List ℕ → Option Tree
  pub term : List ℕ → Option Tree
  pub extra : List ℕ → Option Extra

module _ (read : Reading) where
  abbrev pub argument_of : Kind → Written → Option Argument
  argument_of FixedPlace w = place_of w
  argument_of AnyPlace w = place_or_locator_of w
  argument_of QuotedFormula w = quoted_of GivenFormula read.formula w
  argument_of QuotedTerm w = quoted_of GivenTerm read.term w
  argument_of AName w = word_of w
  argument_of QuotedExtra w = quoted_of GivenExtra read.extra w

  -- an argument of this kind, and those behind it
  abbrev pub followed : Kind → Written → Option (List Argument) → Option (List Argument)
  followed kind w more = option_and_then (λ a. option_map (λ all. a ∷ all) more) (argument_of kind w)

  -- the arguments of the kinds that are wanted, as many as there are, and maybe one more of the kind that may follow
  abbrev pub arguments_of : List Kind → Option Kind → List Written → Option (List Argument)
  arguments_of [] optional [] = Some []
  arguments_of [] None (w ∷ ws) = None
  arguments_of [] (Some kind) (w ∷ ws) = followed kind w (arguments_of [] None ws)
  arguments_of (kind ∷ kinds) optional [] = None
  arguments_of (kind ∷ kinds) optional (w ∷ ws) = followed kind w (arguments_of kinds optional ws)

  abbrev pub atom_given : ℕ → List ℕ → Option (List Argument) → Outcome Tactic
  atom_given at name None = Fails (Arguments at)
  atom_given at name (Some all) = Says (One (record { name = name; arguments = all; at = at }))

  abbrev pub atom_by : ℕ → List ℕ → List Written → Option Row → Outcome Tactic
  atom_by at name ws None = Fails (UnknownAtom at)
  atom_by at name ws (Some row) = atom_given at name (arguments_of row.wanted row.optional ws)

  -- the atom of this name, be it one of the library or `derive`, which stands at this byte
  abbrev pub atom_of : ℕ → List ℕ → List Written → Outcome Tactic
  atom_of at name ws = atom_by at name ws (text_row_of name)

  -- What the parts of a text say, one case a production, in so many open brackets.
  abbrev mutual
    -- the strategies between `|`
    pub choices_of : ℕ → script.Script → Outcome (List Tactic)
    choices_of level (script.OneSequence q) = sequence_of level q >>= (λ ts. Says (whole Sequence ts ∷ []))
    choices_of level (script.OrSequence s bar q) = choices_of level s >>= (λ us. sequence_of level q >>= (λ ts. Says (us ++ whole Sequence ts ∷ [])))

    -- the parts of a sequence
    pub sequence_of : ℕ → script.Sequence → Outcome (List Tactic)
    sequence_of level (script.OneRepeat r) = repeat_of level r >>= (λ t. Says (t ∷ []))
    sequence_of level (script.ThenRepeat q semicolon r) = sequence_of level q >>= (λ ts. repeat_of level r >>= (λ t. Says (ts ++ t ∷ [])))
    sequence_of level (script.ThenBranch q semicolon fork l close) =
        sequence_of level q >>= (λ ts. opened level fork (branches_of (level + 1) l) >>= (λ us. Says (ts ++ Branch fork (parts us) ∷ [])))

    -- the strategies of a branch
    pub branches_of : ℕ → script.Scripts → Outcome (List Tactic)
    branches_of level (script.OneScript s) = choices_of level s >>= (λ ts. Says (whole Choice ts ∷ []))
    branches_of level (script.ThenScript l comma s) = branches_of level l >>= (λ us. choices_of level s >>= (λ ts. Says (us ++ whole Choice ts ∷ [])))

    pub repeat_of : ℕ → script.Repeat → Outcome Tactic
    repeat_of level (script.Once p) = primary_of level p
    repeat_of level (script.Times r star at n) = repeat_of level r >>= (λ t. repeated at n t)

    pub primary_of : ℕ → script.Primary → Outcome Tactic
    primary_of level (script.Group opens s close) = opened level opens (choices_of (level + 1) s) >>= (λ ts. Says (whole Choice ts))
    primary_of level (script.Atom at x) = atom_of at x []
    primary_of level (script.Call at x opens l close) = atom_of at x (all_written l)

  -- the strategy that a script says, or the first fault in it
  abbrev pub strategy_of : script.Script → Outcome Tactic
  strategy_of s = choices_of 0 s >>= (λ ts. Says (whole Choice ts))

-- what is read is what is said, where something is
abbrev pub IsSaid : {A : Type 0} → (A → Type 0) → Option A → Type 0
IsSaid {A} Is found = MatchOption found ((a : A) → ¬ Is a) Is

-- each text as the formula that it says, if it says one, and again as the term, with no argument dot and no `_` in them, and as the names with new
-- names and the pairs that it says, if it says these
pub record IsReading (read : Reading) : Type 0 where
  pub formulas : (text : List ℕ) → IsSaid (λ (h : Tree). TreeText Formula Refused text h) (read.formula text)
  pub terms : (text : List ℕ) → IsSaid (λ (e : Tree). TreeText Term Refused text e) (read.term text)
  pub extras : (text : List ℕ) → IsSaid (λ (e : Extra). ExtraText text e) (read.extra text)

-- the bytes are a text of the grammar, and this becomes of it
pub record HasOutcome (bytes : List ℕ) (outcome : Outcome Tactic) : Type 0 where
  pub script : script.Script
  pub says : IsScript bytes script
  pub read : Reading
  pub reading : IsReading read
  pub outcome_is : strategy_of read script ≡ outcome

-- the bytes are a text of the strategy
abbrev pub StrategyText : List ℕ → Tactic → Type 0
StrategyText bytes t = HasOutcome bytes (Says t)

-- why the bytes are none: no text of the grammar goes on at a byte, or one of the grammar has a first fault
abbrev pub StrategyFault : List ℕ → Fault → Type 0
StrategyFault bytes (fault.Syntax at) = Stops bytes at
StrategyFault bytes (fault.Nesting at) = HasOutcome bytes (Fails (Nesting at))
StrategyFault bytes (fault.Repeat at) = HasOutcome bytes (Fails (fault.Repeat at))
StrategyFault bytes (fault.UnknownAtom at) = HasOutcome bytes (Fails (UnknownAtom at))
StrategyFault bytes (fault.Arguments at) = HasOutcome bytes (Fails (Arguments at))
