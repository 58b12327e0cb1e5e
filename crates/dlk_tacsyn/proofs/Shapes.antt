-- Each strategy that a text says has the shape of one.
use Rattle.std.proofs.Common.{ℕ, ◌+◌, ◌≤◌, List, [], ◌∷◌, ◌++◌, Option, Some, None, arith}
use Rattle.std.specs.Prelude.{nat_lt, nat_le}
use Rattle.dlk_scripts.specs.Scripts as script
use Rattle.dlk_tacsyn.specs.declared.argument.Written.{Written}
use Rattle.dlk_tacsyn.specs.Tactics.{Argument, Tactic, Tactics, Choice, Sequence, Branch, Repeat, One, count, Position, Behind, Elsewhere, StandsAt}
use Rattle.dlk_tacsyn.specs.Tactics.{StandAt, IsShaped}
use Rattle.dlk_tacsyn.specs.Rows.{Row, text_row_of}
use Rattle.dlk_tacsyn.specs.Faults.{Nesting}
use Rattle.dlk_tacsyn.specs.Faults as fault
use Rattle.dlk_tacsyn.specs.Strategies.{Reading, Says, most_open, most_times, parts, whole, all_written, arguments_of, atom_given, atom_by, opened, choices_of}
use Rattle.dlk_tacsyn.specs.Strategies.{sequence_of, branches_of, repeat_of, primary_of, strategy_of, StrategyText}
use Rattle.dlk_tacsyn.proofs.Given.{Gives, bind_gives, if_gives, said_gives}

-- at least one, the first of which stands at one position and each that follows at another
abbrev AreParts : Position → Position → List Tactic → Type 0
AreParts first others ts = (1 ≤ count (parts ts)) × StandAt first others (parts ts)

-- what stands elsewhere may stand behind a part of a sequence
behind_too : (t : Tactic) → StandsAt Elsewhere t → StandsAt Behind t
behind_too (Choice ps) h = h
behind_too (Sequence ps) h = h
behind_too (Branch at ps) h = absurd h
behind_too (Repeat body times) h = h
behind_too (One atom) h = tt

others_last : (others : Position) (ts : List Tactic) (t : Tactic) → StandAt others others (parts ts) → StandsAt others t →
    StandAt others others (parts (ts ++ t ∷ []))
others_last others [] t h k = (k, tt)
others_last others (u ∷ ts) t h k = (h.0, others_last others ts t h.1 k)

parts_last : (first others : Position) (ts : List Tactic) (t : Tactic) → AreParts first others ts → StandsAt others t → AreParts first others (ts ++ t ∷ [])
parts_last first others [] t h k = let no : ⊥ = omega (arith, h.0) in absurd no
parts_last first others (u ∷ ts) t h k = (omega arith, (h.1.0, others_last others ts t h.1.1 k))

whole_stands : (others : Position) (make : Tactics → Tactic) → ((ps : Tactics) → 2 ≤ count ps → StandAt Elsewhere others ps → StandsAt Elsewhere (make ps)) →
    (ts : List Tactic) → AreParts Elsewhere others ts → StandsAt Elsewhere (whole make ts)
whole_stands others make m [] h = let no : ⊥ = omega (arith, h.0) in absurd no
whole_stands others make m (t ∷ []) h = h.1.0
whole_stands others make m (t ∷ u ∷ ts) h = m (parts (t ∷ u ∷ ts)) (omega arith) h.1

choice_stands : (ts : List Tactic) → AreParts Elsewhere Elsewhere ts → StandsAt Elsewhere (whole Choice ts)
choice_stands ts h = whole_stands Elsewhere Choice (λ ps two all. (two, all)) ts h

sequence_stands : (ts : List Tactic) → AreParts Elsewhere Behind ts → StandsAt Elsewhere (whole Sequence ts)
sequence_stands ts h = whole_stands Behind Sequence (λ ps two all. (two, all)) ts h

one_part : (others : Position) (t : Tactic) → StandsAt Elsewhere t → AreParts Elsewhere others (t ∷ [])
one_part others t h = (omega arith, (h, tt))

module _ (read : Reading) where
  given_stands : (at : ℕ) (name : List ℕ) (all : Option (List Argument)) → Gives IsShaped (atom_given read at name all)
  given_stands at name None = tt
  given_stands at name (Some all) = tt

  by_stands : (at : ℕ) (name : List ℕ) (ws : List Written) (row : Option Row) → Gives IsShaped (atom_by read at name ws row)
  by_stands at name ws None = tt
  by_stands at name ws (Some row) = given_stands at name (arguments_of read row.wanted row.optional ws)

  mutual
    choices_stand : (n : ℕ) (s : script.Script) → Gives (AreParts Elsewhere Elsewhere) (choices_of read n s)
    choices_stand n (script.OneSequence q) =
        bind_gives (AreParts Elsewhere Behind) (AreParts Elsewhere Elsewhere) (sequence_of read n q) _ (sequence_stand n q)
        (λ ts k. one_part Elsewhere (whole Sequence ts) (sequence_stands ts k))
    choices_stand n (script.OrSequence s bar q) =
        bind_gives (AreParts Elsewhere Elsewhere) (AreParts Elsewhere Elsewhere) (choices_of read n s) _ (choices_stand n s)
        (λ us j. bind_gives (AreParts Elsewhere Behind) (AreParts Elsewhere Elsewhere) (sequence_of read n q) _ (sequence_stand n q)
        (λ ts k. parts_last Elsewhere Elsewhere us (whole Sequence ts) j (sequence_stands ts k)))

    sequence_stand : (n : ℕ) (q : script.Sequence) → Gives (AreParts Elsewhere Behind) (sequence_of read n q)
    sequence_stand n (script.OneRepeat r) =
        bind_gives IsShaped (AreParts Elsewhere Behind) (repeat_of read n r) _ (repeat_stands n r) (λ t k. one_part Behind t k)
    sequence_stand n (script.ThenRepeat q semicolon r) =
        bind_gives (AreParts Elsewhere Behind) (AreParts Elsewhere Behind) (sequence_of read n q) _ (sequence_stand n q)
        (λ ts j. bind_gives IsShaped (AreParts Elsewhere Behind) (repeat_of read n r) _ (repeat_stands n r)
        (λ t k. parts_last Elsewhere Behind ts t j (behind_too t k)))
    sequence_stand n (script.ThenBranch q semicolon fork l close) =
        bind_gives (AreParts Elsewhere Behind) (AreParts Elsewhere Behind) (sequence_of read n q) _ (sequence_stand n q)
        (λ ts j. bind_gives (AreParts Elsewhere Elsewhere) (AreParts Elsewhere Behind) (opened n fork (branches_of read (n + 1) l)) _
        (if_gives (AreParts Elsewhere Elsewhere) (nat_lt n most_open) (branches_of read (n + 1) l) (Nesting fork) (branches_stand (n + 1) l))
        (λ us k. parts_last Elsewhere Behind ts (Branch fork (parts us)) j k))

    branches_stand : (n : ℕ) (l : script.Scripts) → Gives (AreParts Elsewhere Elsewhere) (branches_of read n l)
    branches_stand n (script.OneScript s) =
        bind_gives (AreParts Elsewhere Elsewhere) (AreParts Elsewhere Elsewhere) (choices_of read n s) _ (choices_stand n s)
        (λ ts k. one_part Elsewhere (whole Choice ts) (choice_stands ts k))
    branches_stand n (script.ThenScript l comma s) =
        bind_gives (AreParts Elsewhere Elsewhere) (AreParts Elsewhere Elsewhere) (branches_of read n l) _ (branches_stand n l)
        (λ us j. bind_gives (AreParts Elsewhere Elsewhere) (AreParts Elsewhere Elsewhere) (choices_of read n s) _ (choices_stand n s)
        (λ ts k. parts_last Elsewhere Elsewhere us (whole Choice ts) j (choice_stands ts k)))

    repeat_stands : (n : ℕ) (r : script.Repeat) → Gives IsShaped (repeat_of read n r)
    repeat_stands n (script.Once p) = primary_stands n p
    repeat_stands n (script.Times r star at m) =
        bind_gives IsShaped IsShaped (repeat_of read n r) _ (repeat_stands n r)
        (λ t k. if_gives IsShaped (nat_le m most_times) (Says (Repeat t m)) (fault.Repeat at) k)

    primary_stands : (n : ℕ) (p : script.Primary) → Gives IsShaped (primary_of read n p)
    primary_stands n (script.Group opens s close) =
        bind_gives (AreParts Elsewhere Elsewhere) IsShaped (opened n opens (choices_of read (n + 1) s)) _
        (if_gives (AreParts Elsewhere Elsewhere) (nat_lt n most_open) (choices_of read (n + 1) s) (Nesting opens) (choices_stand (n + 1) s))
        (λ ts k. choice_stands ts k)
    primary_stands n (script.Atom at x) = by_stands at x [] (text_row_of x)
    primary_stands n (script.Call at x opens l close) = by_stands at x (all_written l) (text_row_of x)

  strategy_stands : (s : script.Script) → Gives IsShaped (strategy_of read s)
  strategy_stands s = bind_gives (AreParts Elsewhere Elsewhere) IsShaped (choices_of read 0 s) _ (choices_stand 0 s) (λ ts k. choice_stands ts k)

pub text_stands : (bytes : List ℕ) (t : Tactic) → StrategyText bytes t → IsShaped t
text_stands bytes t is = said_gives IsShaped (strategy_of is.read is.script) t is.outcome_is (strategy_stands is.read is.script)
