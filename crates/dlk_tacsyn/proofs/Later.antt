-- No strategy of the grammar has a fault of the grammar, and what becomes of the parts of a text becomes of it.
use Rattle.std.proofs.Common.{◌≡◌, ℕ, ◌+◌, Bool, true, false, List, [], Option, Some, None, sym, ap, ◌∙◌, subst}
use Rattle.std.specs.Prelude.{if◌then◌else◌, nat_lt, nat_le}
use Rattle.dlk_scripts.specs.declared.part.Part.{Part}
use Rattle.dlk_scripts.specs.declared.fault.PartsFault.{PartsFault}
use Rattle.dlk_scripts.specs.declared.fault.PartsFault.TheVariants as parts_fault
use Rattle.dlk_scripts.specs.Scripts as script
use Rattle.dlk_scripts.specs.Texts.{IsPartsFaultOf, HasParts}
use Rattle.dlk_tacsyn.specs.declared.argument.Written.{Written}
use Rattle.dlk_tacsyn.specs.Tactics.{Argument, Tactic, Repeat}
use Rattle.dlk_tacsyn.specs.Rows.{Row, text_row_of}
use Rattle.dlk_tacsyn.specs.Faults.{Fault, Nesting, UnknownAtom, Arguments, IsTacSyntaxOf, of_parts}
use Rattle.dlk_tacsyn.specs.Faults as fault
use Rattle.dlk_tacsyn.specs.Strategies.{Outcome, Reading, Says, Fails, ◌>>=◌, most_open, most_times, opened, all_written, arguments_of, atom_given}
use Rattle.dlk_tacsyn.specs.Strategies.{atom_by, choices_of, sequence_of, branches_of, repeat_of, primary_of, strategy_of, IsReading, HasOutcome}
use Rattle.dlk_tacsyn.specs.Strategies.{StrategyFault}
use Rattle.dlk_tacsyn.specs.Steps.{outcome_of}
use Rattle.dlk_tacsyn.proofs.Runs.{machine_answers}
use Rattle.dlk_tacsyn.proofs.Read.{QuotedLaws, reads, reads_all}

abbrev pub IsLaterFault : Fault → Type 0
IsLaterFault (fault.Syntax at) = ⊥
IsLaterFault (fault.Nesting at) = Unit {0}
IsLaterFault (fault.Repeat at) = Unit {0}
IsLaterFault (fault.UnknownAtom at) = Unit {0}
IsLaterFault (fault.Arguments at) = Unit {0}

abbrev pub IsLater : {A : Type 0} → Outcome A → Type 0
IsLater (Says a) = Unit {0}
IsLater (Fails f) = IsLaterFault f

bind_later : {A B : Type 0} (m : Outcome A) (next : A → Outcome B) → IsLater m → ((a : A) → IsLater (next a)) → IsLater (m >>= next)
bind_later (Says a) next h k = k a
bind_later (Fails f) next h k = h

if_later : {A : Type 0} (b : Bool) (m : Outcome A) (f : Fault) → IsLater m → IsLaterFault f → IsLater (if b then m else Fails f)
if_later true m f h k = h
if_later false m f h k = k

module _ (read : Reading) where
  given_later : (at : ℕ) (name : List ℕ) (all : Option (List Argument)) → IsLater (atom_given read at name all)
  given_later at name None = tt
  given_later at name (Some all) = tt

  by_later : (at : ℕ) (name : List ℕ) (ws : List Written) (row : Option Row) → IsLater (atom_by read at name ws row)
  by_later at name ws None = tt
  by_later at name ws (Some row) = given_later at name (arguments_of read row.wanted row.optional ws)

  mutual
    choices_later : (n : ℕ) (s : script.Script) → IsLater (choices_of read n s)
    choices_later n (script.OneSequence q) = bind_later (sequence_of read n q) _ (sequence_later n q) (λ ts. tt)
    choices_later n (script.OrSequence s bar q) =
        bind_later (choices_of read n s) _ (choices_later n s) (λ us. bind_later (sequence_of read n q) _ (sequence_later n q) (λ ts. tt))

    sequence_later : (n : ℕ) (q : script.Sequence) → IsLater (sequence_of read n q)
    sequence_later n (script.OneRepeat r) = bind_later (repeat_of read n r) _ (repeat_later n r) (λ t. tt)
    sequence_later n (script.ThenRepeat q semicolon r) =
        bind_later (sequence_of read n q) _ (sequence_later n q) (λ ts. bind_later (repeat_of read n r) _ (repeat_later n r) (λ t. tt))
    sequence_later n (script.ThenBranch q semicolon fork l close) =
        bind_later (sequence_of read n q) _ (sequence_later n q)
        (λ ts. bind_later (opened n fork (branches_of read (n + 1) l)) _
        (if_later (nat_lt n most_open) (branches_of read (n + 1) l) (Nesting fork) (branches_later (n + 1) l) tt) (λ us. tt))

    branches_later : (n : ℕ) (l : script.Scripts) → IsLater (branches_of read n l)
    branches_later n (script.OneScript s) = bind_later (choices_of read n s) _ (choices_later n s) (λ ts. tt)
    branches_later n (script.ThenScript l comma s) =
        bind_later (branches_of read n l) _ (branches_later n l) (λ us. bind_later (choices_of read n s) _ (choices_later n s) (λ ts. tt))

    repeat_later : (n : ℕ) (r : script.Repeat) → IsLater (repeat_of read n r)
    repeat_later n (script.Once p) = primary_later n p
    repeat_later n (script.Times r star at m) =
        bind_later (repeat_of read n r) _ (repeat_later n r) (λ t. if_later (nat_le m most_times) (Says (Repeat t m)) (fault.Repeat at) tt tt)

    primary_later : (n : ℕ) (p : script.Primary) → IsLater (primary_of read n p)
    primary_later n (script.Group opens s close) =
        bind_later (opened n opens (choices_of read (n + 1) s)) _
        (if_later (nat_lt n most_open) (choices_of read (n + 1) s) (Nesting opens) (choices_later (n + 1) s) tt) (λ ts. tt)
    primary_later n (script.Atom at x) = by_later at x [] (text_row_of x)
    primary_later n (script.Call at x opens l close) = by_later at x (all_written l) (text_row_of x)

  pub strategy_later : (s : script.Script) → IsLater (strategy_of read s)
  strategy_later s = bind_later (choices_of read 0 s) _ (choices_later 0 s) (λ ts. tt)

module _ (laws : QuotedLaws) where
  pub outcome : (bytes : List ℕ) (ps : List Part) (o : Outcome Tactic) → HasParts bytes ps →
      ((read : Reading) → IsReading read → outcome_of read ps ≡ o) → HasOutcome bytes o
  outcome bytes ps o has h = record {
    script = has.script;
    says = has.says;
    read = reads laws;
    reading = reads_all laws;
    outcome_is = sym (machine_answers (reads laws) has.script) ∙ ap (outcome_of (reads laws)) has.parts_are ∙ h (reads laws) (reads_all laws);
  }

  pub outcome_fault : (bytes : List ℕ) (ps : List Part) → HasParts bytes ps → (f : Fault) →
      ((read : Reading) → IsReading read → outcome_of read ps ≡ Fails f) → StrategyFault bytes f
  outcome_fault bytes ps has (fault.Syntax at) h =
      let told = outcome bytes ps (Fails (fault.Syntax at)) has h in
      absurd (subst (IsLater {A = Tactic}) told.outcome_is (strategy_later told.read told.script))
  outcome_fault bytes ps has (fault.Nesting at) h = outcome bytes ps (Fails (fault.Nesting at)) has h
  outcome_fault bytes ps has (fault.Repeat at) h = outcome bytes ps (Fails (fault.Repeat at)) has h
  outcome_fault bytes ps has (fault.UnknownAtom at) h = outcome bytes ps (Fails (fault.UnknownAtom at)) has h
  outcome_fault bytes ps has (fault.Arguments at) h = outcome bytes ps (Fails (fault.Arguments at)) has h

pub stopped : (bytes : List ℕ) (e : PartsFault) → IsPartsFaultOf bytes e → IsTacSyntaxOf (StrategyFault bytes) (of_parts e)
stopped bytes (parts_fault.Syntax at) h = h
stopped bytes parts_fault.Memory h = tt
