-- What a replay answers and leaves.
use Rattle.std.specs.Prelude.{◌≡◌, ◌≢◌, ◌≤◌, ◌⊎◌, ◌+◌, ◌-◌, ◌++◌, ℕ, Bool, true, false, List, [], ◌∷◌, length, take, All}
use Rattle.dlk_tree.specs.Trees.{Tree}
use Rattle.dlk_calculus.specs.Places.{At}
use Rattle.dlk_calculus.specs.Provables.{Provable}
use Rattle.dlk_calculus.specs.Steps.{Step, Adds, Fault}
use Rattle.dlk_rules.specs.Steps.{step_at, HasKnownIds}
use Rattle.dlk_guard.specs.Guarded.{Line as SeenLine, lines as seen_lines}
use Rattle.dlk_guard.specs.Watched.{after_all}
use Rattle.dlk_store.specs.declared.Id.{Id}
use Rattle.dlk_store.specs.Stores.{IsId, tree}
use Rattle.dlk_kernel.specs.declared.fault.StepFault.{StepFault}
use Rattle.dlk_kernel.specs.declared.fault.StepFault.TheVariants as step_fault
use Rattle.dlk_lines.specs.declared.fault.LineFault.{LineFault}
use Rattle.dlk_lines.specs.declared.fault.LineFault.TheVariants as line_fault
use Rattle.dlk_termtext.specs.Lines as full
use Rattle.dlk_nodes.specs.Files.{head_line}
use Rattle.dlk_nodes.specs.Lines.{Line, OfNode, Numbered, Done, IsLine}
use Rattle.dlk_nodes.specs.Tables.{nodes_at}
use Rattle.dlk_replay.specs.Formats.{HasOtherNumber, said_of, begins_two}
use Rattle.dlk_replay.specs.Files.{Verdict, bad, FileRows, FileSteps}
use Rattle.dlk_replay.specs.declared.fault.LineWhy.{LineWhy}
use Rattle.dlk_replay.specs.declared.fault.LineWhy.TheVariants as why
use Rattle.dlk_replay.specs.declared.fault.Ending.{Ending}
use Rattle.dlk_replay.specs.declared.version.Version.{Version}
use Rattle.dlk_replay.specs.declared.version.Version.TheVariants as version
use Rattle.dlk_replay.specs.declared.taking.Taken.{Taken}
use Rattle.dlk_replay.specs.declared.taking.Taken.TheVariants as taken
use Rattle.dlk_replay.specs.declared.fault.ReplayFault.{ReplayFault}
use Rattle.dlk_replay.specs.declared.fault.ReplayFault.TheVariants.{Bad, Memory}

-- the fault of these lines; want of memory is free
abbrev pub IsReplayFaultOf : List (List ℕ) → ReplayFault → Type 0
IsReplayFaultOf lines (Bad line reason) = Verdict lines (bad line reason)
IsReplayFaultOf lines Memory = Unit {0}

-- the rows that a fault leaves: those of the lines before it, and for want of memory those of some first lines
abbrev pub LeavesRows : List (List ℕ) → List Provable → ReplayFault → Type 0
LeavesRows lines rows (Bad line reason) = FileRows (take (line - 1) lines) rows
LeavesRows lines rows Memory = (n : ℕ) × FileRows (take n lines) rows

-- the fault of the line at this place whose text says nothing
abbrev pub of_text : ℕ → LineFault → ReplayFault
of_text place line_fault.Malformed = Bad place why.Malformed
of_text place line_fault.Memory = Memory

-- and of one whose step the kernel doesn't take
abbrev pub of_step : ℕ → StepFault → ReplayFault
of_step place (step_fault.Refused reason) = Bad place (why.Step reason)
of_step place step_fault.Memory = Memory

-- ---- one line

-- what is a line of version 1, in which no node stands
abbrev pub IsLineInFull : List ℕ → Line → Type 0
IsLineInFull text (OfNode number t) = ⊥
IsLineInFull text (Numbered number step) = full.IsLine text (full.Numbered number step)
IsLineInFull text Done = full.IsLine text full.Done

-- what is a line of a version, behind the nodes of its table
abbrev pub IsLineOf : List Tree → Version → List ℕ → Line → Type 0
IsLineOf trees version.One = IsLineInFull
IsLineOf trees (version.Two ids) = IsLine (nodes_at trees ids)

-- how many nodes there are
abbrev pub nodes_of : Version → ℕ
nodes_of version.One = 0
nodes_of (version.Two ids) = length ids

-- their ids are those of the store
abbrev pub AreKnownNodes : List Tree → Version → Type 0
AreKnownNodes trees version.One = Unit {0}
AreKnownNodes trees (version.Two ids) = All (IsId trees) ids

-- why a line is not as it must be, after so many nodes and these rows. One case a reason.
abbrev pub IsBadLine : (List ℕ → Line → Type 0) → ℕ → List Provable → List ℕ → LineWhy → Type 0
IsBadLine Is nodes rows text why.Malformed = (line : Line) → ¬ Is text line
IsBadLine Is nodes rows text why.WrongNumber = (line : Line) × Is text line × (said_of nodes (length rows) line ≡ HasOtherNumber)
IsBadLine Is nodes rows text why.NoEnd = ⊥
IsBadLine Is nodes rows text (why.Step reason) = (step : Step) × Is text (Numbered (length rows + 1) step) × Fault rows step reason

-- the fault of the line at this place; want of memory is free
abbrev pub IsLineFault : (List ℕ → Line → Type 0) → ℕ → ℕ → List Provable → List ℕ → ReplayFault → Type 0
IsLineFault Is nodes place rows text (Bad at reason) = (at ≡ place) × IsBadLine Is nodes rows text reason
IsLineFault Is nodes place rows text Memory = Unit {0}

-- the fault of a step whose line stands at this place and has this number
abbrev pub IsStepFault : (place number : ℕ) → List Provable → Step → ReplayFault → Type 0
IsStepFault place number rows step (Bad at why.WrongNumber) = (at ≡ place) × (number ≢ length rows + 1)
IsStepFault place number rows step (Bad at (why.Step reason)) = (at ≡ place) × (number ≡ length rows + 1) × Fault rows step reason
IsStepFault place number rows step (Bad at _) = ⊥
IsStepFault place number rows step Memory = Unit {0}

-- the fault of a node whose line stands at this place and has this number, behind so many nodes
abbrev pub IsNodeFault : (place number nodes : ℕ) → ReplayFault → Type 0
IsNodeFault place number nodes (Bad at why.WrongNumber) = (at ≡ place) × (number ≢ nodes + 1)
IsNodeFault place number nodes (Bad at _) = ⊥
IsNodeFault place number nodes Memory = Unit {0}

-- a line's own number and this step, which adds a row
pub record IsNextStep (Is : List ℕ → Line → Type 0) (rows : List Provable) (text : List ℕ) (step : Step) (new : List Provable) : Type 0 where
  pub its_line : Is text (Numbered (length rows + 1) step)
  pub adds : Adds rows step new

-- a line's own number and a node, which comes behind those of the table
pub record IsNextNode (old new : List Tree) (before after : Version) (text : List ℕ) : Type 0 where
  pub ids : List Id
  pub id : Id
  pub before_is : before ≡ version.Two ids
  pub after_is : after ≡ version.Two (ids ++ id ∷ [])
  pub its_line : IsLine (nodes_at old ids) text (OfNode (length ids + 1) (tree new id))

-- What a line did to the nodes and to the rows. The ids of its step are those of the store after it.
abbrev pub Takes : (old new : List Tree) → (before after : Version) → List Provable → List ℕ → List Provable → Taken → Type 0
Takes old new before after rows text more (taken.Step step) =
    HasKnownIds new step × IsNextStep (IsLineOf old before) rows text (step_at new step) more × (after ≡ before)
Takes old new before after rows text more taken.Node = IsNextNode old new before after text × (more ≡ rows)
Takes old new before after rows text more taken.Done = IsLineOf old before text Done × (more ≡ rows)

-- How a file begins: version 2 with its head where that is the first line, and else version 1. Before the lines that are left stand as
-- many as the place.
abbrev pub Begins : List (List ℕ) → Version → List (List ℕ) → ℕ → Type 0
Begins lines version.One left place = (begins_two lines ≡ false) × (left ≡ lines) × (place ≡ 0)
Begins lines (version.Two ids) left place = (ids ≡ []) × (lines ≡ head_line ∷ left) × (place ≡ 1)

-- ---- the watcher, and the steps that are kept

-- a watcher was shown this step with the conclusion of the last row
pub record SeesLast {V : Type 0} (after : V → SeenLine → V) (rows : List Provable) (step : Step) (old new : V) : Type 0 where
  pub seen : (p : Provable) → At rows (length rows) p → new ≡ after old (record { step = step; conclusion = p.conclusion })

-- these steps where steps are kept, and else none
abbrev pub kept_of : {A : Type 0} → Bool → List A → List A
kept_of true steps = steps
kept_of false steps = []

-- What a replay has shown that was watched: the watcher has seen the steps that the lines say, each with the conclusion of the row that it
-- gave, and these steps are kept or none.
pub record Shows {V : Type 0} (after : V → SeenLine → V) (lines : List (List ℕ)) (rows : List Provable) (keep : Bool) (kept : List Step)
    (old new : V) : Type 0 where
  pub taken : List Step
  pub says : FileSteps lines taken
  pub seen : new ≡ after_all after old (seen_lines taken rows)
  pub kept_are : kept ≡ kept_of keep taken

-- the answer at the end of a file: rows were given, the last of them by the line of this number, and no line is left
pub record Ends (rows last : ℕ) (behind : List ℕ) (ending : Ending) : Type 0 where
  pub fact : ending.fact ≡ rows
  pub lines : ending.lines ≡ rows
  pub line : ending.line ≡ last
  pub some : 1 ≤ rows
  pub whole : behind ≡ []

-- the fault of a file that ends at this place: there are no rows, or lines are left
abbrev pub EndsWrong : (rows place : ℕ) → List ℕ → ReplayFault → Type 0
EndsWrong rows place behind (Bad at why.Malformed) = ((rows ≡ 0) × (at ≡ place)) ⊎ ((1 ≤ rows) × (behind ≢ []) × (at ≡ place + 1))
EndsWrong rows place behind _ = ⊥
