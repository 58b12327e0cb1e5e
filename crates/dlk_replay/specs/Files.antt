-- Proof-term files: their lines, and what becomes of them.
use Rattle.std.specs.Prelude.{ℕ, ◌+◌, ◌≤◌, ◌==◌, Bool, if◌then◌else◌, List, [], ◌∷◌, ◌++◌, length, codes}
use Rattle.dlk_calculus.specs.Provables.{Provable}
use Rattle.dlk_calculus.specs.Steps.{Step, StepOf, Fault}
use Rattle.dlk_calculus.specs.declared.reason.Reason.{Reason}
use Rattle.dlk_calculus.specs.Reasons.{reason_text}
use Rattle.dlk_replay.specs.declared.fault.LineWhy.{LineWhy}
use Rattle.dlk_replay.specs.declared.fault.LineWhy.TheVariants as why
use Rattle.dlk_replay.specs.Formats.{Said, TakesStep, HasOtherNumber, TakesNone, EndsFile, Format, SaysInFile}

-- a byte put before the first of the lines
abbrev pub before_first_line : ℕ → List (List ℕ) → List (List ℕ)
before_first_line byte [] = (byte ∷ []) ∷ []
before_first_line byte (line ∷ lines) = (byte ∷ line) ∷ lines

abbrev pub is_line_feed : ℕ → Bool
is_line_feed byte = byte == 10

-- the lines of a file: each is ended by a line feed, of which the last may be missing
abbrev pub file_lines : List ℕ → List (List ℕ)
file_lines [] = []
file_lines (byte ∷ bytes) = if is_line_feed byte then [] ∷ file_lines bytes else before_first_line byte (file_lines bytes)

-- StepLines Says lines rows last: the steps of the lines are steps of the calculus, these rows are what they give in turn, and the last row
-- is that of this line.
pub data StepLines (Says : Format) : List (List ℕ) → List Provable → ℕ → Type 0 where
  no_lines : StepLines Says [] [] 0
  one_more : {lines : List (List ℕ)} {rows : List Provable} {last : ℕ} {line : List ℕ} {step : Step} {p : Provable} →
      StepLines Says lines rows last → Says lines line (TakesStep step) → StepOf rows step p →
      StepLines Says (lines ++ line ∷ []) (rows ++ p ∷ []) (length lines + 1)
  no_row : {lines : List (List ℕ)} {rows : List Provable} {last : ℕ} {line : List ℕ} →
      StepLines Says lines rows last → Says lines line TakesNone → StepLines Says (lines ++ line ∷ []) rows last

-- the word for what is wrong with a line, as it is printed
abbrev pub line_why_text : LineWhy → List ℕ
line_why_text why.Malformed = codes "Malformed"
line_why_text why.WrongNumber = codes "WrongNumber"
line_why_text why.NoEnd = codes "NoEnd"
line_why_text (why.Step reason) = reason_text reason

-- what becomes of a file
pub data Answer : Type 0 where
  -- its lines are accepted, and give these rows, the last of them at this line
  accepted : List Provable → ℕ → Answer
  -- the least line that isn't as it must be, and why
  bad : ℕ → LineWhy → Answer

-- Becomes Says lines answer: one case a way in which a file of lines ends.
pub data Becomes (Says : Format) : List (List ℕ) → Answer → Type 0 where
  -- steps, at least one, and then `done`
  whole : {steps : List (List ℕ)} {rows : List Provable} {last : ℕ} {line : List ℕ} →
      StepLines Says steps rows last → 1 ≤ length rows → Says steps line EndsFile → Becomes Says (steps ++ line ∷ []) (accepted rows last)
  -- steps, and no line where one more should stand
  ended : {steps : List (List ℕ)} {rows : List Provable} {last : ℕ} →
      StepLines Says steps rows last → Becomes Says steps (bad (length steps + 1) why.NoEnd)
  -- steps, and then what says nothing
  unread : {steps : List (List ℕ)} {rows : List Provable} {last : ℕ} {line : List ℕ} (after : List (List ℕ)) →
      StepLines Says steps rows last → ((s : Said) → ¬ Says steps line s) → Becomes Says (steps ++ line ∷ after) (bad (length steps + 1) why.Malformed)
  -- `done` before any step
  done_first : {steps : List (List ℕ)} {last : ℕ} {line : List ℕ} (after : List (List ℕ)) →
      StepLines Says steps [] last → Says steps line EndsFile → Becomes Says (steps ++ line ∷ after) (bad (length steps + 1) why.Malformed)
  -- steps, `done`, and then one more line
  done_before : {steps : List (List ℕ)} {rows : List Provable} {last : ℕ} {line : List ℕ} (next : List ℕ) (after : List (List ℕ)) →
      StepLines Says steps rows last → 1 ≤ length rows → Says steps line EndsFile →
      Becomes Says (steps ++ line ∷ next ∷ after) (bad (length steps + 2) why.Malformed)
  -- steps, and then a line with another number
  misnumbered : {steps : List (List ℕ)} {rows : List Provable} {last : ℕ} {line : List ℕ} (after : List (List ℕ)) →
      StepLines Says steps rows last → Says steps line HasOtherNumber → Becomes Says (steps ++ line ∷ after) (bad (length steps + 1) why.WrongNumber)
  -- steps, and then one that is no step of the calculus
  faulty : {steps : List (List ℕ)} {rows : List Provable} {last : ℕ} {line : List ℕ} {step : Step} {reason : Reason} (after : List (List ℕ)) →
      StepLines Says steps rows last → Says steps line (TakesStep step) → Fault rows step reason →
      Becomes Says (steps ++ line ∷ after) (bad (length steps + 1) (why.Step reason))

-- RowsOf Says lines rows: the rows that first lines of a file give; the line that ends it gives none.
pub data RowsOf (Says : Format) : List (List ℕ) → List Provable → Type 0 where
  of_steps : {steps : List (List ℕ)} {rows : List Provable} {last : ℕ} → StepLines Says steps rows last → RowsOf Says steps rows
  of_all : {steps : List (List ℕ)} {rows : List Provable} {last : ℕ} {line : List ℕ} →
      StepLines Says steps rows last → Says steps line EndsFile → RowsOf Says (steps ++ line ∷ []) rows

-- SaySteps Says before lines steps: behind the lines before, these lines say these steps in turn, and the last line ends the file.
pub data SaySteps (Says : Format) : List (List ℕ) → List (List ℕ) → List Step → Type 0 where
  done : {before : List (List ℕ)} {line : List ℕ} → Says before line EndsFile → SaySteps Says before (line ∷ []) []
  more : {before lines : List (List ℕ)} {line : List ℕ} {step : Step} {steps : List Step} →
      Says before line (TakesStep step) → SaySteps Says (before ++ line ∷ []) lines steps → SaySteps Says before (line ∷ lines) (step ∷ steps)
  none : {before lines : List (List ℕ)} {line : List ℕ} {steps : List Step} →
      Says before line TakesNone → SaySteps Says (before ++ line ∷ []) lines steps → SaySteps Says before (line ∷ lines) steps

-- ---- proof-term files of both versions

-- what becomes of one, by its lines
abbrev pub Verdict : List (List ℕ) → Answer → Type 0
Verdict lines answer = Becomes SaysInFile lines answer

-- the rows that its first lines give
abbrev pub FileRows : List (List ℕ) → List Provable → Type 0
FileRows lines rows = RowsOf SaysInFile lines rows

-- the steps that its lines say
abbrev pub FileSteps : List (List ℕ) → List Step → Type 0
FileSteps lines steps = SaySteps SaysInFile [] lines steps
