-- The lines of a proof-term file of version 1.
use Rattle.std.specs.Prelude.{ℕ, List, codes}
use Rattle.dlk_calculus.specs.Steps.{Step}
use Rattle.dlk_lines.specs.Spelled.{InFull}
use Rattle.dlk_lines.specs.Lines.{IsStepLine}

-- what a line of version 1 says
pub data Line : Type 0 where
  -- a step with its number
  Numbered : ℕ → Step → Line
  -- no step comes after it
  Done : Line

-- IsLine text line: the text, without a line feed behind it, is this line of version 1.
pub data IsLine : List ℕ → Line → Type 0 where
  -- a step whose trees are spelled in full
  of_step : {text : List ℕ} {place : ℕ} {step : Step} → IsStepLine InFull text place step → IsLine text (Numbered place step)
  done : IsLine (codes "done") Done
