-- What a line of a term file says: in version 1, in version 2, and in both by the first line of the file.
use Rattle.std.specs.Prelude.{◌≢◌, ℕ, ◌+◌, ◌==◌, Bool, false, if◌then◌else◌, List, [], ◌∷◌, ◌++◌, length, MatchBool}
use Rattle.std.specs.Str.{bytes_eq}
use Rattle.dlk_tree.specs.Trees.{Tree}
use Rattle.dlk_calculus.specs.Steps.{Step}
use Rattle.dlk_termtext.specs.Lines as full
use Rattle.dlk_nodes.specs.Files.{head_line, Has}
use Rattle.dlk_nodes.specs.Lines.{Line, OfNode, Numbered, Done, IsLine}

-- what a line of a file says
pub data Said : Type 0 where
  -- a step, with its own number
  TakesStep : Step → Said
  -- something with a number that isn't its own
  HasOtherNumber : Said
  -- something that gives no row
  TakesNone : Said
  -- no step comes after it
  EndsFile : Said

-- what a line says, after the lines before it
abbrev pub Format : Type 1
Format = List (List ℕ) → List ℕ → Said → Type 0

-- the format of version 1: each line but the last is a step, numbered from 1 on
abbrev pub SaysLine : Format
SaysLine before line (TakesStep step) = full.IsLine line (full.Numbered (length before + 1) step)
SaysLine before line HasOtherNumber = (number : ℕ) × (step : Step) × full.IsLine line (full.Numbered number step) × (number ≢ length before + 1)
SaysLine before line TakesNone = ⊥
SaysLine before line EndsFile = full.IsLine line full.Done

-- What a line of version 2 says behind so many nodes and so many steps: each kind is numbered from 1 on, and a node gives no row.
abbrev pub said_of : ℕ → ℕ → Line → Said
said_of nodes steps (OfNode number t) = if number == nodes + 1 then TakesNone else HasOtherNumber
said_of nodes steps (Numbered number step) = if number == steps + 1 then TakesStep step else HasOtherNumber
said_of nodes steps Done = EndsFile

-- the format of version 2: the head, and behind it nodes and steps in any order
pub data SaysNodeOrStep : List (List ℕ) → List ℕ → Said → Type 0 where
  head : SaysNodeOrStep [] head_line TakesNone
  behind_head : {before : List (List ℕ)} {nodes : List Tree} {steps : ℕ} {text : List ℕ} (line : Line) →
      Has before nodes steps → IsLine nodes text line → SaysNodeOrStep before text (said_of (length nodes) steps line)

-- whether the first of these lines is the head of version 2
abbrev pub begins_two : List (List ℕ) → Bool
begins_two [] = false
begins_two (first ∷ lines) = bytes_eq first head_line

-- version 2 where the file has its head, and else the other format
abbrev pub SaysIn : Format → Format
SaysIn Other before line said = MatchBool (begins_two (before ++ line ∷ [])) (SaysNodeOrStep before line said) (Other before line said)

-- the format of term files of both versions
abbrev pub SaysInFile : Format
SaysInFile = SaysIn SaysLine
