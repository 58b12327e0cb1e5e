-- The scripts of sessions: what their lines say, and the first line that says nothing.
use Rattle.std.specs.Prelude.{ℕ, ◌+◌, List, [], ◌∷◌, ◌++◌, codes}
use Rattle.dlk_lines.specs.Numbers.{IsNumber}
use Rattle.dlk_tacsyn.specs.Tactics.{Tactic}
use Rattle.dlk_tacsyn.specs.Strategies.{StrategyText}
use Rattle.dlk_replay.specs.Files.{file_lines}
use Rattle.dlk_session.specs.Sessions.{Line, Apply, Undo, Show, Save}

-- ScriptLine text line: what the text of a line says, one case a form
pub data ScriptLine : List ℕ → Line → Type 0 where
  -- the strategy is all that stands behind the space
  apply : {n : List ℕ} {goal : ℕ} {strategy : Tactic} (text : List ℕ) → IsNumber n goal → StrategyText text strategy →
      ScriptLine (codes "apply " ++ n ++ codes " " ++ text) (Apply goal strategy)
  undo : ScriptLine (codes "undo") Undo
  show : ScriptLine (codes "show") Show
  save : ScriptLine (codes "save") Save

-- each of the texts says a line
pub data SayLines : List (List ℕ) → List Line → Type 0 where
  none : SayLines [] []
  more : {text : List ℕ} {texts : List (List ℕ)} {line : Line} {lines : List Line} → ScriptLine text line → SayLines texts lines →
      SayLines (text ∷ texts) (line ∷ lines)

-- the number of the first text that says none, from 1 on
pub data FirstWrong : List (List ℕ) → ℕ → Type 0 where
  here : {text : List ℕ} {texts : List (List ℕ)} → ((line : Line) → ¬ ScriptLine text line) → FirstWrong (text ∷ texts) 1
  later : {text : List ℕ} {texts : List (List ℕ)} {line : Line} {n : ℕ} → ScriptLine text line → FirstWrong texts n → FirstWrong (text ∷ texts) (n + 1)

-- the lines of a file say these; there may be none
abbrev pub Script : List ℕ → List Line → Type 0
Script bytes lines = SayLines (file_lines bytes) lines

-- the first line of a file that says nothing
abbrev pub ScriptFault : List ℕ → ℕ → Type 0
ScriptFault bytes n = FirstWrong (file_lines bytes) n
