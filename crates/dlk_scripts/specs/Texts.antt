-- What a text of a strategy says, and where bytes stop being one.
use Rattle.std.specs.Prelude.{◌≡◌, ℕ, List, [], ◌∷◌, ◌++◌, length}
use Rattle.dlk_scripts.specs.declared.part.Part.{Part}
use Rattle.dlk_scripts.specs.declared.fault.PartsFault.{PartsFault}
use Rattle.dlk_scripts.specs.declared.fault.PartsFault.TheVariants.{Syntax, Memory}
use Rattle.dlk_scripts.specs.Parts.{Spelled}
use Rattle.dlk_scripts.specs.Scripts.{Script, script_parts, ScriptFits}

-- The text is spelled as the parts of the script, which is within the limits.
pub record IsScript (bytes : List ℕ) (script : Script) : Type 0 where
  pub spelled : Spelled bytes (script_parts script)
  pub fits : ScriptFits script

-- The text says a script, and these are its parts.
pub record HasParts (bytes : List ℕ) (parts : List Part) : Type 0 where
  pub script : Script
  pub says : IsScript bytes script
  pub parts_are : script_parts script ≡ parts

-- The bytes are the front of a text.
pub record Begins (bytes : List ℕ) : Type 0 where
  pub more : List ℕ
  pub script : Script
  pub says : IsScript (bytes ++ more) script

-- Bytes stop at the first of them at which no text goes on; or at their end, where they are the front of a text and none themselves.
pub data Stops : List ℕ → ℕ → Type 0 where
  stops-byte : {s : List ℕ} (b : ℕ) (r : List ℕ) → Begins s → ¬ Begins (s ++ b ∷ []) → Stops (s ++ b ∷ r) (length s)
  stops-end : {s : List ℕ} → Begins s → ((t : Script) → ¬ IsScript s t) → Stops s (length s)

-- the fault is where the bytes stop; want of memory is free
abbrev pub IsPartsFaultOf : List ℕ → PartsFault → Type 0
IsPartsFaultOf bytes (Syntax at) = Stops bytes at
IsPartsFaultOf bytes Memory = Unit {0}
