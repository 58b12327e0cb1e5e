-- The term file of steps.
pub use Rattle.dlk_nodes.specs.TermFiles.{first_lines, term_text}
pub use Rattle.dlk_replay.specs.Symbols.{HasSymbols}
use Rattle.std.specs.Prelude.{ℕ, List, length}
use Rattle.dlk_calculus.specs.Steps.{Step}

-- the line of the last of the steps in their term file, which is the one before `done`
abbrev pub last_line : List Step → ℕ
last_line steps = length (first_lines steps)
