-- The first rows of a trimmed term, up to the first one that isn't kept as it is.
use Rattle.std.specs.Prelude.{ℕ, ◌≤◌, List}
use Rattle.dlk_calculus.specs.Places.{At}
use Rattle.dlk_calculus.specs.Steps.{Step}
use Rattle.dlk_link.specs.Trimmed.{Trims}

-- the first rows, so many, have the numbers that they had
abbrev pub HaveOldNumbers : List ℕ → ℕ → Type 0
HaveOldNumbers numbers same = (row : ℕ) → 1 ≤ row → row ≤ same → At numbers row row

-- TrimmedFrom term kept same: this is kept of the whole term, and the first rows, so many, have the numbers that they had
abbrev pub TrimmedFrom : List Step → List Step → ℕ → Type 0
TrimmedFrom term kept same = (numbers : List ℕ) × Trims term term kept numbers × HaveOldNumbers numbers same
