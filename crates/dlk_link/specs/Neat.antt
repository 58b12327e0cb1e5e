-- What a trimmed term has none of.
use Rattle.std.specs.Prelude.{◌≡◌, ◌<◌, ◌≤◌, ℕ, List, length}
use Rattle.dlk_calculus.specs.Places.{At}
use Rattle.dlk_calculus.specs.Steps.{Step}
use Rattle.dlk_link.specs.Trimmed.{Names}

-- no two steps are equal
abbrev pub AreUnlike : List Step → Type 0
AreUnlike kept = (m n : ℕ) (step : Step) → At kept m step → At kept n step → m ≡ n

-- each step but the last is named by a later one
abbrev pub AreNamed : List Step → Type 0
AreNamed kept = (n : ℕ) → 1 ≤ n → n < length kept → (later : ℕ) × (step : Step) × At kept later step × Names step n × (n < later)
