-- What a recorder answers.
use Rattle.std.specs.Prelude.{◌≡◌, ℕ, ◌<◌, ◌≤◌, List, length}
use Rattle.dlk_recorder.specs.declared.recording.Recorded.{Recorded}
use Rattle.dlk_recorder.specs.declared.recording.Recorded.TheVariants.{Whole, TooLong}

-- the text itself where it has at most as many bytes as the limit, and else its length
abbrev pub IsRecorded : ℕ → List ℕ → Recorded → Type 0
IsRecorded limit text (Whole bytes) = (bytes.items ≡ text) × (length text ≤ limit)
IsRecorded limit text (TooLong bytes) = (bytes ≡ length text) × (limit < length text)
