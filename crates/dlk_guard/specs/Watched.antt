-- What a watcher knows after lines; what a guard keeps while they go by, and what it says at the end.
use Rattle.std.specs.Prelude.{ℕ, ◌+◌, List, [], ◌∷◌, ◌++◌, length, Option, Some, None, option_map}
use Rattle.std.specs.List.{fold}
use Rattle.dlk_guard.specs.declared.why.Why.{Why}
use Rattle.dlk_guard.specs.declared.raw.Raw.{Raw}
use Rattle.dlk_guard.specs.declared.guard.Refusal.{Refusal}
use Rattle.dlk_guard.specs.Guarded.{Line, mark, mark_at, misuse, why_raw}

-- what is known after all lines, by what is known after one more
abbrev pub after_all : {V : Type 0} → (V → Line → V) → V → List Line → V
after_all after known all = fold after known all

-- the marks of the rows so far, and the first of their lines that is refused whatever follows
pub record Watch : Type 0 where
  pub marks : List (Option Raw)
  pub refused : Option Refusal

abbrev pub started : Watch
started = record { marks = []; refused = None }

abbrev pub earlier : Option Refusal → Option Refusal → Option Refusal
earlier None later = later
earlier (Some r) later = Some r

-- a reason against the line of this number
abbrev pub against : ℕ → Option Why → Option Refusal
against line why = option_map (λ w. record { line = line; why = w }) why

-- with one line more
abbrev pub watched : Watch → Line → Watch
watched w l = record {
  marks = w.marks ++ mark w.marks l ∷ [];
  refused = earlier w.refused (against (length w.marks + 1) (misuse w.marks l.step));
}

-- after all lines
abbrev pub watched_all : Watch → List Line → Watch
watched_all w all = after_all watched w all

abbrev pub watch_of : List Line → Watch
watch_of all = watched_all started all

-- what is said at the end: the first line that is refused, or else the last one where its row is raw
abbrev pub verdict : Watch → Option Refusal
verdict w = earlier w.refused (against (length w.marks) (why_raw (mark_at w.marks (length w.marks))))
