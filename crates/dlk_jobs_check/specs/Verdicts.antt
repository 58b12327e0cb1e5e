-- The line of the guard by its verdict.
use Rattle.std.specs.Prelude.{ℕ, List, Option, Some, None}
use Rattle.dlk_guard.specs.declared.guard.Refusal.{Refusal}
use Rattle.dlk_jobs_check.specs.Guards.{guarded_line, unguarded_line}

abbrev pub line_of : Option Refusal → List ℕ
line_of None = guarded_line
line_of (Some r) = unguarded_line r.line r.why
