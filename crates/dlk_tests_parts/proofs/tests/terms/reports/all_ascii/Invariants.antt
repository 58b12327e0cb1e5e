use Rattle.std.proofs.Common.{map}
use Rattle.std.specs.Prelude.{All, IsAscii}
use Rattle.dlk_report.specs.Shown.{bytes_of}
use Rattle.dlk_tests_parts.proofs.tests.terms.reports.all_ascii.Given as goal

-- the texts so far are ASCII
abbrev pub invariant-loop-text : goal.invariant-loop-text
invariant-loop-text l = All IsAscii (map bytes_of l.all.items)
