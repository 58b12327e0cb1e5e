use Rattle.std.proofs.Common.{◌≡◌, ◌+◌, ◌++◌, map, drop}
use Rattle.dlk_report.specs.Reports.{numbered}
use Rattle.dlk_report.specs.Shown.{bytes_of}
use Rattle.dlk_report.proofs.printing.append_numbered.Given as goal

-- the lines so far and those that are left are all of them
abbrev pub invariant-loop-i : goal.invariant-loop-i
invariant-loop-i l = l.out.items ++ numbered l.name (l.i + 1) (map bytes_of (drop l.i l.texts)) ≡ l.fn.out.items ++ numbered l.name 1 (map bytes_of l.texts)
