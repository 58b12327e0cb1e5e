-- What a report of the code says.
use Rattle.std.specs.Prelude.{ℕ, List, map, Vec}
use Rattle.std.specs.declared.alloc.Global.{Global}
use Rattle.dlk_report.specs.Reports.{Parts}
use Rattle.dlk_report.specs.declared.report.Report.{Report}

abbrev pub bytes_of : Vec ℕ Global → List ℕ
bytes_of text = text.items

abbrev pub parts : Report → Parts
parts r = record {
  closed = r.closed;
  conclusion = r.conclusion.items;
  goals = map bytes_of r.goals.items;
  leaves = map bytes_of r.leaves.items;
  lines = r.lines;
}
