use Rattle.std.proofs.Common.{◌≡◌, map, take}
use Rattle.dlk_sequent.specs.Sequents.{sequent_at}
use Rattle.dlk_report.specs.Reports.{text_of}
use Rattle.dlk_report.specs.Shown.{bytes_of}
use Rattle.dlk_report.proofs.report.texts.Given as goal

-- the texts of the sequents so far
abbrev pub invariant-loop-s : goal.invariant-loop-s
invariant-loop-s g l = map bytes_of l.texts.items ≡ map text_of (map (sequent_at (g.S.Store.trees l.store)) (take l.s-index l.sequents))
