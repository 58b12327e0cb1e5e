use Rattle.dlk_replay.specs.Formats.{SaysLine}
use Rattle.dlk_replay.proofs.RowsGiven.{rows_given}
use Rattle.dlk_replay.proofs.laws.recorded_lines_give_rows.Goals as goal

pub returns : goal.returns
returns c = rows_given SaysLine
