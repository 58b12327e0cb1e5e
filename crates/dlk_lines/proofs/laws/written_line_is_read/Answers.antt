use Rattle.dlk_lines.proofs.Readback.{line_read}
use Rattle.dlk_lines.proofs.laws.written_line_is_read.Goals as goal

pub returns : goal.returns
returns c = line_read
