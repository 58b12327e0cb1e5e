use Rattle.std.proofs.Common.{sym}
use Rattle.dlk_lines.proofs.Cuts.{cut_sliced, cut_nowhere}
use Rattle.dlk_lines.proofs.Forms.{if_none}
use Rattle.dlk_lines.proofs.parts.cut_at.Goals as goal

pub returns-in_err-place-clause-none : goal.returns-in_err-place-clause-none
returns-in_err-place-clause-none c = if_none c.from_residual.result (cut_nowhere c.args.text.now c.args.byte (sym c.in_err-place.ensures))

pub returns-clause-found : goal.returns-clause-found
returns-clause-found c = cut_sliced c.args.text.now c.args.byte c.in_ok-place.place (sym c.in_ok-place.ensures)
