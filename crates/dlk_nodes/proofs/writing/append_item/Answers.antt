use Rattle.std.proofs.Common.{sym, ap}
use Rattle.std.specs.Prelude.{codes}
use Rattle.dlk_print.proofs.Left.{first_failed, same_text}
use Rattle.dlk_nodes.specs.Words.{item_text}
use Rattle.dlk_nodes.proofs.writing.append_item.Goals as goal

pub returns-in_err-append-in-Evolve : goal.returns-in_err-append-in-Evolve
returns-in_err-append-in-Evolve c =
    same_text (sym (ap item_text c.in-Evolve.is))
    (first_failed c.in-Evolve.x (codes "'") c.from_residual.result c.from_residual.ensures.0
    (rw c.bytes.ensures.bytes at c.in_err-append-in-Evolve.ensures.begun))
