use Rattle.dlk_print.proofs.Left.{first_failed, then_last}
use Rattle.dlk_nodes.proofs.writing.append_unit.Goals as goal

pub returns-in_err-append : goal.returns-in_err-append
returns-in_err-append c = first_failed _ _ c.from_residual.result c.from_residual.ensures.0 c.in_err-append.ensures.begun

pub returns : goal.returns
returns c = then_last _ c.in_ok-append.ensures.ok c.append_taboo.ensures
