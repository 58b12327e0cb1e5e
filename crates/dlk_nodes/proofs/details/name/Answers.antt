use Rattle.std.proofs.Common.{Err, refl, ap, ◌∙◌}
use Rattle.std.proofs.lemmas.Result.{err_from_is_err_and}
use Rattle.dlk_lines.proofs.Refusals.{name_wants}
use Rattle.dlk_nodes.proofs.details.name.Goals as goal

pub returns-in_err-name-clause-memory : goal.returns-in_err-name-clause-memory
returns-in_err-name-clause-memory c =
    let e = err_from_is_err_and c.from_residual.result c.from_residual.ensures.1 in
    name_wants c.args.text.now c.in_err-name.field-0.0 c.from_residual.result _ (e.1 ∙ ap Err e.2) refl c.in_err-name.ensures.not_a_name
