use Rattle.std.proofs.Common.{◌++◌, sym, ap}
use Rattle.std.specs.Prelude.{codes, if◌then◌else◌}
use Rattle.dlk_print.proofs.Left.{first_failed, same_text}
use Rattle.dlk_nodes.proofs.writing.append_variable.Goals as goal

pub returns-in_err-append_name : goal.returns-in_err-append_name
returns-in_err-append_name c =
    let v = c.args.v.now in
    same_text (sym (ap (λ b. codes " " ++ (if b then v.name ++ codes "'" else v.name)) c.if-not-v.false))
    (first_failed (codes " " ++ v.name) (codes "'") c.from_residual.result c.from_residual.ensures.0 c.in_err-append_name.ensures.begun)
