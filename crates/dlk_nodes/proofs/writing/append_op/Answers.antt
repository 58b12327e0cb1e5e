use Rattle.std.proofs.Common.{ℕ, List, subst, ◌∙◌}
use Rattle.dlk_print.specs.Printed.{Begun}
use Rattle.dlk_print.proofs.Left.{first_failed}
use Rattle.dlk_nodes.proofs.writing.append_op.Goals as goal

pub returns-in_err-append : goal.returns-in_err-append
returns-in_err-append c =
    let word = c.as_bytes.ensures.value ∙ c.word.ensures in
    first_failed _ _ c.from_residual.result c.from_residual.ensures.0
    (subst (λ (l : List ℕ). Begun c.args.out.now.items c.append.new.out.items l) word c.in_err-append.ensures.begun)
