use Rattle.std.proofs.Common.{◌++◌, ◌∷◌, [], ap, ◌∙◌}
use Rattle.std.proofs.lemmas.Result.{err_from_is_err_and}
use Rattle.dlk_reader.specs.declared.code.Code.TheVariants as code
use Rattle.dlk_reader.proofs.Agree.{left_err, left_ok, before_err, before_ok}
use Rattle.dlk_reader.proofs.stack.join.Goals as goal

pub returns-in_err-settle-in-Left : goal.returns-in_err-settle-in-Left
returns-in_err-settle-in-Left c = λ e p before h m at.
    let w = err_from_is_err_and c.from_residual.result c.from_residual.ensures.1 in
    let out = c.args.out.now.items in
    let new = c.settle.new.out.items in
    rw (w.1, w.2) (left_err out new new c.args.last c.args.part p before m c.in-Left.between c.operand_sort.result c.in_err-settle-in-Left.field-0.0 e
    c.operand_sort.ensures c.in-Left.is h at c.in_err-settle-in-Left.ensures)

pub returns-in-Left : goal.returns-in-Left
returns-in-Left c = λ e p before h m at.
    left_ok c.args.out.now.items c.settle.new.out.items c.push.new.self.items c.args.last c.args.part p before m c.in-Left.between c.operand_sort.result
    c.result_sort.result e c.operand_sort.ensures c.result_sort.ensures c.in-Left.is h at c.in_ok-settle-in-Left.ensures
    (c.in_ok-push-in-Left.ensures.items ∙ ap (λ x. c.settle.new.out.items ++ code.Operator x ∷ []) c.operator.ensures)

pub returns-in_err-settle-in-Before : goal.returns-in_err-settle-in-Before
returns-in_err-settle-in-Before c = λ e p before h m at.
    let w = err_from_is_err_and c.from_residual-in_err-settle-in-Before.result c.from_residual-in_err-settle-in-Before.ensures.1 in
    let out = c.args.out.now.items in
    let new = c.settle-in-Before.new.out.items in
    rw (w.1, w.2) (before_err out new new c.args.last c.args.part p before m c.in-Before.prefix c.prefix_sort-sort.result c.in_err-settle-in-Before.field-0.0 e
    c.prefix_sort-sort.ensures c.in-Before.is h at c.in_err-settle-in-Before.ensures)

pub returns-in-Before : goal.returns-in-Before
returns-in-Before c = λ e p before h m at.
    before_ok c.args.out.now.items c.settle-in-Before.new.out.items c.push-in-Before.new.self.items c.args.last c.args.part p before m c.in-Before.prefix
    c.prefix_sort-sort.result (code.Operator c.prefix_operator.result) e c.prefix_sort-sort.ensures
    (λ q k. ap code.Operator (c.prefix_operator.ensures q k)) c.in-Before.is h at c.in_ok-settle-in-Before.ensures c.in_ok-push-in-Before.ensures.items
