use Rattle.std.proofs.Common.{◌++◌, refl, sym, ap, ◌∙◌, append_assoc}
use Rattle.std.proofs.lemmas.Result.{err_from_is_err_and}
use Rattle.dlk_machine.specs.Machine.{as_sort}
use Rattle.dlk_reader.specs.Shows.{holder_code, piece_code, stack_code, Shows, Writes}
use Rattle.dlk_reader.specs.declared.stack.Stack.{Stack}
use Rattle.dlk_reader.proofs.Agree.{agrees_ok}
use Rattle.dlk_reader.proofs.HolderSteps.{close_err, no_bracket, settled_in}
use Rattle.dlk_reader.proofs.stack.Stack.close.Goals as goal

pub returns-in_err-settle : goal.returns-in_err-settle
returns-in_err-settle c = λ S h p k m at.
    let w = err_from_is_err_and c.from_residual.result c.from_residual.ensures.1 in
    let before = stack_code S ++ holder_code h in
    let a = c.in_err-settle.ensures p before m (at.out ∙ sym (append_assoc (stack_code S) (holder_code h) (piece_code p))) in
    rw (w.1, w.2) (close_err {X = Unit {0}} (λ _ t. Writes c.settle.new.out.items before t)
    (Shows (record { parts = c.args.self.now.parts; out = c.settle.new.out })) c.args.closer h S p c.in_err-settle.field-0.0
    (no_bracket c.args.holder h k c.in_default.not-Round) (rw (← c.held_sort.ensures h k) a))

pub returns : goal.returns
returns c = λ S h p k m at.
    let before = stack_code S ++ holder_code h in
    let a = c.in_ok-settle.ensures p before m (at.out ∙ sym (append_assoc (stack_code S) (holder_code h) (piece_code p))) in
    let w = agrees_ok {X = Unit {0}} (λ _ t. Writes c.settle.new.out.items before t) tt (as_sort c.held_sort.result p) a in
    let mid : Stack = record { parts = c.args.self.now.parts; out = c.settle.new.out } in
    c.close_settled.ensures S h p w.0 k (ap (λ s. as_sort s p) (sym (c.held_sort.ensures h k)) ∙ w.1) (no_bracket c.args.holder h k c.in_default.not-Round)
    (settled_in S h w.0 c.args.self.now mid (piece_code p) at refl w.2)
