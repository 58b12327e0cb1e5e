use Rattle.std.proofs.Common.{refl, ◌∙◌}
use Rattle.std.proofs.lemmas.Result.{err_from_is_err_and}
use Rattle.dlk_reader.proofs.Reducing.{closed_one, closed_err}
use Rattle.dlk_reader.proofs.stack.Stack.reduce.Goals as goal

pub loop-part-preserved : goal.loop-part-preserved
loop-part-preserved c = λ S p h.
    let i = c.loop-part.invariant S p h in
    let w = closed_one c.args.level i.0 i.1 c.in-Some.part c.take_above.new.parts.items c.loop-part.self.out.items c.join.new.out.items c.loop-part.last
    c.in_ok-last.last (record { parts = c.take_above.new.parts; out = c.join.new.out }) (c.in-Some.ensures.taken i.0 i.2.lists.parts) i.2.last
    i.2.lists.out c.in_ok-last.ensures refl refl in
    (w.0, w.1, w.2, i.3 ∙ w.3)

pub returns-in_err-last : goal.returns-in_err-last
returns-in_err-last c = λ S p h.
    let i = c.loop-part.invariant S p h in
    let w = err_from_is_err_and c.from_residual.result c.from_residual.ensures.1 in
    rw (w.1, w.2, i.3) (closed_err c.args.level i.0 i.1 c.in-Some.part c.take_above.new.parts.items c.loop-part.self.out.items c.join.new.out.items
    c.loop-part.last (record { parts = c.take_above.new.parts; out = c.join.new.out }) c.in_err-last.field-0.0
    (c.in-Some.ensures.taken i.0 i.2.lists.parts) i.2.last i.2.lists.out c.in_err-last.ensures)
