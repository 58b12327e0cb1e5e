use Rattle.std.proofs.Common.{◌∙◌, sym}
use Rattle.dlk_lex.proofs.FrontMarks.{begins, mark_found, mark_missing}
use Rattle.dlk_lex.proofs.marks.front_mark.Goals as goal

pub is_at_front-requires-clause-first : goal.is_at_front-requires-clause-first
is_at_front-requires-clause-first c =
    begins (λ row. row.0.now) (λ row. row.1) c.args.bytes.now c.marks_from-text-items.result.now
    c.marks_from-text-items.ensures.marks c.marks_from-text-items.ensures.texts
    c.loop-text.text-index _ c.loop-text-test.true

pub returns-then-is_at_front-clause-found : goal.returns-then-is_at_front-clause-found
returns-then-is_at_front-clause-found c =
    let here = sym c.is_at_front.ensures ∙ c.if-is_at_front.true in
    mark_found (λ row. row.0.now) (λ row. row.1) c.args.bytes.now c.marks_from-text-items.result.now
    c.marks_from-text-items.ensures.marks c.marks_from-text-items.ensures.texts
    c.loop-text.text-index _ c.loop-text-test.true c.loop-text.invariant here

pub returns-clause-none : goal.returns-clause-none
returns-clause-none c =
    mark_missing (λ row. row.0.now) (λ row. row.1) c.args.bytes.now c.marks_from-text-items.result.now
    c.marks_from-text-items.ensures.marks c.marks_from-text-items.ensures.texts
    c.loop-text.text-index c.loop-text-test.false c.loop-text.invariant
