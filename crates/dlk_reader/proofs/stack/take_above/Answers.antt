use Rattle.std.proofs.Common.{arith}
use Rattle.dlk_reader.proofs.Tops.{got, take_stays, take_pops}
use Rattle.dlk_reader.proofs.stack.take_above.Goals as goal

pub returns-then-wanted-level-clause-taken : goal.returns-then-wanted-level-clause-taken
returns-then-wanted-level-clause-taken c =
    λ S e. take_stays c.args.level c.wanted.result S c.args.parts.now.items c.in-Some.top.now e
    (got c.deref.result.now c.args.parts.now.items c.in-Some.top.now c.deref.ensures.value c.in-Some.ensures.value) c.wanted.ensures c.if-wanted-level.true

pub returns-clause-taken : goal.returns-clause-taken
returns-clause-taken c = λ S e. take_pops c.args.level c.wanted.result S c.args.parts.now.items c.pop.new.parts.items c.in-Some.top.now c.pop.result e
    (got c.deref.result.now c.args.parts.now.items c.in-Some.top.now c.deref.ensures.value c.in-Some.ensures.value) c.wanted.ensures (omega arith)
    (c.pop.ensures.popped S e)
