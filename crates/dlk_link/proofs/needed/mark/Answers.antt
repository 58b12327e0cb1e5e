use Rattle.std.proofs.Common.{ap, arith}
use Rattle.std.specs.Global.{Vec}
use Rattle.std.specs.Prelude.{Bool}
use Rattle.dlk_link.proofs.Marks.{no_marks, fact_among, mark_next, skip_next}
use Rattle.dlk_link.proofs.needed.mark.Goals.{in-Some, in-None}
use Rattle.dlk_link.proofs.needed.mark.Goals as goal

pub loop-fact-init : goal.loop-fact-init
loop-fact-init c = no_marks c.args.marks.now.items

pub overflow_sub-fact : goal.overflow_sub-fact
overflow_sub-fact c = (c.requires c.in-Some.fact (fact_among c.args.facts.now c.loop-fact.fact-index c.in-Some.fact c.loop-fact-test.true c.in-Some.is)).0

pub index_mut-requires : goal.index_mut-requires
index_mut-requires c =
    let b = c.requires c.in-Some.fact (fact_among c.args.facts.now c.loop-fact.fact-index c.in-Some.fact c.loop-fact-test.true c.in-Some.is) in
    let low = b.0 in let high = b.1 in let same = c.loop-fact.invariant.count in omega (arith, low, high, same)

pub loop-fact-preserved : goal.loop-fact-preserved
loop-fact-preserved c = elim c.match-fact.branch [
  | in-Some w ↦
      let b = c.requires w.in-Some.fact (fact_among c.args.facts.now c.loop-fact.fact-index w.in-Some.fact c.loop-fact-test.true w.in-Some.is) in
      let low = b.0 in let high = b.1 in let same = c.loop-fact.invariant.count in
      mark_next c.args.marks.now.items c.loop-fact.marks.items c.match-fact.marks.items c.args.facts.now c.loop-fact.fact-index w.in-Some.fact
      c.loop-fact-test.true
      w.in-Some.is low (omega (arith, low, high, same)) c.loop-fact.invariant (ap (λ (v : Vec Bool). v.items) w.marks-is)
  | in-None w ↦
      skip_next c.args.marks.now.items c.loop-fact.marks.items c.match-fact.marks.items c.args.facts.now c.loop-fact.fact-index c.loop-fact-test.true
      w.in-None.is
      c.loop-fact.invariant (ap (λ (v : Vec Bool). v.items) w.marks-is)
]
