use Rattle.std.proofs.Common.{◌≡◌, arith}
use Rattle.dlk_lex.proofs.Literals.{trims_more, trims_all}
use Rattle.dlk_nodes.proofs.literals.without_zeros.Goals as goal
use Rattle.dlk_nodes.proofs.literals.without_zeros.Goals.{then-loop-n-test+else-digits-n-eq48, else-loop-n-test}

pub loop-n-preserved : goal.loop-n-preserved
loop-n-preserved c = (omega arith, trims_more c.args.digits.now c.loop-n.n c.loop-n.invariant.0 c.loop-n.invariant.1 c.loop-n-test.true c.if-digits-n-eq48.true)

pub returns : goal.returns
returns c = elim c.loop-n-test.branch [
  | then-loop-n-test+else-digits-n-eq48 w ↦ trims_all c.args.digits.now c.loop-n.n c.loop-n.invariant.0
      c.loop-n.invariant.1 w.loop-n-test.true w.if-digits-n-eq48.false
  | else-loop-n-test w ↦ (let none : c.loop-n.n ≡ 0 = omega arith in rw none (rw none at c.loop-n.invariant.1))
]
