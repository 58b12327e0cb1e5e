use Rattle.std.proofs.Common.{◌≡◌, ◌∙◌, ◌-◌, suc, arith}
use Rattle.dlk_print.proofs.Digits.{div-pow-suc}
use Rattle.dlk_print.proofs.number.integer_part.Goals as goal

pub loop-scale-preserved : goal.loop-scale-preserved
loop-scale-preserved c =
    let k : c.loop-scale.scale ≡ suc (c.loop-scale.scale - 1) = omega arith in
    div-pow-suc c.loop-scale.left (c.loop-scale.scale - 1) ∙ rw k at c.loop-scale.invariant
