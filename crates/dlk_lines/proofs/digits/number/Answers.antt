use Rattle.std.proofs.Common.{[]}
use Rattle.dlk_lines.proofs.Numbers.{whole_in_front}
use Rattle.dlk_lines.proofs.digits.number.Goals as goal

pub returns-in_err-number : goal.returns-in_err-number
returns-in_err-number c = rw c.from_residual.ensures (λ n is. c.in_err-number.ensures.none n [] (whole_in_front c.args.text.now n is))
