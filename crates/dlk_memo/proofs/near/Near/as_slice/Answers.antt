use Rattle.std.proofs.Common.{ap, arith, length}
use Rattle.dlk_memo.proofs.Rows.{first_are_few}
use Rattle.dlk_memo.proofs.near.Near.as_slice.Goals as goal

pub returns-clause-few : goal.returns-clause-few
returns-clause-few c =
    let less = first_are_few c.self.inside.entries c.self.inside.count in
    let same = ap length c.self.view_is in
    omega (arith, less, same, c.self.invariant)
