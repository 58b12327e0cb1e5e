use Rattle.std.proofs.Common.{◌≤◌, arith}
use Rattle.dlk_calculus.specs.Limits.{most_rows}
use Rattle.dlk_link.proofs.copies.behind.Goals as goal

pub renumbered-requires : goal.renumbered-requires
renumbered-requires c = λ fact has κs ref ranges own fits.
    let few : fact ≤ most_rows = c.requires.few fact has in
    let room = c.requires.room in
    omega (arith, few, room)
