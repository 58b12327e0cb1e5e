use Rattle.std.proofs.Common.{ap, arith, length, Some, ◌∙◌}
use Rattle.std.specs.List.{slice_set}
use Rattle.dlk_memo.proofs.Rows.{first_are_few, take-set_within}
use Rattle.dlk_memo.proofs.near.Near.set.Goals as goal

pub offset_bounds-self-inside-i : goal.offset_bounds-self-inside-i
offset_bounds-self-inside-i c = omega (arith, c.requires.within, c.requires.few)

pub bounds-self-inside-i : goal.bounds-self-inside-i
bounds-self-inside-i c =
    let less = first_are_few c.self.inside.entries c.self.inside.count in
    let same = ap length c.self.view_is in
    omega (arith, less, same, c.requires.within, c.self.invariant)

pub returns : goal.returns
returns c =
    let less = first_are_few c.self.inside.entries c.self.inside.count in
    let same = ap length c.self.view_is in
    take-set_within c.self.inside.entries c.self.inside.count c.args.i (c.args.id, Some c.args.made) (omega (arith, less, same, c.requires.within))
    ∙ ap (λ t. slice_set t c.args.i (c.args.id, Some c.args.made)) c.self.view_is
