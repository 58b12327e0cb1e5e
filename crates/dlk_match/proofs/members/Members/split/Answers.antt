use Rattle.std.proofs.Common.{◌∙◌, ap, rules, arith, drop, length, refl, ◌<◌, ◌≤◌}
use Rattle.dlk_match.proofs.SomeMembers.{evolved_first, are_parts, rest_is}
use Rattle.dlk_match.proofs.members.Members.split.Goals as goal

pub slice_bounds-others-count-2 : goal.slice_bounds-others-count-2
slice_bounds-others-count-2 c =
    let first = evolved_first c.args.self.now.items.now c.args.n in
    omega (arith, first, c.requires, c.count_evolved.ensures.value)

pub slice_bounds-others-start-2 : goal.slice_bounds-others-start-2
slice_bounds-others-start-2 c =
    let first = evolved_first c.args.self.now.items.now c.args.n in
    let within : c.count_evolved.result ≤ length c.args.self.now.kids.now = omega (arith, first, c.requires, c.count_evolved.ensures.value) in
    search (rules, within)

pub returns : goal.returns
returns c = λ trees well.
    let ms = c.args.self.now in
    let some : 0 < c.args.n = grind (arith, c.if-n-eq0.false) in
    let more : c.args.n < length ms.items.now = grind (arith, c.if-self-n.false) in
    are_parts trees ms _ _ c.args.n well some more refl refl (rest_is c.args.n ms.items.now)
    (rest_is c.count_evolved.result ms.kids.now ∙ ap (λ k. drop k ms.kids.now) c.count_evolved.ensures.value)
