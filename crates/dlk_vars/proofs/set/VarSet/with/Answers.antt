use Rattle.std.proofs.Common.{◌≡◌, ◌<◌, ◌≤◌, ◌/◌, ap, arith, length}
use Rattle.dlk_vars.specs.Rows.{Row}
use Rattle.dlk_vars.proofs.Words.{with_numbers}
use Rattle.dlk_vars.proofs.Members.{with_gains}
use Rattle.dlk_vars.proofs.set.VarSet.with.Goals as goal

pub returns-clause-numbers : goal.returns-clause-numbers
returns-clause-numbers c =
    let s = c.args.self.now in
    let r : Row = record { words = c.loop-k.words.items; others = c.self.inside.others } in
    let k = c.loop-k.k in
    let left : length s.words ≤ k = omega (arith, ap (λ t. length t.words) c.self.view_is, c.len.ensures, c.max-k-end.ensures, c.loop-k-test.false) in
    let within : c.args.n.0 / 64 < k = omega (arith, c.max-k-end.ensures, c.loop-k-test.false) in
    let flag : c.self.inside.others ≡ s.others = ap (λ t. t.others) c.self.view_is in
    with_numbers s r c.args.n.0 k left within c.loop-k.invariant.count flag c.loop-k.invariant.made

pub returns-clause-vars : goal.returns-clause-vars
returns-clause-vars c =
    let r : Row = record { words = c.loop-k.words.items; others = c.self.inside.others } in
    with_gains c.args.self.now r c.args.n.0 (returns-clause-numbers c) (ap (λ t. t.others) c.self.view_is)
