use Rattle.dlk_sequent.specs.Extras.{extra_at}
use Rattle.dlk_match.specs.Members.{members_at}
use Rattle.dlk_match.proofs.MembersTaken.{by_equation}
use Rattle.dlk_match.proofs.members.take_equation.Goals as goal

pub returns-clause-matched : goal.returns-clause-matched
returns-clause-matched c = λ trees well.
    let equation = c.in-Some.ensures trees well in
    rw c.leaving.ensures (by_equation c.args.x.now c.in-Some.y.now c.in-Some.e (members_at trees c.args.ms.now) trees (extra_at trees c.args.extra.now)
    (extra_at trees c.rename.new.extra) c.in_ok-rename.field-0 equation.known equation.member_is (c.in_ok-rename.ensures.matched trees))
