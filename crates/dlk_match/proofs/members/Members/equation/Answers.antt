use Rattle.std.proofs.Common.{sym, ◌∙◌, ap, arith, length}
use Rattle.dlk_store.specs.Stores.{kid_trees}
use Rattle.dlk_match.proofs.SomeMembers.{as_many_members}
use Rattle.dlk_match.proofs.members.Members.equation.Goals as goal

pub returns-then-self-ne1 : goal.returns-then-self-ne1
returns-then-self-ne1 c = λ trees well y e is.
    let ms = c.args.self.now in
    let many = as_many_members ms.items.now (kid_trees trees ms.kids.now) in
    c.if-self-ne1.true (omega (arith, sym many ∙ ap (λ all. length all) is))
