use Rattle.dlk_rules.proofs.KidsOf.{two_kids}
use Rattle.dlk_rules.proofs.look.kids_at.Goals as goal

pub returns-clause-ok : goal.returns-clause-ok
returns-clause-ok g c = two_kids _ _ c.args.place c.args.op.now c.in_ok-kids.kids.now _ c.in_ok-kids.ensures.ok c.requires.kids
