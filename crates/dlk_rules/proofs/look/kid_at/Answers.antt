use Rattle.dlk_rules.proofs.KidsOf.{one_kid}
use Rattle.dlk_rules.proofs.look.kid_at.Goals as goal

pub returns-clause-ok : goal.returns-clause-ok
returns-clause-ok g c = one_kid _ _ c.args.place c.args.op.now c.in_ok-kids.kids.now _ c.in_ok-kids.ensures.ok c.requires.kid
