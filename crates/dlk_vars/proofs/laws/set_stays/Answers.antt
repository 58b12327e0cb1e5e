use Rattle.dlk_vars.proofs.Members.{has_stays, within_stays}
use Rattle.dlk_vars.proofs.laws.set_stays.Goals as goal

pub returns-clause-members : goal.returns-clause-members
returns-clause-members c v = has_stays c.args.old.now c.args.new.now c.args.set.now c.requires.grows c.requires.within v

pub returns-clause-within : goal.returns-clause-within
returns-clause-within c = within_stays c.args.old.now c.args.new.now c.args.set.now c.requires.grows c.requires.within
