use Rattle.dlk_shared.proofs.KidSets.{both_means}
use Rattle.dlk_shared.proofs.sets.SetTable.must_in_both.Goals as goal

pub returns-in-len2-up-clause-means : goal.returns-in-len2-up-clause-means
returns-in-len2-up-clause-means c =
    both_means c.both.result c.args.self.now c.both.new.self c.args.kids.now _ _ c.requires.kids c.in-len2-up.len_at_least c.both.ensures.makes
