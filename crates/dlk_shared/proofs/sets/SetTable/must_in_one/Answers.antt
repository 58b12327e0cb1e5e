use Rattle.dlk_shared.proofs.KidSets.{one_means}
use Rattle.dlk_shared.proofs.sets.SetTable.must_in_one.Goals as goal

pub returns-in-len2-up-clause-means : goal.returns-in-len2-up-clause-means
returns-in-len2-up-clause-means c =
    one_means c.either.result c.args.self.now c.either.new.self c.args.kids.now _ _ c.requires.kids c.in-len2-up.len_at_least c.either.ensures.makes
