use Rattle.dlk_shared.proofs.KidSets.{turn_means}
use Rattle.dlk_shared.proofs.sets.SetTable.in_turn.Goals as goal

pub returns-in_ok-rest-in-len2-up-clause-means : goal.returns-in_ok-rest-in-len2-up-clause-means
returns-in_ok-rest-in-len2-up-clause-means c =
    turn_means c.either.result c.args.self.now c.either.new.self c.args.kids.now _ _ c.requires.kids c.in-len2-up.len_at_least
    c.without.new.self c.in_ok-rest-in-len2-up.rest c.in_ok-rest-in-len2-up.ensures.keeps c.in_ok-rest-in-len2-up.ensures.makes c.either.ensures.makes
