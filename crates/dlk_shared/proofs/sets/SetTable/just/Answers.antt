use Rattle.dlk_tree.specs.Statics.{just}
use Rattle.dlk_shared.proofs.SetLemmas.{kept_means, just_holds}
use Rattle.dlk_shared.proofs.sets.SetTable.just.Goals as goal

pub returns-clause-means : goal.returns-clause-means
returns-clause-means c =
    let vars = c.number.new.self.vars in
    kept_means c.keep.result c.keep.new.self vars c.in_ok-set.set (just c.args.v.now) c.keep.ensures.known c.keep.ensures.row c.keep.ensures.vars
    (just_holds vars c.args.v.now c.in_ok-v.v.0 c.empty.result c.in_ok-set.set c.in_ok-v.ensures.number c.empty.ensures.vars c.in_ok-set.ensures.vars)
