use Rattle.std.proofs.Common.{Some}
use Rattle.dlk_tree.specs.Statics.{all, with_prime, all_but, without}
use Rattle.dlk_shared.specs.SetTables.{Means, Makes}
use Rattle.dlk_shared.proofs.SetLemmas.{mapped, means_kept, keeps_trans}
use Rattle.dlk_shared.proofs.sets.SetTable.all_but_name.Goals as goal

pub returns-clause-means : goal.returns-clause-means
returns-clause-means c =
    let y = c.args.y.now in
    mapped (Makes without c.with_prime.new.self c.in_ok-all.all c.in_ok-y.y c.without.new.self) (λ n. Means c.without.new.self n (all_but
    (Some y))) c.without.result
    (λ n m. m.means all (with_prime y) (means_kept c.in_ok-y.ensures.keeps c.in_ok-all.ensures.means) c.in_ok-y.ensures.means)
    c.without.ensures.makes

pub returns-clause-keeps : goal.returns-clause-keeps
returns-clause-keeps c = keeps_trans (keeps_trans c.in_ok-all.ensures.keeps c.in_ok-y.ensures.keeps) c.without.ensures.keeps
