use Rattle.dlk_tree.specs.Statics.{just, plain, prime, with_prime, either}
use Rattle.dlk_shared.specs.SetTables.{Means, Makes}
use Rattle.dlk_shared.proofs.SetLemmas.{mapped, means_kept, means_same, both_marks, keeps_trans}
use Rattle.dlk_shared.proofs.sets.SetTable.with_prime.Goals as goal

pub returns-clause-means : goal.returns-clause-means
returns-clause-means c =
    let x = c.args.x.now in
    mapped (Makes either c.just_prime.new.self c.in_ok-plain.plain c.in_ok-prime.prime c.either.new.self) (λ n. Means c.either.new.self n
    (with_prime x)) c.either.result
    (λ n m. means_same (both_marks x) (m.means (just (plain x)) (just (prime x))
    (means_kept c.in_ok-prime.ensures.keeps c.in_ok-plain.ensures.means) c.in_ok-prime.ensures.means))
    c.either.ensures.makes

pub returns-clause-keeps : goal.returns-clause-keeps
returns-clause-keeps c = keeps_trans (keeps_trans c.in_ok-plain.ensures.keeps c.in_ok-prime.ensures.keeps) c.either.ensures.keeps
