use Rattle.std.proofs.Common.{sym, subst}
use Rattle.std.specs.Prelude.{map}
use Rattle.dlk_tree.specs.Statics.{either, without}
use Rattle.dlk_store.specs.declared.listing.Which.TheVariants.{Free}
use Rattle.dlk_shared.specs.Shapes.{put_together}
use Rattle.dlk_shared.specs.SetTables.{Means, Makes, MakesPrimes, sets_at, in_kids}
use Rattle.dlk_shared.proofs.SetLemmas.{mapped, means_kept, set_itself}
use Rattle.dlk_shared.proofs.sets.SetTable.free_over.Goals as goal

pub returns-in_ok-free-in-Differential-clause-means : goal.returns-in_ok-free-in-Differential-clause-means
returns-in_ok-free-in-Differential-clause-means c =
    let old = c.args.self.now in
    let own = sets_at old c.args.own in
    let kids = map (sets_at old) c.args.kids.now in
    let new = c.and_primes.new.self in
    mapped (MakesPrimes c.in_kids.new.self c.in_ok-free-in-Differential.free new) (λ n. Means new n (put_together c.args.shape own kids).free)
    c.and_primes.result
    (λ n m. subst (λ s. Means new n (put_together s own kids).free) (sym c.in-Differential.is)
    (m.means (in_kids Free kids) c.in_ok-free-in-Differential.ensures.means))
    c.and_primes.ensures.makes

pub returns-in_ok-free-in-Quantified-clause-means : goal.returns-in_ok-free-in-Quantified-clause-means
returns-in_ok-free-in-Quantified-clause-means c =
    let old = c.args.self.now in
    let own = sets_at old c.args.own in
    let kids = map (sets_at old) c.args.kids.now in
    let new = c.without.new.self in
    let free = c.in_ok-free-in-Quantified in
    mapped (Makes without c.in_kids-in-Quantified.new.self free.free c.args.own.bound new) (λ n. Means new n (put_together c.args.shape own kids).free)
    c.without.result
    (λ n m. subst (λ s. Means new n (put_together s own kids).free) (sym c.in-Quantified.is)
    (m.means (in_kids Free kids) own.bound free.ensures.means (means_kept free.ensures.keeps (set_itself c.requires.own.bound))))
    c.without.ensures.makes

pub returns-in_ok-free-in-Evolved-clause-means : goal.returns-in_ok-free-in-Evolved-clause-means
returns-in_ok-free-in-Evolved-clause-means c =
    let old = c.args.self.now in
    let own = sets_at old c.args.own in
    let kids = map (sets_at old) c.args.kids.now in
    let new = c.either.new.self in
    let free = c.in_ok-free-in-Evolved in
    mapped (Makes either c.in_kids-in-Evolved.new.self c.args.own.free free.free new) (λ n. Means new n (put_together c.args.shape own kids).free)
    c.either.result
    (λ n m. subst (λ s. Means new n (put_together s own kids).free) (sym c.in-Evolved.is)
    (m.means own.free (in_kids Free kids) (means_kept free.ensures.keeps (set_itself c.requires.own.free)) free.ensures.means))
    c.either.ensures.makes
