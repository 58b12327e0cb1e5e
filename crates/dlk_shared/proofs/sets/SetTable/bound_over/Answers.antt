use Rattle.std.proofs.Common.{sym, subst}
use Rattle.std.specs.Prelude.{map}
use Rattle.dlk_tree.specs.Statics.{either}
use Rattle.dlk_store.specs.declared.listing.Which.TheVariants.{Bound}
use Rattle.dlk_shared.specs.Shapes.{put_together}
use Rattle.dlk_shared.specs.SetTables.{Means, Makes, sets_at, in_kids}
use Rattle.dlk_shared.proofs.SetLemmas.{mapped, means_kept, set_itself}
use Rattle.dlk_shared.proofs.sets.SetTable.bound_over.Goals as goal

pub returns-in_ok-bound-in-Quantified-clause-means : goal.returns-in_ok-bound-in-Quantified-clause-means
returns-in_ok-bound-in-Quantified-clause-means c =
    let old = c.args.self.now in
    let own = sets_at old c.args.own in
    let kids = map (sets_at old) c.args.kids.now in
    let new = c.either.new.self in
    let bound = c.in_ok-bound-in-Quantified in
    mapped (Makes either c.in_kids.new.self bound.bound c.args.own.bound new) (λ n. Means new n (put_together c.args.shape own kids).bound)
    c.either.result
    (λ n m. subst (λ s. Means new n (put_together s own kids).bound) (sym c.in-Quantified.is)
    (m.means (in_kids Bound kids) own.bound bound.ensures.means (means_kept bound.ensures.keeps (set_itself c.requires.own.bound))))
    c.either.ensures.makes
