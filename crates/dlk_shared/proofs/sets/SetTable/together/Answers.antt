use Rattle.std.proofs.Common.{subst}
use Rattle.dlk_shared.specs.Shapes.{put_together}
use Rattle.dlk_shared.specs.SetTables.{Means}
use Rattle.dlk_shared.proofs.SetLemmas.{means_kept, keeps_trans, sets_at_kept, kids_sets_kept, are_sets_kept, all_sets_kept}
use Rattle.dlk_shared.proofs.sets.SetTable.together.Goals as goal

pub bound_over-requires-clause-own : goal.bound_over-requires-clause-own
bound_over-requires-clause-own c = are_sets_kept c.in_ok-free.ensures.keeps c.requires.own

pub bound_over-requires-clause-kids : goal.bound_over-requires-clause-kids
bound_over-requires-clause-kids c = all_sets_kept c.in_ok-free.ensures.keeps c.args.kids.now c.requires.kids

pub bound_over-requires-clause-empty : goal.bound_over-requires-clause-empty
bound_over-requires-clause-empty c = means_kept c.in_ok-free.ensures.keeps c.requires.empty

pub returns-in_err-bound-clause-keeps : goal.returns-in_err-bound-clause-keeps
returns-in_err-bound-clause-keeps c = keeps_trans c.in_ok-free.ensures.keeps c.in_err-bound.ensures.keeps

pub must_over-requires-clause-empty : goal.must_over-requires-clause-empty
must_over-requires-clause-empty c = means_kept (keeps_trans c.in_ok-free.ensures.keeps c.in_ok-bound.ensures.keeps) c.requires.empty

pub must_over-requires-clause-own : goal.must_over-requires-clause-own
must_over-requires-clause-own c = are_sets_kept (keeps_trans c.in_ok-free.ensures.keeps c.in_ok-bound.ensures.keeps) c.requires.own

pub must_over-requires-clause-kids : goal.must_over-requires-clause-kids
must_over-requires-clause-kids c =
    all_sets_kept (keeps_trans c.in_ok-free.ensures.keeps c.in_ok-bound.ensures.keeps) c.args.kids.now c.requires.kids

pub returns-in_err-must-clause-keeps : goal.returns-in_err-must-clause-keeps
returns-in_err-must-clause-keeps c = keeps_trans (keeps_trans c.in_ok-free.ensures.keeps c.in_ok-bound.ensures.keeps) c.in_err-must.ensures.keeps

pub returns-clause-means : goal.returns-clause-means
returns-clause-means c =
    let shape = c.args.shape in
    let own = c.args.own in
    let kids = c.args.kids.now in
    let first = c.in_ok-free.ensures.keeps in
    let second = c.in_ok-bound.ensures.keeps in
    let third = c.in_ok-must.ensures.keeps in
    let later = keeps_trans first second in
    let own_then = sets_at_kept first c.requires.own in
    let kids_then = kids_sets_kept first kids c.requires.kids in
    let own_last = sets_at_kept later c.requires.own in
    let kids_last = kids_sets_kept later kids c.requires.kids in
    record {
      free = means_kept (keeps_trans second third) c.in_ok-free.ensures.means;
      bound = means_kept third (subst (Means c.bound_over.new.self c.in_ok-bound.bound)
          (λ i. (put_together shape (own_then i) (kids_then i)).bound) c.in_ok-bound.ensures.means);
      must = subst (Means c.must_over.new.self c.in_ok-must.must)
          (λ i. (put_together shape (own_last i) (kids_last i)).must) c.in_ok-must.ensures.means;
    }

pub returns-clause-keeps : goal.returns-clause-keeps
returns-clause-keeps c = keeps_trans (keeps_trans c.in_ok-free.ensures.keeps c.in_ok-bound.ensures.keeps) c.in_ok-must.ensures.keeps
