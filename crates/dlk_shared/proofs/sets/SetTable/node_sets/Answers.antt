use Rattle.std.proofs.Common.{◌≡◌, sym, subst, ◌∙◌}
use Rattle.std.specs.Prelude.{map, IfOk}
use Rattle.dlk_tree.specs.Statics.{statics}
use Rattle.dlk_shared.specs.Shapes.{put_together, statics_together}
use Rattle.dlk_shared.specs.SetTables.{MeanSets, sets_at}
use Rattle.dlk_shared.proofs.SetLemmas.{keeps_trans, means_kept, mean_sets_is, mean_are_sets, kids_sets_kept, all_sets_kept}
use Rattle.dlk_shared.proofs.sets.SetTable.node_sets.Goals as goal

pub together-requires : goal.together-requires
together-requires c =
    let keeps = keeps_trans c.in_ok-empty.ensures.keeps c.in_ok-own.ensures.keeps in
    record {
      own = mean_are_sets c.in_ok-own.ensures.means;
      kids = all_sets_kept keeps c.args.kids.now c.requires;
      empty = means_kept c.in_ok-own.ensures.keeps c.in_ok-empty.ensures.means;
    }

pub returns-clause-keeps : goal.returns-clause-keeps
returns-clause-keeps c = keeps_trans (keeps_trans c.in_ok-empty.ensures.keeps c.in_ok-own.ensures.keeps) c.together.ensures.keeps

pub returns-clause-means : goal.returns-clause-means
returns-clause-means c =
    let op = c.args.op.now in
    let kids = c.args.kids.now in
    let old = map (sets_at c.args.self.now) kids in
    let mid = c.own_sets.new.self in
    let own = mean_sets_is c.in_ok-own.ensures.means in
    let keeps = keeps_trans c.in_ok-empty.ensures.keeps c.in_ok-own.ensures.keeps in
    let then = kids_sets_kept keeps kids c.requires in
    let is : put_together c.shape_of.result (sets_at mid c.in_ok-own.own) (map (sets_at mid) kids) ≡ statics op old =
    (λ i. put_together (c.shape_of.ensures i) (own i) (then i)) ∙ sym (statics_together op old) in
    subst (λ s. IfOk c.together.result (λ n. MeanSets c.together.new.self n s)) is c.together.ensures.means
