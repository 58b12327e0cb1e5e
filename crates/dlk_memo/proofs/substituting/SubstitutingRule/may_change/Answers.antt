use Rattle.std.proofs.Common.{sym, ◌∙◌}
use Rattle.dlk_tree.specs.declared.op.Op.TheVariants.{True}
use Rattle.dlk_tree.specs.Trees.{node, no_kids}
use Rattle.dlk_store.specs.Stores.{tree}
use Rattle.dlk_sequent.specs.Substitutions.{pairs_at}
use Rattle.dlk_subst.proofs.Unchanged.{subst_itself}
use Rattle.dlk_memo.proofs.Rules.{none_occurs}
use Rattle.dlk_memo.proofs.substituting.SubstitutingRule.may_change.Goals as goal

pub returns : goal.returns
returns g c =
    let trees = g.S.Store.trees c.args.store.now in
    let t = tree trees c.args.id in
    let pairs = pairs_at trees c.args.self.now.pairs.now in
    let made = g.met.S.Store.well_made c.args.store.now c.args.id.0 (node True no_kids) c.requires.known in
    record {
      asked = c.may_occur.ensures;
      stays = λ e. subst_itself pairs t made (none_occurs t pairs (sym c.may_occur.ensures ∙ e));
    }
