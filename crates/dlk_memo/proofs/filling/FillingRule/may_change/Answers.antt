use Rattle.std.proofs.Common.{sym, ◌∙◌}
use Rattle.dlk_store.specs.Stores.{tree}
use Rattle.dlk_calculus.proofs.PathLaws.{fill_without}
use Rattle.dlk_memo.proofs.filling.FillingRule.may_change.Goals as goal

pub returns : goal.returns
returns g c =
    let trees = g.S.Store.trees c.args.store.now in
    record {
      asked = c.has_hole.ensures;
      stays =
          λ e. sym (fill_without (tree trees c.args.self.now.formula) (tree trees c.args.id) (sym c.has_hole.ensures ∙ e));
    }
