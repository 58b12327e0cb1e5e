use Rattle.std.proofs.Common.{sym, ◌∙◌}
use Rattle.dlk_store.specs.Stores.{tree}
use Rattle.dlk_calculus.proofs.PathLaws.{plug_itself}
use Rattle.dlk_subst.specs.Results.{args_at}
use Rattle.dlk_memo.proofs.plugging.PluggingRule.may_change.Goals as goal

pub returns : goal.returns
returns g c =
    let trees = g.S.Store.trees c.args.store.now in
    record { asked = c.has_dots.ensures; stays = λ e. plug_itself (args_at trees c.args.self.now.args.now) (tree trees c.args.id) (sym c.has_dots.ensures ∙ e) }
