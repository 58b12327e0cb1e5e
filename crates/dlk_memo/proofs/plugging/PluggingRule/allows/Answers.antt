use Rattle.std.proofs.Common.{sym, ◌∙◌}
use Rattle.dlk_store.specs.Stores.{kid_trees}
use Rattle.dlk_calculus.specs.Plug.{IsClear}
use Rattle.dlk_subst.specs.Results.{args_at}
use Rattle.dlk_memo.proofs.Binders.{asked, asks_nothing}
use Rattle.dlk_memo.proofs.plugging.PluggingRule.allows.Goals as goal

pub returns-in-Some : goal.returns-in-Some
returns-in-Some g c =
    let trees = g.S.Store.trees c.args.store.now in
    record {
      asked = asked (IsClear (args_at trees c.args.self.now.args.now)) c.args.op.now (kid_trees trees c.args.kids.now) c.in-Some.x
          (sym c.in_ok-x.ensures.bound ∙ c.in-Some.is) c.is_clear.result c.is_clear.ensures;
    }

pub returns-in-None : goal.returns-in-None
returns-in-None g c =
    let trees = g.S.Store.trees c.args.store.now in
    record {
      asked = asks_nothing (IsClear (args_at trees c.args.self.now.args.now)) c.args.op.now (kid_trees trees c.args.kids.now)
          (sym c.in_ok-x.ensures.bound ∙ c.in-None.is);
    }
