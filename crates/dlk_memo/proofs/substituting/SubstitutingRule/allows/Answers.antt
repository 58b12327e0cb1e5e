use Rattle.std.proofs.Common.{sym, ◌∙◌}
use Rattle.dlk_store.specs.Stores.{kid_trees}
use Rattle.dlk_calculus.specs.Subst.{IsAdmissible}
use Rattle.dlk_sequent.specs.Substitutions.{pairs_at}
use Rattle.dlk_memo.proofs.Binders.{asked, asks_nothing}
use Rattle.dlk_memo.proofs.substituting.SubstitutingRule.allows.Goals as goal

pub returns-in-Some : goal.returns-in-Some
returns-in-Some g c =
    let trees = g.S.Store.trees c.args.store.now in
    record {
      asked = asked (IsAdmissible (pairs_at trees c.args.self.now.pairs.now)) c.args.op.now (kid_trees trees c.args.kids.now) c.in-Some.x
          (sym c.in_ok-x.ensures.bound ∙ c.in-Some.is) c.is_admissible.result c.is_admissible.ensures;
    }

pub returns-in-None : goal.returns-in-None
returns-in-None g c =
    let trees = g.S.Store.trees c.args.store.now in
    record {
      asked = asks_nothing (IsAdmissible (pairs_at trees c.args.self.now.pairs.now)) c.args.op.now (kid_trees trees c.args.kids.now)
          (sym c.in_ok-x.ensures.bound ∙ c.in-None.is);
    }
