use Rattle.std.proofs.Common.{◌↔◌, IsTrue, subst}
use Rattle.dlk_store.specs.Stores.{kid_trees}
use Rattle.dlk_calculus.specs.Subst.{IsAdmissible}
use Rattle.dlk_sequent.specs.Substitutions.{pairs_at}
use Rattle.dlk_subst.specs.Scopes.{scope_set}
use Rattle.dlk_subst.proofs.pairs.admits.Goals as goal

pub returns : goal.returns
returns g c =
    let trees = g.S.Store.trees c.args.store.now in
    subst (λ X. X) (λ i. IsTrue c.is_admissible.result ↔ IsAdmissible (pairs_at trees c.args.pairs.now) (scope_set trees (c.scope-scope.ensures i))
    (kid_trees trees (c.reach-reached.ensures i))) c.is_admissible.ensures
