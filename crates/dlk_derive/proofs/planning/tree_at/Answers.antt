use Rattle.dlk_sequent.specs.Sequents.{sequent_at}
use Rattle.dlk_uses.specs.Uses.{formula_at}
use Rattle.dlk_derive.proofs.Places.{none_there, at_formula}
use Rattle.dlk_derive.proofs.planning.tree_at.Goals as goal

pub returns-in_default-clause-found : goal.returns-in_default-clause-found
returns-in_default-clause-found g c =
    let trees = g.S.Store.trees c.args.store.now in
    none_there (formula_at (sequent_at trees c.args.s.now) c.args.place) c.args.path.now (c.in_default.ensures trees)

pub returns-clause-found : goal.returns-clause-found
returns-clause-found g c =
    at_formula (g.S.Store.trees c.args.store.now) c.args.s.now c.args.place c.args.path.now c.in-Some.formula c.subtree.result c.in-Some.ensures
    c.subtree.ensures.found
