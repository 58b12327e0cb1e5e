use Rattle.dlk_smt.proofs.Gained.{Gains-sequent}
use Rattle.dlk_smt.proofs.script.symbols.Goals as goal

pub returns-clause-variables : goal.returns-clause-variables
returns-clause-variables g c =
    (Gains-sequent c.new-symbols.result c.add_trees.new.self c.add_trees-2.new.self (g.S.Store.trees c.args.store.now) c.args.s.now
    c.as_slice.result.now c.as_slice-2.result.now
    c.as_slice.ensures c.as_slice-2.ensures c.new-symbols.ensures.variables c.new-symbols.ensures.functions c.in_ok-add_trees.ensures
    c.in_ok-add_trees-2.ensures).0

pub returns-clause-functions : goal.returns-clause-functions
returns-clause-functions g c =
    (Gains-sequent c.new-symbols.result c.add_trees.new.self c.add_trees-2.new.self (g.S.Store.trees c.args.store.now) c.args.s.now
    c.as_slice.result.now c.as_slice-2.result.now
    c.as_slice.ensures c.as_slice-2.ensures c.new-symbols.ensures.variables c.new-symbols.ensures.functions c.in_ok-add_trees.ensures
    c.in_ok-add_trees-2.ensures).1
