use Rattle.dlk_axioms.proofs.Parts.{function_taboo, predicate_taboo, system_items}
use Rattle.dlk_axioms.proofs.making.operator.Goals as goal

pub symbol-requires-in-UnitFun-clause-taboo : goal.symbol-requires-in-UnitFun-clause-taboo
symbol-requires-in-UnitFun-clause-taboo c = function_taboo c.args.label.now c.in-UnitFun.f c.in-UnitFun.taboo c.in-UnitFun.is c.requires

pub symbol-requires-in-UnitPred-clause-taboo : goal.symbol-requires-in-UnitPred-clause-taboo
symbol-requires-in-UnitPred-clause-taboo c = predicate_taboo c.args.label.now c.in-UnitPred.p c.in-UnitPred.taboo c.in-UnitPred.is c.requires

pub items-requires : goal.items-requires
items-requires c = system_items c.args.label.now c.in-System.all c.in-System.is c.requires
