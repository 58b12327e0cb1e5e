use Rattle.dlk_axioms.proofs.Parts.{constant_taboo}
use Rattle.dlk_axioms.proofs.making.item.Goals as goal

pub symbol-requires-clause-taboo : goal.symbol-requires-clause-taboo
symbol-requires-clause-taboo c = constant_taboo c.args.item.now c.in-Const.c c.in-Const.taboo c.in-Const.is c.requires
