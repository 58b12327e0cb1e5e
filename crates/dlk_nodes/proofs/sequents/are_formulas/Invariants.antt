use Rattle.dlk_nodes.proofs.FormulasRead.{FirstFormulas}
use Rattle.dlk_nodes.proofs.sequents.are_formulas.Given as goal

-- the trees so far are formulas
abbrev pub invariant-loop-id : goal.invariant-loop-id
invariant-loop-id g l = FirstFormulas (g.S.Store.trees l.store) l.ids l.id-index
