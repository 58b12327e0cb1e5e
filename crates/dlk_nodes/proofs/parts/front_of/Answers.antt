use Rattle.std.proofs.Common.{sym}
use Rattle.dlk_nodes.proofs.Fronts.{front_none, front_some}
use Rattle.dlk_nodes.proofs.parts.front_of.Goals as goal

pub returns-in-None : goal.returns-in-None
returns-in-None c = front_none c.args.text.now (sym c.in-None.ensures)

pub returns-in-Some : goal.returns-in-Some
returns-in-Some c = front_some c.args.text.now c.in-Some.place (sym c.in-Some.ensures)
