use Rattle.dlk_nodes.proofs.DetailLaws.{whole_candidate, pointed_candidate}
use Rattle.dlk_nodes.proofs.literals.candidate.Goals as goal

pub returns-in-None : goal.returns-in-None
returns-in-None c = whole_candidate c.args.text.now c.in-None.ensures.none _ c.number_of.ensures

pub returns-in-Some : goal.returns-in-Some
returns-in-Some c = pointed_candidate c.args.text.now _ _ c.in-Some.ensures.found _ c.number_of-in-Some.ensures
