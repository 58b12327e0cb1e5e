use Rattle.dlk_sequent.proofs.Turns.{start_known, found_known, found_stands}
use Rattle.dlk_sequent.proofs.laws.spine_leads.Goals as goal

pub returns-clause-top : goal.returns-clause-top
returns-clause-top c = λ trees way are. start_known trees way.turns way.found are

pub returns-clause-found : goal.returns-clause-found
returns-clause-found c = λ trees way are. found_known trees way.turns way.found are

pub returns-clause-leads : goal.returns-clause-leads
returns-clause-leads c = λ trees way are. found_stands trees way.turns way.found are
