use Rattle.dlk_sequent.specs.Spines.{top}
use Rattle.dlk_sequent.proofs.Turns.{turns_kept, start_known, found_known}
use Rattle.dlk_sequent.proofs.laws.spine_stays.Goals as goal

pub returns-clause-spine : goal.returns-clause-spine
returns-clause-spine c = λ old new way keeps are. turns_kept keeps way.turns way.found are

pub returns-clause-top : goal.returns-clause-top
returns-clause-top c = λ old new way keeps are. keeps.same (top way) (start_known old way.turns way.found are)

pub returns-clause-found : goal.returns-clause-found
returns-clause-found c = λ old new way keeps are. keeps.same way.found (found_known old way.turns way.found are)
