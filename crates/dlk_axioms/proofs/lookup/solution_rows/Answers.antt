use Rattle.std.proofs.Common.{refl}
use Rattle.dlk_axioms.proofs.lookup.solution_rows.Goals as goal

pub returns : goal.returns
returns c = refl
