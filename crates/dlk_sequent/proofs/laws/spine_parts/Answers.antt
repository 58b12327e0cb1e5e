use Rattle.std.proofs.Common.{refl, sym}
use Rattle.std.proofs.lemmas.List.{take-map, drop-map}
use Rattle.dlk_sequent.specs.declared.spine.Turn.{Turn}
use Rattle.dlk_sequent.proofs.Turns.{earlier_turns, later_turns, earlier_start}
use Rattle.dlk_sequent.proofs.laws.spine_parts.Goals as goal

pub returns-clause-outer : goal.returns-clause-outer
returns-clause-outer c = λ trees way n are. earlier_turns trees n way.turns way.found are

pub returns-clause-inner : goal.returns-clause-inner
returns-clause-inner c = λ trees way n are. later_turns trees n way.turns way.found are

pub returns-clause-outer_path : goal.returns-clause-outer_path
returns-clause-outer_path c = λ way n. sym (take-map (λ (turn : Turn). turn.kid) n way.turns)

pub returns-clause-inner_path : goal.returns-clause-inner_path
returns-clause-inner_path c = λ way n. sym (drop-map (λ (turn : Turn). turn.kid) n way.turns)

pub returns-clause-outer_top : goal.returns-clause-outer_top
returns-clause-outer_top c = λ way n. earlier_start n way.turns way.found

pub returns-clause-inner_top : goal.returns-clause-inner_top
returns-clause-inner_top c = λ way n. refl
