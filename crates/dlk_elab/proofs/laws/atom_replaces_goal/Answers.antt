use Rattle.dlk_elab.proofs.Replaced.{replaced, counted}
use Rattle.dlk_elab.proofs.laws.atom_replaces_goal.Goals as goal

pub returns-clause-count : goal.returns-clause-count
returns-clause-count c = λ rows goal atom s a new p q made replaces first last. counted rows a goal atom s new p q made replaces first last

pub returns-clause-new : goal.returns-clause-new
returns-clause-new c = λ rows goal atom s a made. replaced rows a goal atom s made
