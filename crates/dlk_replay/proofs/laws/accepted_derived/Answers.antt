use Rattle.dlk_calculus.proofs.Histories.{History-derives}
use Rattle.dlk_replay.proofs.Verdicts.{accepted_history}
use Rattle.dlk_replay.proofs.laws.accepted_derived.Goals as goal

pub returns-clause-history : goal.returns-clause-history
returns-clause-history c = accepted_history

pub returns-clause-derived : goal.returns-clause-derived
returns-clause-derived c = λ lines rows last is. History-derives rows (accepted_history lines rows last is)
