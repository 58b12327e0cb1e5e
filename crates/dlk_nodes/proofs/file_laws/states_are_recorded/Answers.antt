use Rattle.dlk_nodes.proofs.Recordings as law
use Rattle.dlk_nodes.proofs.file_laws.states_are_recorded.Goals as goal

pub returns : goal.returns
returns c = record { has = law.recorded_state; steps = law.state_recorded }
