use Rattle.dlk_recorder.proofs.FewNodes as law
use Rattle.dlk_recorder.proofs.laws.nodes_are_fewer_than_bytes.Goals as goal

pub returns : goal.returns
returns c = law.few_nodes
