use Rattle.dlk_nodes.proofs.OneState as law
use Rattle.dlk_nodes.proofs.laws.lines_differ.Goals as goal

pub returns : goal.returns
returns c = record { node_or_step = law.node_or_step; step = law.one_step_by_nodes; done = law.done_is_no_node }
