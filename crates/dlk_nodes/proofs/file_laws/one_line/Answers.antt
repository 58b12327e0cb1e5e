use Rattle.dlk_nodes.proofs.OneLine as law
use Rattle.dlk_nodes.proofs.file_laws.one_line.Goals as goal

pub returns : goal.returns
returns c = law.one_line
