use Rattle.dlk_nodes.proofs.PartsRead as law
use Rattle.dlk_nodes.proofs.file_laws.written_trees_are_read.Goals as goal

pub returns : goal.returns
returns c = record { sequent = law.sequent_read; formula = law.formula_read; pairs = law.pairs_read }
