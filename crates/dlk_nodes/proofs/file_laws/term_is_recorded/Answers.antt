use Rattle.dlk_nodes.proofs.TermRecorded as law
use Rattle.dlk_nodes.proofs.file_laws.term_is_recorded.Goals as goal

pub returns : goal.returns
returns c = record { ends = law.term_ends; recorded = law.term_recorded }
