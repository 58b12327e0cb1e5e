use Rattle.dlk_nodes.proofs.Recordings as law
use Rattle.dlk_nodes.proofs.file_laws.recorded_lines_have_no_feed.Goals as goal

pub returns : goal.returns
returns c = law.recorded_flat
