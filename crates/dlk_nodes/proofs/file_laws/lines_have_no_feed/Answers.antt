use Rattle.dlk_nodes.proofs.FlatLines as law
use Rattle.dlk_nodes.proofs.file_laws.lines_have_no_feed.Goals as goal

pub returns : goal.returns
returns c = law.line_flat
