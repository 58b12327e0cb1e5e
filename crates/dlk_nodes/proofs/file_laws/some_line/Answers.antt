use Rattle.dlk_nodes.proofs.OneLine.{some_line}
use Rattle.dlk_nodes.proofs.SomeTrees.{says_or_not}
use Rattle.dlk_nodes.proofs.file_laws.some_line.Goals as goal

pub returns : goal.returns
returns c = λ nodes text. some_line nodes (says_or_not nodes) text
