use Rattle.dlk_nodes.proofs.Stripped.{prefix_found, no_prefix}
use Rattle.dlk_nodes.proofs.parts.behind.Goals as goal

pub returns-clause-found : goal.returns-clause-found
returns-clause-found c = prefix_found c.args.text.now c.args.front.now c.strip_prefix.result c.strip_prefix.ensures.cases

pub returns-clause-none : goal.returns-clause-none
returns-clause-none c = no_prefix c.args.text.now c.args.front.now c.strip_prefix.result c.strip_prefix.ensures.cases
