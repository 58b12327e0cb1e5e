use Rattle.dlk_nodes.proofs.Stripped.{suffix_found, no_suffix}
use Rattle.dlk_nodes.proofs.parts.before.Goals as goal

pub returns-clause-found : goal.returns-clause-found
returns-clause-found c = suffix_found c.args.text.now c.args.end.now c.strip_suffix.result c.strip_suffix.ensures.cases

pub returns-clause-none : goal.returns-clause-none
returns-clause-none c = no_suffix c.args.text.now c.args.end.now c.strip_suffix.result c.strip_suffix.ensures.cases
