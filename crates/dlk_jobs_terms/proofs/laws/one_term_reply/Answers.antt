use Rattle.dlk_jobs_terms.proofs.OneReply.{one_convert, one_link, one_trim}
use Rattle.dlk_jobs_terms.proofs.laws.one_term_reply.Goals as goal

pub returns-clause-converts : goal.returns-clause-converts
returns-clause-converts c = one_convert

pub returns-clause-links : goal.returns-clause-links
returns-clause-links c = one_link c.one_provable.ensures c.one_fault.ensures

pub returns-clause-trims : goal.returns-clause-trims
returns-clause-trims c = one_trim
