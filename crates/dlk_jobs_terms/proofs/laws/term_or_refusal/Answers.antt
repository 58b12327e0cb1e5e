use Rattle.dlk_jobs_terms.proofs.CarriedOut.{convert_whole, link_whole, trim_whole}
use Rattle.dlk_jobs_terms.proofs.laws.term_or_refusal.Goals as goal

pub returns-clause-converts : goal.returns-clause-converts
returns-clause-converts c = convert_whole

pub returns-clause-links : goal.returns-clause-links
returns-clause-links c = link_whole

pub returns-clause-trims : goal.returns-clause-trims
returns-clause-trims c = trim_whole
