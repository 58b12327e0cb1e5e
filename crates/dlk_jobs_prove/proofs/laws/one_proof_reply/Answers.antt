use Rattle.dlk_jobs_prove.proofs.OneProof.{one_prove}
use Rattle.dlk_jobs_prove.proofs.OneReply.{one_generate}
use Rattle.dlk_jobs_prove.proofs.laws.one_proof_reply.Goals as goal

pub returns-clause-proves : goal.returns-clause-proves
returns-clause-proves c = one_prove c.one_strategy.ensures.one c.one_strategy.ensures.no_fault c.one_strategy.ensures.one_fault c.one_outcome.ensures

pub returns-clause-generates : goal.returns-clause-generates
returns-clause-generates c = one_generate c.one_strategy.ensures.one c.one_strategy.ensures.no_fault c.one_strategy.ensures.one_fault c.one_outcome.ensures
