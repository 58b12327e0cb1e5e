use Rattle.dlk_jobs_check.proofs.Models.{model_small, model_shallow}
use Rattle.dlk_jobs_prove.proofs.SomeProof.{some_prove}
use Rattle.dlk_jobs_prove.proofs.SomeReply.{some_generate}
use Rattle.dlk_jobs_prove.proofs.laws.some_proof_reply.Goals as goal

pub returns-clause-proves : goal.returns-clause-proves
returns-clause-proves c =
    some_prove c.strategy_or_fault.ensures
    (λ bytes t model f says reads. c.some_outcome.ensures t f (c.fit_strategy.ensures.fitting bytes t says) (c.fit_strategy.ensures.names bytes t says)
    (c.tree_texts.ensures.formulas model f reads) (model_small model f reads) (model_shallow model f reads))
    c.run_shows_formula.ensures

pub returns-clause-generates : goal.returns-clause-generates
returns-clause-generates c =
    some_generate c.strategy_or_fault.ensures
    (λ bytes t model f says reads. c.some_outcome.ensures t f (c.fit_strategy.ensures.fitting bytes t says) (c.fit_strategy.ensures.names bytes t says)
    (c.tree_texts.ensures.formulas model f reads) (model_small model f reads) (model_shallow model f reads))
    c.run_shows_formula.ensures
