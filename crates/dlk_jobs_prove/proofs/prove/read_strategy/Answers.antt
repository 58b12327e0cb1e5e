use Rattle.std.proofs.lemmas.Result.{IfOk-weaker}
use Rattle.dlk_replies.specs.Shown.{reply_of}
use Rattle.dlk_replies.proofs.Ends.{ends_so}
use Rattle.dlk_jobs_prove.specs.Proved.{IsStrategyRefused, RefusesStrategy}
use Rattle.dlk_jobs_prove.proofs.ProveAnswers.{strategy_refuses}
use Rattle.dlk_jobs_prove.proofs.prove.read_strategy.Goals as goal

pub returns-in-Ok-clause-runnable : goal.returns-in-Ok-clause-runnable
returns-in-Ok-clause-runnable g c = record { known = c.in-Ok.ensures.known; of_text = c.in-Ok.ensures.fitting }

pub returns-in-Err-clause-refused : goal.returns-in-Err-clause-refused
returns-in-Err-clause-refused g c =
    let text = c.args.text.now in
    let fault = c.in-Err.fault in
    ends_so (RefusesStrategy text) c.refuse_strategy.result c.end_by.result c.end_by.ensures
    (IfOk-weaker c.refuse_strategy.result (λ r. IsStrategyRefused fault (reply_of r)) (λ r. RefusesStrategy text (reply_of r))
    (λ r is. strategy_refuses text fault (reply_of r) c.in-Err.ensures.fault is) c.refuse_strategy.ensures)
