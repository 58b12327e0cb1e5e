use Rattle.std.proofs.lemmas.Result.{IfOk-weaker}
use Rattle.dlk_store.specs.Stores.{tree}
use Rattle.dlk_tacsyn.specs.Ties.{tactic_at}
use Rattle.dlk_strategy.specs.Runs.{RunsModel}
use Rattle.dlk_replies.specs.Shown.{reply_of}
use Rattle.dlk_replies.proofs.Ends.{ends_so}
use Rattle.dlk_jobs_prove.specs.Proved.{IsRunRefused, RefusesRun}
use Rattle.dlk_jobs_prove.proofs.ProveAnswers.{run_refuses}
use Rattle.dlk_jobs_prove.proofs.prove.run.Goals as goal

pub returns-in-Err-clause-refused : goal.returns-in-Err-clause-refused
returns-in-Err-clause-refused g c =
    let trees = g.S.Store.trees c.args.kernel.now.store in
    let becomes = RunsModel (tactic_at trees c.args.tactic.now) (tree trees c.args.formula) in
    let fault = c.in-Err.fault in
    ends_so (RefusesRun becomes) c.refuse_run.result c.end_by.result c.end_by.ensures
    (IfOk-weaker c.refuse_run.result (λ r. IsRunRefused fault (reply_of r)) (λ r. RefusesRun becomes (reply_of r))
    (λ r is. run_refuses becomes fault (reply_of r) c.in-Err.ensures.fault is) c.refuse_run.ensures)
