use Rattle.std.proofs.lemmas.Result.{err_from_is_err_and}
use Rattle.dlk_rules.proofs.Quantified.{rebound, not_rebound}
use Rattle.dlk_rules.proofs.quantifiers.rebound_at.Goals as goal

pub returns-in_err-bound-clause-fault : goal.returns-in_err-bound-clause-fault
returns-in_err-bound-clause-fault g c =
    let r = err_from_is_err_and c.from_residual-in_err-bound.result c.from_residual-in_err-bound.ensures.1 in
    rw (r.1, r.2) (not_rebound c.args.y.now c.in_ok-id.ensures.ok c.in_err-bound.field-0.0 c.in_err-bound.ensures.fault)

pub returns-clause-ok : goal.returns-clause-ok
returns-clause-ok g c = rebound c.args.y.now c.in_ok-id.ensures.ok c.in_ok-bound.ensures.made
