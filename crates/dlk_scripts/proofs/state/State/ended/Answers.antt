use Rattle.std.proofs.Common.{Err}
use Rattle.std.proofs.lemmas.Result.{err_from_is_err_and}
use Rattle.dlk_scripts.proofs.Owed.{ended_owed}
use Rattle.dlk_scripts.proofs.state.State.ended.Goals as goal

pub returns-in_err-settle-clause-owed : goal.returns-in_err-settle-clause-owed
returns-in_err-settle-clause-owed c =
    let p = err_from_is_err_and c.from_residual.result c.from_residual.ensures.1 in
    rw (p.1, p.2) (ended_owed c.args.self.now.within c.args.self.now (Err c.in_err-settle.field-0.0) c.in_err-settle.ensures.settled
    c.in_err-settle.ensures.owed)
