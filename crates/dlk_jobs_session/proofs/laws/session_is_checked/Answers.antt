use Rattle.dlk_calculus.specs.Sequents.{alone_right}
use Rattle.dlk_jobs_session.proofs.Checked.{written_checked}
use Rattle.dlk_jobs_session.proofs.SavedSteps.{begins_good, turns_good}
use Rattle.dlk_jobs_session.proofs.laws.session_is_checked.Goals as goal

pub returns : goal.returns
returns c =
    written_checked
    (λ f now last lines answers named begins turns.
    turns_good c.run_on_is_taken.ensures.taken c.run_on_has_symbols.ensures c.run_on_keeps_conclusion.ensures c.session_is_kept.ensures.line (alone_right f)
    now last lines answers named (begins_good f now begins (c.session_is_kept.ensures.begins f now begins)) turns) c.fit_strategy.ensures.names
    c.recorded_is_written.ensures c.written_is_checked.ensures
