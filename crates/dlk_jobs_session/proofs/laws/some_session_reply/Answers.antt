use Rattle.dlk_replay.specs.Files.{file_lines}
use Rattle.dlk_jobs_session.proofs.SomeSession.{lines_run, some_session}
use Rattle.dlk_jobs_session.proofs.laws.some_session_reply.Goals as goal

pub returns : goal.returns
returns c =
    some_session c.some_outcome_on.ensures c.session_is_kept.ensures.line c.tree_texts.ensures.formulas c.session_is_kept.ensures.begins
    (λ bytes lines. lines_run c.fit_strategy.ensures.fitting c.fit_strategy.ensures.names (file_lines bytes) lines) c.one_script.ensures.some
