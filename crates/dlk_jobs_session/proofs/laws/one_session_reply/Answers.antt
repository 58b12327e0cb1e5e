use Rattle.dlk_jobs_session.proofs.OneSession.{one_session}
use Rattle.dlk_jobs_session.proofs.laws.one_session_reply.Goals as goal

pub returns : goal.returns
returns c = one_session c.one_script.ensures.one c.one_script.ensures.one_fault c.one_script.ensures.not_both c.one_session.ensures.lines
