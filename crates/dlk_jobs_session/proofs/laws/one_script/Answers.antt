use Rattle.dlk_replay.specs.Files.{file_lines}
use Rattle.dlk_jobs_session.proofs.ScriptLaws.{one_lines, one_wrong, not_wrong, some_lines}
use Rattle.dlk_jobs_session.proofs.laws.one_script.Goals as goal

pub returns-clause-one : goal.returns-clause-one
returns-clause-one c = λ bytes a b. one_lines c.one_strategy.ensures.one (file_lines bytes) a b

pub returns-clause-one_fault : goal.returns-clause-one_fault
returns-clause-one_fault c = λ bytes m n. one_wrong (file_lines bytes) m n

pub returns-clause-not_both : goal.returns-clause-not_both
returns-clause-not_both c = λ bytes lines n. not_wrong (file_lines bytes) lines n

pub returns-clause-some : goal.returns-clause-some
returns-clause-some c = λ bytes. some_lines c.strategy_or_fault.ensures c.one_strategy.ensures.no_fault (file_lines bytes)
