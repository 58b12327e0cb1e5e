use Rattle.dlk_jobs_text.proofs.SomeReply.{some_print, some_list, some_substitution}
use Rattle.dlk_jobs_text.proofs.laws.some_text_reply.Goals as goal

pub returns-clause-prints : goal.returns-clause-prints
returns-clause-prints c = some_print

pub returns-clause-lists : goal.returns-clause-lists
returns-clause-lists c = some_list

pub returns-clause-substitutes : goal.returns-clause-substitutes
returns-clause-substitutes c = some_substitution
