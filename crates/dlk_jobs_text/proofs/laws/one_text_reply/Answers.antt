use Rattle.dlk_jobs_text.proofs.OneReply.{one_print, one_list}
use Rattle.dlk_jobs_text.proofs.OneSubstitution.{one_substitution}
use Rattle.dlk_jobs_text.proofs.laws.one_text_reply.Goals as goal

pub returns-clause-prints : goal.returns-clause-prints
returns-clause-prints c = one_print

pub returns-clause-lists : goal.returns-clause-lists
returns-clause-lists c = one_list

pub returns-clause-substitutes : goal.returns-clause-substitutes
returns-clause-substitutes c = one_substitution
