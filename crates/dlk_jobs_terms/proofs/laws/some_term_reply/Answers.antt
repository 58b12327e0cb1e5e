use Rattle.dlk_jobs_terms.proofs.SomeReply.{some_convert, some_link, some_trim}
use Rattle.dlk_jobs_terms.proofs.laws.some_term_reply.Goals as goal

pub returns-clause-converts : goal.returns-clause-converts
returns-clause-converts c = some_convert

pub returns-clause-links : goal.returns-clause-links
returns-clause-links c = some_link c.accepted_says_steps.ensures.taken c.given_unless_against.ensures.against c.linked_is_joined.ensures.row

pub returns-clause-trims : goal.returns-clause-trims
returns-clause-trims c = some_trim c.accepted_says_steps.ensures.taken c.rule_is_its_word_and_arguments.ensures c.trimmed_is_taken.ensures.last
