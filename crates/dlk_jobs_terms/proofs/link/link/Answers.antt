use Rattle.dlk_replies.proofs.Ends.{answers_so}
use Rattle.dlk_jobs_terms.specs.Links.{Links}
use Rattle.dlk_jobs_terms.proofs.link.link.Goals as goal

pub returns : goal.returns
returns g c =
    answers_so (Links c.args.model.now c.args.term.now c.args.lemma.now) c.link_on.result c.answer_of.result c.answer_of.ensures c.link_on.ensures.reply
    c.link_on.ensures.ended
