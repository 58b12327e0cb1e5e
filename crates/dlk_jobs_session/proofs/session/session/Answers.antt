use Rattle.dlk_replies.proofs.Ends.{answers_so}
use Rattle.dlk_jobs_session.specs.Sessions.{Sessions}
use Rattle.dlk_jobs_session.proofs.session.session.Goals as goal

pub returns : goal.returns
returns g c =
    answers_so (Sessions c.args.model.now c.args.script.now) c.session_on.result c.answer_of.result c.answer_of.ensures c.session_on.ensures.reply
    c.session_on.ensures.ended
