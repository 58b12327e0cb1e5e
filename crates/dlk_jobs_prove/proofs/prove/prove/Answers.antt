use Rattle.dlk_replies.proofs.Ends.{answers_so}
use Rattle.dlk_jobs_prove.specs.Proves.{Proves}
use Rattle.dlk_jobs_prove.proofs.prove.prove.Goals as goal

pub returns : goal.returns
returns g c =
    answers_so (Proves c.args.model.now c.args.strategy.now) c.prove_on.result c.answer_of-answer.result c.answer_of-answer.ensures c.prove_on.ensures.reply
    c.prove_on.ensures.ended
