use Rattle.dlk.proofs.SomeAnswer.{some_reply}
use Rattle.dlk.proofs.laws.some_reply.Goals as goal

pub returns : goal.returns
returns c = some_reply c.some_response.ensures
