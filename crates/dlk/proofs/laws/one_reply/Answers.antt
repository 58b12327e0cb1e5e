use Rattle.dlk.proofs.OneAnswer.{one_reply}
use Rattle.dlk.proofs.laws.one_reply.Goals as goal

pub returns : goal.returns
returns c = one_reply c.one_response.ensures
