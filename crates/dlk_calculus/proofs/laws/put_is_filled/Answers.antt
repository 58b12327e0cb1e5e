use Rattle.dlk_calculus.proofs.PathLaws.{put_fill, put_plug}
use Rattle.dlk_calculus.proofs.laws.put_is_filled.Goals as goal

pub returns-clause-hole : goal.returns-clause-hole
returns-clause-hole c = λ e path f none. put_fill f e path none

pub returns-clause-dot : goal.returns-clause-dot
returns-clause-dot c = λ e path a t none p. put_plug a e path t none p
