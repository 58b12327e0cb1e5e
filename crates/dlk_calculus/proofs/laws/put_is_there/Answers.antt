use Rattle.dlk_calculus.proofs.PathLaws.{put_there, put_itself, put_made, put_sort}
use Rattle.dlk_calculus.proofs.laws.put_is_there.Goals as goal

pub returns-clause-there : goal.returns-clause-there
returns-clause-there c = put_there

pub returns-clause-itself : goal.returns-clause-itself
returns-clause-itself c = put_itself

pub returns-clause-made : goal.returns-clause-made
returns-clause-made c = λ e path s new made new_made h same. put_made s new same new_made e path made h

pub returns-clause-sort : goal.returns-clause-sort
returns-clause-sort c = λ e path s new h same. put_sort s new same e path h
