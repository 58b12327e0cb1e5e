use Rattle.dlk_link.proofs.OneLinked.{one_linked, some_linked}
use Rattle.dlk_link.proofs.laws.one_linked.Goals as goal

pub returns-clause-one : goal.returns-clause-one
returns-clause-one c = λ term lemma steps others goals s. one_linked term lemma goals s steps others

pub returns-clause-some : goal.returns-clause-some
returns-clause-some c = some_linked
