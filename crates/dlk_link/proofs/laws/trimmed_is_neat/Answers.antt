use Rattle.dlk_link.proofs.Named.{named_later}
use Rattle.dlk_link.proofs.Unlike.{unlike}
use Rattle.dlk_link.proofs.laws.trimmed_is_neat.Goals as goal

pub returns-clause-unlike : goal.returns-clause-unlike
returns-clause-unlike c = λ term kept trimmed. unlike term term kept trimmed.0 trimmed.1

pub returns-clause-named : goal.returns-clause-named
returns-clause-named c = λ term kept rows takes some trimmed.
    named_later (λ rows step p g w few. (c.taken_as_given.ensures rows step p).1 (g, w, few)) (λ rows step p given. (c.taken_as_given.ensures rows step p).0
    given)
    c.one_provable.ensures term kept trimmed.0 rows takes some trimmed.1
