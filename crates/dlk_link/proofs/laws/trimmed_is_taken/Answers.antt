use Rattle.std.proofs.Common.{append-nil, sym, []}
use Rattle.dlk_link.proofs.Kept.{trims_keep}
use Rattle.dlk_link.proofs.Named.{shows_same}
use Rattle.dlk_link.proofs.laws.trimmed_is_taken.Goals as goal

pub returns-clause-rows : goal.returns-clause-rows
returns-clause-rows c = λ term kept numbers rows takes trims.
    trims_keep (λ rows step p g w few. (c.taken_as_given.ensures rows step p).1 (g, w, few)) (λ rows step p given. (c.taken_as_given.ensures rows step p).0
    given)
    c.one_provable.ensures term term [] kept numbers rows (sym (append-nil term)) takes trims

pub returns-clause-last : goal.returns-clause-last
returns-clause-last c =
    shows_same (λ rows step p g w few. (c.taken_as_given.ensures rows step p).1 (g, w, few)) (λ rows step p given. (c.taken_as_given.ensures rows step p).0
    given)
    c.one_provable.ensures
