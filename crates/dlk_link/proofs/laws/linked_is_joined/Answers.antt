use Rattle.dlk_link.proofs.Linked.{linked_row, linked_fault}
use Rattle.dlk_link.proofs.laws.linked_is_joined.Goals as goal

pub returns-clause-row : goal.returns-clause-row
returns-clause-row c = λ term lemma steps rows others after p q takes_term takes_lemma last concludes linked some takes.
    linked_row term lemma steps rows others p q takes_term takes_lemma last concludes linked after some takes

pub returns-clause-fault : goal.returns-clause-fault
returns-clause-fault c = λ term lemma steps rows others p q why takes_term takes_lemma last concludes linked.
    linked_fault term lemma steps rows others p q takes_term takes_lemma last concludes linked c.one_fault.ensures why
