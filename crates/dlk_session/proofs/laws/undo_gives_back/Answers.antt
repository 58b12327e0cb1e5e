use Rattle.dlk_session.proofs.Turning.{gives_back, undo_counts}
use Rattle.dlk_session.proofs.laws.undo_gives_back.Goals as goal

pub returns-clause-steps : goal.returns-clause-steps
returns-clause-steps g c = λ now next last here goals strategy says kept h undo.
    (gives_back g.R.Runner.becomes c.laws.ensures.taken c.laws.ensures.counted c.laws.ensures.failed now next last here goals strategy says kept h undo).steps

pub returns-clause-rows : goal.returns-clause-rows
returns-clause-rows g c = λ now next last here goals strategy says kept h undo.
    (gives_back g.R.Runner.becomes c.laws.ensures.taken c.laws.ensures.counted c.laws.ensures.failed now next last here goals strategy says kept h undo).rows

pub returns-clause-earlier : goal.returns-clause-earlier
returns-clause-earlier g c = λ now next last here goals strategy says kept h undo.
    (gives_back g.R.Runner.becomes c.laws.ensures.taken c.laws.ensures.counted c.laws.ensures.failed now next last here goals strategy says kept h undo).earlier

pub returns-clause-used : goal.returns-clause-used
returns-clause-used g c = λ now next last here goals strategy says h undo. undo_counts next last says undo
