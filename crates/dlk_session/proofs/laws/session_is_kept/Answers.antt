use Rattle.dlk_session.proofs.Turning.{begins_kept, turn_kept, kept_room}
use Rattle.dlk_session.proofs.laws.session_is_kept.Goals as goal

pub returns-clause-begins : goal.returns-clause-begins
returns-clause-begins g c = begins_kept

pub returns-clause-line : goal.returns-clause-line
returns-clause-line g c = turn_kept g.R.Runner.becomes c.laws.ensures.taken c.laws.ensures.counted c.laws.ensures.failed

pub returns-clause-room : goal.returns-clause-room
returns-clause-room g c = kept_room
