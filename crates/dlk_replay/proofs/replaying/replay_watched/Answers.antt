use Rattle.dlk_replay.proofs.replaying.replay_watched.Goals as goal

pub returns-clause-seen : goal.returns-clause-seen
returns-clause-seen g c = let shown = c.in_ok-outcome.ensures.shows in (shown.taken, shown.says, shown.seen)
