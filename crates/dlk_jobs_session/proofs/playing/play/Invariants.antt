use Rattle.std.proofs.Common.{take, map}
use Rattle.dlk_session.specs.Held.{state}
use Rattle.dlk_jobs_session.specs.Ties.{line_at}
use Rattle.dlk_jobs_session.proofs.Turned.{Played}
use Rattle.dlk_jobs_session.proofs.playing.play.Given as goal

abbrev pub invariant-loop-line : goal.invariant-loop-line
invariant-loop-line g l = record {
  played : Played (state g.S.Store.trees l.initial.session) (state g.S.Store.trees l.session)
      (map (line_at (g.S.Store.trees l.initial.session.kernel.store)) (take l.line-index l.lines)) l.out.items;
  grows : g.S.Store.grows l.initial.session.kernel.store l.session.kernel.store;
}
