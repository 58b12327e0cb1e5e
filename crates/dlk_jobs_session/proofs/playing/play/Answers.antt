use Rattle.std.proofs.Common.{take, map, sym, ap, subst, arith}
use Rattle.std.proofs.lemmas.List.{take_all}
use Rattle.dlk_strategy.specs.Runs.{RunsOn}
use Rattle.dlk_session.specs.Held.{state}
use Rattle.dlk_session.specs.Sessions.{Line, Turn, Turns}
use Rattle.dlk_jobs_session.specs.Ties.{line_at, IsKnownLine}
use Rattle.dlk_jobs_session.proofs.LinesKept.{line_kept, line_known}
use Rattle.dlk_jobs_session.proofs.Turned.{Played, none_played, more_played, mapped_more}
use Rattle.dlk_jobs_session.proofs.playing.play.Goals as goal

pub loop-line-init : goal.loop-line-init
loop-line-init g c = record {
  played = none_played (state g.S.Store.trees c.args.session.now) c.new-out.result.items c.new-out.ensures.items;
  grows = g.met.S.Store.grows_refl c.args.session.now.kernel.store;
}

pub play_line-requires : goal.play_line-requires
play_line-requires g c =
    let old = g.S.Store.trees c.args.session.now.kernel.store in
    let now = g.S.Store.trees c.loop-line.session.kernel.store in
    let keeps = g.met.S.Store.grows_keeps c.args.session.now.kernel.store c.loop-line.session.kernel.store c.loop-line.invariant.grows in
    let item = c.line-item.result in
    let known : IsKnownLine old item = subst (IsKnownLine old) (sym c.line-item.is) (c.requires c.loop-line.line-index item c.loop-line-test.true) in
    line_known old now keeps item known

pub loop-line-preserved : goal.loop-line-preserved
loop-line-preserved g c =
    let trees = g.S.Store.trees in
    let old = trees c.args.session.now.kernel.store in
    let now = trees c.loop-line.session.kernel.store in
    let keeps = g.met.S.Store.grows_keeps c.args.session.now.kernel.store c.loop-line.session.kernel.store c.loop-line.invariant.grows in
    let item = c.line-item.result in
    let known : IsKnownLine old item = subst (IsKnownLine old) (sym c.line-item.is) (c.requires c.loop-line.line-index item c.loop-line-test.true) in
    let first = state trees c.args.session.now in
    let mid = state trees c.loop-line.session in
    let next = state trees c.play_line.new.session in
    let played = c.in_ok-play_line.ensures.turn in
    let turn = subst (λ (x : Line). Turn RunsOn mid x played.0 next) (line_kept old now keeps item known) played.1 in
    let items = c.args.lines.now in
    let i = c.loop-line.line-index in
    let more = more_played first mid next (map (line_at old) (take i items)) (line_at old item) played.0 c.loop-line.out.items c.play_line.new.out.items
    c.loop-line.invariant.played turn played.2 in
    record {
      played = subst (λ ls. Played first next ls c.play_line.new.out.items)
          (sym (mapped_more (line_at old) items i item c.loop-line-test.true c.line-item.is)) more;
      grows = g.met.S.Store.grows_trans c.args.session.now.kernel.store c.loop-line.session.kernel.store c.play_line.new.session.kernel.store
          c.loop-line.invariant.grows c.play_line.ensures.grows;
    }

pub returns-clause-turns : goal.returns-clause-turns
returns-clause-turns g c =
    let trees = g.S.Store.trees in
    let old = trees c.args.session.now.kernel.store in
    let all = ap (map (line_at old)) (take_all c.loop-line.line-index c.args.lines.now (omega (arith, c.loop-line-test.false))) in
    let played = c.loop-line.invariant.played in (
      played.answers,
      subst (λ ls. Turns RunsOn (state trees c.args.session.now) ls played.answers (state trees c.loop-line.session)) all played.turns,
      played.out_is,
    )
