use Rattle.std.proofs.Common.{sym, ap, ◌∙◌}
use Rattle.dlk_tacsyn.specs.Steps.{end_choice}
use Rattle.dlk_tacsyn.specs.Ties.{tactic_at}
use Rattle.dlk_tacsyn.specs.States.{frame_at, state_at}
use Rattle.dlk_tacsyn.proofs.Kept.{frame_kept, frame_known}
use Rattle.dlk_tacsyn.proofs.Behind.{finish_ended}
use Rattle.dlk_tacsyn.proofs.reader.Reader.finish.Goals as goal

pub returns-clause-found : goal.returns-clause-found
returns-clause-found g c =
    let old = g.S.Store.trees c.args.store.now in
    let new = g.S.Store.trees c.settled.new.store in
    let keeps = g.met.S.Store.grows_keeps c.args.store.now c.settled.new.store c.in_ok-t.ensures.grows in
    let frames = frame_kept old new keeps c.args.self.brackets.inner c.requires.brackets.inner in
    λ read reading.
    finish_ended read (state_at old c.args.self) (tactic_at new c.in_ok-t.t) (frame_at new c.in_ok-inner.inner) (tactic_at new c.closed.result)
    (c.in_ok-t.ensures.found read reading) (ap (λ z. end_choice z (tactic_at new c.in_ok-t.t)) (sym frames) ∙ c.in_ok-inner.ensures.ended new)
    (sym (c.closed.ensures.closed new))

pub returns-clause-known : goal.returns-clause-known
returns-clause-known g c =
    let old = g.S.Store.trees c.args.store.now in
    let new = g.S.Store.trees c.settled.new.store in
    let keeps = g.met.S.Store.grows_keeps c.args.store.now c.settled.new.store c.in_ok-t.ensures.grows in
    c.closed.ensures.known new (c.in_ok-inner.ensures.known new (frame_known old new keeps c.args.self.brackets.inner c.requires.brackets.inner)
    c.in_ok-t.ensures.known)
