use Rattle.std.proofs.Common.{sym, ◌∙◌}
use Rattle.dlk_tacsyn.specs.Strategies.{Says}
use Rattle.dlk_tacsyn.specs.Steps.{Whole, state}
use Rattle.dlk_tacsyn.specs.Ties.{tactic_at}
use Rattle.dlk_tacsyn.specs.States.{frame_at, stack_at}
use Rattle.dlk_tacsyn.proofs.Kept.{stack_kept, frame_kept, brackets_known}
use Rattle.dlk_tacsyn.proofs.Behind.{call_closed}
use Rattle.dlk_tacsyn.proofs.reader.after_call.Goals as goal

pub returns-in_ok-t-in-Close-clause-found : goal.returns-in_ok-t-in-Close-clause-found
returns-in_ok-t-in-Close-clause-found g c =
    let old = g.S.Store.trees c.args.store.now in
    let new = g.S.Store.trees c.atom.new.store in
    let keeps = g.met.S.Store.grows_keeps c.args.store.now c.atom.new.store c.in_ok-t-in-Close.ensures.grows in
    let stacks = stack_kept old new keeps c.args.brackets.outer.items c.requires.outer in
    let frames = frame_kept old new keeps c.args.brackets.inner c.requires.inner in
    λ read reading.
    call_closed read c.args.part.at c.args.part.kind (stack_at old c.args.brackets.outer.items) (frame_at old c.args.brackets.inner) c.args.call
    c.in-Some-2.written (tactic_at new c.in_ok-t-in-Close.t)
    c.in-Close.is (c.in_ok-written-in-Close.ensures.all ∙ c.in-Some-2.is) (c.in_ok-t-in-Close.ensures.found read reading)
    ∙ (λ i. Says (state (sym stacks i) (sym frames i) (Whole (tactic_at new c.in_ok-t-in-Close.t))))

pub returns-in_ok-t-in-Close-clause-known : goal.returns-in_ok-t-in-Close-clause-known
returns-in_ok-t-in-Close-clause-known g c =
    let keeps = g.met.S.Store.grows_keeps c.args.store.now c.atom.new.store c.in_ok-t-in-Close.ensures.grows in
    record {
      brackets = brackets_known (g.S.Store.trees c.args.store.now) (g.S.Store.trees c.atom.new.store) keeps c.args.brackets c.requires;
      last = c.in_ok-t-in-Close.ensures.known;
    }
