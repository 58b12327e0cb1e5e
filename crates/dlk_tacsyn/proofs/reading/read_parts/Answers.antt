use Rattle.std.proofs.Common.{◌≡◌, [], length, sym, ◌∙◌}
use Rattle.std.specs.Vec.Iter.{into_iter_items}
use Rattle.dlk_tacsyn.specs.Faults.{IsTacSyntaxOf}
use Rattle.dlk_tacsyn.specs.Strategies.{Says, Fails}
use Rattle.dlk_tacsyn.specs.Steps.{start, run, finish, outcome_of}
use Rattle.dlk_tacsyn.specs.Ties.{tactic_at}
use Rattle.dlk_tacsyn.specs.States.{ByReading, state_at}
use Rattle.dlk_tacsyn.proofs.Kept.{ok_map, err_map}
use Rattle.dlk_tacsyn.proofs.Quoted.{weaken}
use Rattle.dlk_tacsyn.proofs.Behind.{nil_of, run_next, run_ended}
use Rattle.dlk_tacsyn.proofs.reading.read_parts.Goals as goal

pub loop-part-init : goal.loop-part-init
loop-part-init g c =
    let trees = g.S.Store.trees c.args.store.now in
    record {
      grows = g.met.S.Store.grows_refl c.args.store.now;
      known = c.new-reader.ensures.known trees;
      goes = λ read reading. (λ i. run read (sym (c.new-reader.ensures.start trees) i) (sym c.into_iter-part-iterator.ensures.into_iter_gives.0 i));
    }

pub loop-part-preserved : goal.loop-part-preserved
loop-part-preserved g c = record {
  grows = g.met.S.Store.grows_trans c.args.store.now c.loop-part.store c.take.new.store c.loop-part.invariant.grows c.in_ok-reader.ensures.grows;
  known = c.in_ok-reader.ensures.known;
  goes = λ read reading.
      run_next read (run read start c.args.parts.items) (state_at (g.S.Store.trees c.loop-part.store) c.loop-part.reader)
      (state_at (g.S.Store.trees c.take.new.store) c.in_ok-reader.reader)
      c.in-Some.part (into_iter_items c.loop-part.part-iterator) (into_iter_items c.next.new.self) (c.loop-part.invariant.goes read reading)
      c.in-Some.ensures.steps.0 (c.in_ok-reader.ensures.found read reading);
}

pub returns-clause-found : goal.returns-clause-found
returns-clause-found g c =
    let none : length (into_iter_items c.loop-part.part-iterator) ≡ 0 = sym c.loop-part.part-iterator.rest.ok.0 ∙ c.in-None.ensures.steps.0 in
    let ended : into_iter_items c.loop-part.part-iterator ≡ [] = nil_of (into_iter_items c.loop-part.part-iterator) none in
    ok_map (λ t. ByReading (λ read. finish read (state_at (g.S.Store.trees c.loop-part.store) c.loop-part.reader) ≡ Says
    (tactic_at (g.S.Store.trees c.finish.new.store) t)))
    (λ t. ByReading (λ read. outcome_of read c.args.parts.items ≡ Says (tactic_at (g.S.Store.trees c.finish.new.store) t)))
    (λ t h read reading.
    run_ended read (run read start c.args.parts.items) (state_at (g.S.Store.trees c.loop-part.store) c.loop-part.reader)
    (into_iter_items c.loop-part.part-iterator) (Says (tactic_at (g.S.Store.trees c.finish.new.store) t))
    (c.loop-part.invariant.goes read reading) ended (h read reading))
    c.finish.result c.finish.ensures.found

pub returns-clause-fault : goal.returns-clause-fault
returns-clause-fault g c =
    let none : length (into_iter_items c.loop-part.part-iterator) ≡ 0 = sym c.loop-part.part-iterator.rest.ok.0 ∙ c.in-None.ensures.steps.0 in
    let ended : into_iter_items c.loop-part.part-iterator ≡ [] = nil_of (into_iter_items c.loop-part.part-iterator) none in
    err_map (IsTacSyntaxOf (λ f. ByReading (λ read. finish read (state_at (g.S.Store.trees c.loop-part.store) c.loop-part.reader) ≡ Fails f)))
    (IsTacSyntaxOf (λ f. ByReading (λ read. outcome_of read c.args.parts.items ≡ Fails f)))
    (λ e h. weaken (λ f. ByReading (λ read. finish read (state_at (g.S.Store.trees c.loop-part.store) c.loop-part.reader) ≡ Fails f))
    (λ f. ByReading (λ read. outcome_of read c.args.parts.items ≡ Fails f))
    (λ f w read reading.
    run_ended read (run read start c.args.parts.items) (state_at (g.S.Store.trees c.loop-part.store) c.loop-part.reader)
    (into_iter_items c.loop-part.part-iterator) (Fails f)
    (c.loop-part.invariant.goes read reading) ended (w read reading))
    e h)
    c.finish.result c.finish.ensures.fault
