use Rattle.std.proofs.Common.{◌≡◌, ◌<◌, [], ◌∷◌, All, map, length, refl, sym, ap, ◌∙◌, subst, arith}
use Rattle.std.specs.Vec.Iter.{into_iter_items}
use Rattle.std.proofs.lemmas.List.{map-append}
use Rattle.std.proofs.lemmas.List.Elements.{All-push}
use Rattle.dlk_tacsyn.specs.Strategies.{arguments_of}
use Rattle.dlk_tacsyn.specs.Ties.{argument_at, ArgumentIsKnown}
use Rattle.dlk_tacsyn.proofs.Kept.{arguments_kept, arguments_known}
use Rattle.dlk_tacsyn.proofs.Quoted.{arguments_step, arguments_left}
use Rattle.dlk_tacsyn.proofs.argument.arguments.Goals as goal

pub loop-next-preserved : goal.loop-next-preserved
loop-next-preserved g c =
    let old = g.S.Store.trees c.loop-next.store in
    let new = g.S.Store.trees c.argument.new.store in
    let keeps = g.met.S.Store.grows_keeps c.loop-next.store c.argument.new.store c.in_ok-argument.ensures.grows in
    record {
      grows = g.met.S.Store.grows_trans c.args.store.now c.loop-next.store c.argument.new.store c.loop-next.invariant.grows c.in_ok-argument.ensures.grows;
      known = subst (All (ArgumentIsKnown new)) (sym c.in_ok-push.ensures.items)
          (All-push (ArgumentIsKnown new) c.loop-next.all.items c.in_ok-argument.argument
          (arguments_known old new keeps c.loop-next.all.items c.loop-next.invariant.known) c.in_ok-argument.ensures.known);
      goes = λ read reading.
          arguments_step read (arguments_of read c.args.row.wanted.now c.args.row.optional c.args.written)
          (arguments_of read c.loop-next.rest.wanted.now c.loop-next.rest.optional)
          (arguments_of read c.in-Some-split.others.wanted.now c.in-Some-split.others.optional) (into_iter_items c.loop-next.next-iterator)
          (map (argument_at old) c.loop-next.all.items) (map (argument_at new) c.loop-next.all.items)
          c.in-Some-split.kind c.in-Some.next (into_iter_items c.next.new.self) (argument_at new c.in_ok-argument.argument)
          (map (argument_at new) c.push.new.self.items)
          (c.loop-next.invariant.goes read reading) (sym (arguments_kept old new keeps c.loop-next.all.items c.loop-next.invariant.known))
          c.in-Some.ensures.steps.0 (c.in-Some-split.ensures.found read c.in-Some.next (into_iter_items c.next.new.self))
          (c.in_ok-argument.ensures.found read reading)
          (sym (ap (map (argument_at new)) c.in_ok-push.ensures.items ∙ map-append (argument_at new) c.loop-next.all.items (c.in_ok-argument.argument ∷ [])));
    }

pub returns-then-rest-gt0-clause-fault : goal.returns-then-rest-gt0-clause-fault
returns-then-rest-gt0-clause-fault g c =
    let none : length (into_iter_items c.loop-next.next-iterator) ≡ 0 = sym c.loop-next.next-iterator.rest.ok.0 ∙ c.in-None.ensures.steps.0 in
    let some : 0 < length c.loop-next.rest.wanted.now = omega arith in (
      refl,
      λ read reading. c.loop-next.invariant.goes read reading
          ∙ arguments_left read (map (argument_at (g.S.Store.trees c.loop-next.store)) c.loop-next.all.items) c.loop-next.rest.wanted.now
          c.loop-next.rest.optional (into_iter_items c.loop-next.next-iterator) none some,
    )

pub returns-in_err-argument-clause-grows : goal.returns-in_err-argument-clause-grows
returns-in_err-argument-clause-grows g c =
    g.met.S.Store.grows_trans c.args.store.now c.loop-next.store c.argument.new.store c.loop-next.invariant.grows c.argument.ensures.grows

pub returns-in_err-push-clause-grows : goal.returns-in_err-push-clause-grows
returns-in_err-push-clause-grows g c =
    g.met.S.Store.grows_trans c.args.store.now c.loop-next.store c.argument.new.store c.loop-next.invariant.grows c.argument.ensures.grows
