use Rattle.std.proofs.Common.{List, [], ◌∷◌, ◌++◌, map, sym, subst}
use Rattle.std.proofs.lemmas.Bool.{both_ways}
use Rattle.std.proofs.lemmas.List.{append-nil, take_all}
use Rattle.std.proofs.lemmas.List.Elements.{All-push}
use Rattle.dlk_calculus.specs.Provables.{AreNew, no_more}
use Rattle.dlk_sequent.specs.declared.sequent.Sequent.{Sequent}
use Rattle.dlk_sequent.specs.Sequents.{sequent_at, IsKnown}
use Rattle.dlk_kernel.proofs.LeafLaws.{one_there, one_new, all_pushed}
use Rattle.dlk_kernel.proofs.leaves.append_new.Goals as goal

pub loop-s-init : goal.loop-s-init
loop-s-init g c =
    let old = map (sequent_at (g.S.Store.trees c.args.store.now)) c.args.old.now in
    record { known = rw c.in_ok-all.ensures c.requires.old; joined = ([], no_more, rw c.in_ok-all.ensures (sym (append-nil old))) }

pub is_among-requires-clause-all : goal.is_among-requires-clause-all
is_among-requires-clause-all g c = rw c.as_slice.ensures c.requires.old

pub is_among-requires-clause-known : goal.is_among-requires-clause-known
is_among-requires-clause-known g c =
    rw c.value.ensures (rw (← c.s-item.is) at (c.requires.more c.loop-s.s-index c.s-item.result c.loop-s-test.true))

pub loop-s-preserved-then-is_among : goal.loop-s-preserved-then-is_among
loop-s-preserved-then-is_among g c =
    let trees = g.S.Store.trees c.args.store.now in
    let j = c.loop-s.invariant.joined in
    let there = rw (c.as_slice.ensures, c.value.ensures) at (c.is_among.ensures.0 c.if-is_among.true) in
    record {
      known = c.loop-s.invariant.known;
      joined = (j.0, one_there trees c.args.more.now c.loop-s.s-index c.s-item.result c.loop-s-test.true c.s-item.is _ j.0 there j.1, j.2);
    }

pub loop-s-preserved : goal.loop-s-preserved
loop-s-preserved g c =
    let trees = g.S.Store.trees c.args.store.now in
    let s = c.s-item.result in
    let known : IsKnown trees s = rw (← c.s-item.is) at (c.requires.more c.loop-s.s-index s c.loop-s-test.true) in
    let j = c.loop-s.invariant.joined in
    record {
      known = rw (c.in_ok-push.ensures.ok, c.in_ok-leaf.ensures) (All-push (IsKnown trees) c.loop-s.all s c.loop-s.invariant.known known);
      joined = (
        j.0 ++ sequent_at trees s ∷ [],
        one_new trees c.args.more.now c.loop-s.s-index s c.loop-s-test.true c.s-item.is _ j.0
            (λ a. absurd (both_ways c.is_among.result c.if-is_among.false (c.is_among.ensures.1 (rw (c.as_slice.ensures, c.value.ensures) a)))) j.1,
        rw (c.in_ok-push.ensures.ok, c.in_ok-leaf.ensures) (all_pushed trees c.args.old.now c.loop-s.all j.0 s j.2),
      );
    }

pub returns-clause-joined : goal.returns-clause-joined
returns-clause-joined g c =
    let at = map (sequent_at (g.S.Store.trees c.args.store.now)) in
    let j = c.loop-s.invariant.joined in
    let all_looked : AreNew (at c.args.old.now) (at c.args.more.now) j.0 =
    subst (λ (more : List Sequent). AreNew (at c.args.old.now) (at more) j.0) (take_all c.loop-s.s-index c.args.more.now c.loop-s-test.false) j.1 in
    (j.0, all_looked, j.2)
