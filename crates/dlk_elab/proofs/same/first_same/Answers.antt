use Rattle.std.proofs.Common.{◌<◌, length, ap, arith}
use Rattle.std.proofs.lemmas.List.{length-map}
use Rattle.dlk_store.specs.Stores.{tree}
use Rattle.dlk_sequent.specs.Sequents.{sequent_at}
use Rattle.dlk_elab.proofs.Sames.{none_same, sides_found, sides_more}
use Rattle.dlk_elab.proofs.same.first_same.Goals as goal

pub returns-in-Some-clause-found : goal.returns-in-Some-clause-found
returns-in-Some-clause-found g c =
    let less : c.loop-i.i < length c.as_slice-left.result.now = omega arith in
    sides_found (g.S.Store.trees c.args.store.now) c.args.s.now c.as_slice-left.result.now c.as_slice-right.result.now c.loop-i.i _ c.as_slice-left.ensures
    c.as_slice-right.ensures less c.in-Some.j c.loop-i.invariant c.in-Some.ensures.found

pub loop-i-preserved : goal.loop-i-preserved
loop-i-preserved g c =
    let less : c.loop-i.i < length c.as_slice-left.result.now = omega arith in
    sides_more (g.S.Store.trees c.args.store.now) c.args.s.now c.as_slice-left.result.now c.as_slice-right.result.now c.loop-i.i _ c.as_slice-left.ensures
    c.as_slice-right.ensures less c.loop-i.invariant c.in_default.ensures.none

pub returns-clause-none : goal.returns-clause-none
returns-clause-none g c =
    let n = length-map c.args.s.now.ante (tree (g.S.Store.trees c.args.store.now)) in
    let m = ap length c.as_slice-left.ensures in
    none_same (sequent_at (g.S.Store.trees c.args.store.now) c.args.s.now) c.loop-i.i (omega (arith, n, m)) c.loop-i.invariant
