use Rattle.std.proofs.Common.{◌<◌, length, sym, arith}
use Rattle.std.proofs.lemmas.List.{length-map}
use Rattle.dlk_store.specs.Stores.{tree}
use Rattle.dlk_elab.proofs.Sames.{clear_end, ids_found, ids_more}
use Rattle.dlk_elab.proofs.same.first_place.Goals as goal

pub returns-then-same-clause-found : goal.returns-then-same-clause-found
returns-then-same-clause-found g c =
    let less : c.loop-i.i < length c.args.side.now = omega arith in
    ids_found (g.S.Store.trees c.args.store.now) c.args.side.now c.loop-i.i _ less (tree (g.S.Store.trees c.args.store.now) c.args.f) c.loop-i.invariant
    (sym (c.same.ensures.0 c.if-same.true))

pub loop-i-preserved : goal.loop-i-preserved
loop-i-preserved g c =
    let less : c.loop-i.i < length c.args.side.now = omega arith in
    ids_more (g.S.Store.trees c.args.store.now) c.args.side.now c.loop-i.i _ less (tree (g.S.Store.trees c.args.store.now) c.args.f) c.loop-i.invariant
    (λ e. let t = c.same.ensures.1 (sym e) in let f = c.if-same.false in cc)

pub returns-clause-none : goal.returns-clause-none
returns-clause-none g c =
    let n = length-map c.args.side.now (tree (g.S.Store.trees c.args.store.now)) in
    clear_end _ c.loop-i.i _ (omega (arith, n)) c.loop-i.invariant
