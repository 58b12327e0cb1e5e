use Rattle.std.proofs.lemmas.Result.{err_from_is_err_and}
use Rattle.dlk_store.specs.Stores.{IsId}
use Rattle.dlk_calculus.proofs.PlaceLaws.{At_All}
use Rattle.dlk_tacsyn.specs.Ties.{argument_at}
use Rattle.dlk_elab.proofs.BoxPlans.{no_place, found, no_box_there}
use Rattle.dlk_elab.proofs.boxes.box_at.Goals as goal

pub returns-in_err-place-clause-fault : goal.returns-in_err-place-clause-fault
returns-in_err-place-clause-fault g c =
    let trees = g.S.Store.trees c.args.store.now in
    let p = err_from_is_err_and c.from_residual.result c.from_residual.ensures.1 in
    rw (p.1, p.2) (no_place trees c.args.s.now c.args.arg.now c.in_err-place.field-0.0 c.in_err-place.ensures.fault)

pub box_parts-requires : goal.box_parts-requires
box_parts-requires g c =
    At_All (IsId (g.S.Store.trees c.args.store.now)) c.args.s.now.succ c.in_ok-place.place c.in_ok-place.formula c.requires.known.succ
    c.in_ok-place.ensures.stands

pub returns-in_default-clause-fault : goal.returns-in_default-clause-fault
returns-in_default-clause-fault g c =
    let trees = g.S.Store.trees c.args.store.now in
    no_box_there trees c.args.s.now (argument_at trees c.args.arg.now) c.in_ok-place.place c.in_ok-place.formula (c.in_ok-place.ensures.place trees)
    c.in_ok-place.ensures.stands c.in_default.ensures

pub returns-clause-found : goal.returns-clause-found
returns-clause-found g c =
    let trees = g.S.Store.trees c.args.store.now in
    found trees c.args.s.now (argument_at trees c.args.arg.now) _ c.in_ok-place.formula c.requires.formulas (c.in_ok-place.ensures.place trees)
    c.in_ok-place.ensures.stands c.in-Some.ensures
