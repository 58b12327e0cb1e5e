use Rattle.std.proofs.Common.{◌++◌, refl}
use Rattle.std.specs.Prelude.{codes}
use Rattle.dlk_store.specs.declared.Id.{Id}
use Rattle.dlk_print.proofs.Left.{failed, partly, appended, unbegun, done}
use Rattle.dlk_nodes.specs.Tables.{id_text}
use Rattle.dlk_nodes.proofs.WrittenLaws.{each_left, none_left}
use Rattle.dlk_nodes.proofs.writing.append_behind.Goals as goal

pub loop-id-init : goal.loop-id-init
loop-id-init c = unbegun c.args.out.now.items refl

pub returns-in_err-append : goal.returns-in_err-append
returns-in_err-append c =
    let none : Id = record { 0 = 0 } in
    let at = each_left (λ id. codes " " ++ id_text c.args.table.now id) c.args.ids.now c.loop-id.id-index none c.loop-id-test.true c.loop-id.invariant in
    failed c.from_residual.result c.from_residual.ensures.0 (partly (codes " ") _ at c.in_err-append.ensures.begun)

pub returns-in_err-append_place : goal.returns-in_err-append_place
returns-in_err-append_place c =
    let at = each_left (λ id. codes " " ++ id_text c.args.table.now id) c.args.ids.now c.loop-id.id-index _ c.loop-id-test.true c.loop-id.invariant in
    failed c.from_residual-in_err-append_place.result c.from_residual-in_err-append_place.ensures.0
    (partly _ _ (appended (codes " ") _ at c.in_ok-append.ensures.ok) c.in_err-append_place.ensures.begun)

pub loop-id-preserved : goal.loop-id-preserved
loop-id-preserved c =
    let at = each_left (λ id. codes " " ++ id_text c.args.table.now id) c.args.ids.now c.loop-id.id-index _ c.loop-id-test.true c.loop-id.invariant in
    appended _ _ (appended (codes " ") _ at c.in_ok-append.ensures.ok) c.in_ok-append_place.ensures.ok

pub returns : goal.returns
returns c =
    done _ (none_left (λ id. codes " " ++ id_text c.args.table.now id) c.args.ids.now c.loop-id.id-index c.loop-id-test.false c.loop-id.invariant)
