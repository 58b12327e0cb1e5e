use Rattle.std.proofs.Common.{◌++◌, sym, ap, subst, ◌∙◌}
use Rattle.std.specs.Prelude.{codes}
use Rattle.std.specs.List.{join_by}
use Rattle.dlk_tree.specs.declared.op.OdeItem.{OdeItem}
use Rattle.dlk_print.specs.Printed.{Begun}
use Rattle.dlk_print.proofs.Left.{failed, partly, appended, first_failed, same_text}
use Rattle.dlk_nodes.specs.Words.{item_text}
use Rattle.dlk_nodes.proofs.WrittenLaws.{later_items, items_left}
use Rattle.dlk_nodes.proofs.writing.append_items.Goals as goal

pub returns-in_err-append_item : goal.returns-in_err-append_item
returns-in_err-append_item c =
    same_text (sym (ap (join_by item_text (codes ",")) c.in-Some.ensures.cases.0))
    (first_failed (item_text c.in-Some.first.now) (later_items c.in-Some.rest.now) c.from_residual.result c.from_residual.ensures.0
    c.in_err-append_item.ensures.begun)

pub returns-in_err-append : goal.returns-in_err-append
returns-in_err-append c =
    let at = items_left c.in-Some.rest.now c.loop-item.item-index c.item-item.result c.loop-item-test.true c.loop-item.invariant in
    failed c.from_residual-in_err-append.result c.from_residual-in_err-append.ensures.0 (partly (codes ",") _ at c.in_err-append.ensures.begun)

pub returns-in_err-append_item-2 : goal.returns-in_err-append_item-2
returns-in_err-append_item-2 c =
    let at = items_left c.in-Some.rest.now c.loop-item.item-index c.item-item.result c.loop-item-test.true c.loop-item.invariant in
    let comma = appended (codes ",") _ at c.in_ok-append.ensures.ok in
    let begun = subst (λ (i : OdeItem). Begun c.append.new.out.items c.append_item-in-loop-item.new.out.items (item_text i))
    c.item-item.is c.in_err-append_item-2.ensures.begun in
    failed c.from_residual-in_err-append_item-2.result c.from_residual-in_err-append_item-2.ensures.0 (partly _ _ comma begun)

pub loop-item-preserved : goal.loop-item-preserved
loop-item-preserved c =
    let at = items_left c.in-Some.rest.now c.loop-item.item-index c.item-item.result c.loop-item-test.true c.loop-item.invariant in
    let comma = appended (codes ",") _ at c.in_ok-append.ensures.ok in
    appended _ _ comma (c.in_ok-append_item-2.ensures.ok ∙ ap (λ (i : OdeItem). c.append.new.out.items ++ item_text i) c.item-item.is)
