use Rattle.std.proofs.Common.{◌++◌, ap}
use Rattle.dlk_print.proofs.Left.{failed, partly, appended, same_rest}
use Rattle.dlk_nodes.proofs.WrittenLaws.{behind_name, taboo_left}
use Rattle.dlk_nodes.proofs.writing.append_taboo.Goals as goal

pub returns-in_err-append : goal.returns-in_err-append
returns-in_err-append c =
    failed c.from_residual.result c.from_residual.ensures.0
    (partly c.args.x.now _ (taboo_left c.args.out.now.items c.args.before.now c.args.after.now c.args.x.now c.args.taboo.now)
    (rw c.bytes.ensures.bytes at c.in_err-append.ensures.begun))

pub returns-in_err-append_name : goal.returns-in_err-append_name
returns-in_err-append_name c =
    let before = c.args.before.now in
    let after = c.args.after.now in
    let named = appended c.args.x.now (behind_name before after c.args.taboo.now) (taboo_left c.args.out.now.items before after c.args.x.now c.args.taboo.now)
    (rw c.bytes.ensures.bytes at c.in_ok-append.ensures.ok) in
    failed c.from_residual-in_err-append_name.result c.from_residual-in_err-append_name.ensures.0
    (partly (before ++ c.in-Some.y) after (same_rest (ap (behind_name before after) c.in-Some.is) named) c.in_err-append_name.ensures.begun)
