use Rattle.std.specs.Prelude.{codes, ◌++◌}
use Rattle.std.specs.Fmt.{decimal}
use Rattle.dlk_print.proofs.Left.{failed, partly, appended, last}
use Rattle.dlk_lines.proofs.Appended.{unbegun_facts}
use Rattle.dlk_lines.proofs.writing.write_rename.Goals as goal

pub returns-in_err-append_number : goal.returns-in_err-append_number
returns-in_err-append_number c =
    let none = unbegun_facts c.args.out.now.items (codes "rename ") (decimal c.args.fact) c.args.x.now c.args.y.now in
    failed c.from_residual.result c.from_residual.ensures.0 (partly (codes "rename " ++ decimal c.args.fact) _ none c.in_err-append_number.ensures.begun)

pub returns-in_err-append_name : goal.returns-in_err-append_name
returns-in_err-append_name c =
    let none = unbegun_facts c.args.out.now.items (codes "rename ") (decimal c.args.fact) c.args.x.now c.args.y.now in
    let fact = appended (codes "rename " ++ decimal c.args.fact) _ none c.in_ok-append_number.ensures.ok in
    failed c.from_residual-in_err-append_name.result c.from_residual-in_err-append_name.ensures.0
    (partly (codes " " ++ c.args.x.now) (codes " " ++ c.args.y.now) fact c.in_err-append_name.ensures.begun)

pub returns : goal.returns
returns c =
    let none = unbegun_facts c.args.out.now.items (codes "rename ") (decimal c.args.fact) c.args.x.now c.args.y.now in
    let fact = appended (codes "rename " ++ decimal c.args.fact) _ none c.in_ok-append_number.ensures.ok in
    last (appended (codes " " ++ c.args.x.now) (codes " " ++ c.args.y.now) fact c.in_ok-append_name.ensures.ok) c.append_name-2.ensures
