use Rattle.std.specs.Prelude.{codes, ◌++◌}
use Rattle.std.specs.Fmt.{decimal}
use Rattle.dlk_print.proofs.Left.{failed, partly, appended, last}
use Rattle.dlk_lines.proofs.Appended.{unbegun_facts}
use Rattle.dlk_lines.proofs.writing.write_merge.Goals as goal

pub returns-in_err-append_number : goal.returns-in_err-append_number
returns-in_err-append_number c =
    let none = unbegun_facts c.args.out.now.items (codes "merge ") (decimal c.args.fact) (decimal c.args.goal) (decimal c.args.by) in
    failed c.from_residual.result c.from_residual.ensures.0 (partly (codes "merge " ++ decimal c.args.fact) _ none c.in_err-append_number.ensures.begun)

pub returns-in_err-append_number-2 : goal.returns-in_err-append_number-2
returns-in_err-append_number-2 c =
    let none = unbegun_facts c.args.out.now.items (codes "merge ") (decimal c.args.fact) (decimal c.args.goal) (decimal c.args.by) in
    let fact = appended (codes "merge " ++ decimal c.args.fact) _ none c.in_ok-append_number.ensures.ok in
    failed c.from_residual-in_err-append_number-2.result c.from_residual-in_err-append_number-2.ensures.0
    (partly (codes " " ++ decimal c.args.goal) (codes " " ++ decimal c.args.by) fact c.in_err-append_number-2.ensures.begun)

pub returns : goal.returns
returns c =
    let none = unbegun_facts c.args.out.now.items (codes "merge ") (decimal c.args.fact) (decimal c.args.goal) (decimal c.args.by) in
    let fact = appended (codes "merge " ++ decimal c.args.fact) _ none c.in_ok-append_number.ensures.ok in
    last (appended (codes " " ++ decimal c.args.goal) (codes " " ++ decimal c.args.by) fact c.in_ok-append_number-2.ensures.ok) c.append_number-3.ensures
