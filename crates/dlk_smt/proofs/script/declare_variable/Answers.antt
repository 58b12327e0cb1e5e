use Rattle.std.proofs.Common.{codes}
use Rattle.dlk_print.proofs.Left.{unbegun, appended, last}
use Rattle.dlk_smt.specs.Smt.{variable_symbol}
use Rattle.dlk_smt.proofs.Parts.{line_parts}
use Rattle.dlk_smt.proofs.script.declare_variable.Goals as goal

pub returns : goal.returns
returns c =
    let none = unbegun c.args.out.now.items (line_parts (codes "(declare-const ") (variable_symbol c.args.v.now) (codes " Real)")) in
    let opened = appended (codes "(declare-const ") _ none c.in_ok-append.ensures.ok in
    let named = appended (variable_symbol c.args.v.now) _ opened c.in_ok-append_variable.ensures in
    (last named c.append-2.ensures).ok
