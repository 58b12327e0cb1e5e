use Rattle.std.specs.Prelude.{codes}
use Rattle.dlk_grammar.specs.Shown.{spell}
use Rattle.dlk_grammar.specs.Symbols.{shown_symbol}
use Rattle.dlk_print.proofs.Left.{failed, partly, appended, last}
use Rattle.dlk_nodes.specs.Tables.{id_text}
use Rattle.dlk_nodes.proofs.WrittenLaws.{three_left}
use Rattle.dlk_nodes.proofs.spelling.append_pair.Goals as goal

pub returns-in_err-symbol_text : goal.returns-in_err-symbol_text
returns-in_err-symbol_text c =
    let symbol = spell (shown_symbol c.args.pair.now.sym) in
    let none = three_left c.args.out.now.items symbol (codes "~>") (id_text c.args.table.now c.args.pair.now.by) in
    failed c.from_residual.result c.from_residual.ensures.0 (partly symbol _ none c.in_err-symbol_text.ensures.memory)

pub returns-in_err-append : goal.returns-in_err-append
returns-in_err-append c =
    let symbol = spell (shown_symbol c.args.pair.now.sym) in
    let number = id_text c.args.table.now c.args.pair.now.by in
    let none = three_left c.args.out.now.items symbol (codes "~>") number in
    let there = appended symbol _ none c.in_ok-symbol_text.ensures.ok in
    failed c.from_residual-in_err-append.result c.from_residual-in_err-append.ensures.0 (partly (codes "~>") number there c.in_err-append.ensures.begun)

pub returns : goal.returns
returns c =
    let symbol = spell (shown_symbol c.args.pair.now.sym) in
    let number = id_text c.args.table.now c.args.pair.now.by in
    let none = three_left c.args.out.now.items symbol (codes "~>") number in
    let there = appended symbol _ none c.in_ok-symbol_text.ensures.ok in
    last (appended (codes "~>") number there c.in_ok-append.ensures.ok) c.append_place.ensures
