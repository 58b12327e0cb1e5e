use Rattle.std.proofs.Common.{codes, ◌-◌, [], sym}
use Rattle.std.proofs.lemmas.List.{append-nil}
use Rattle.std.proofs.lemmas.Result.{on_ok_weaker}
use Rattle.dlk_print.proofs.Left.{unbegun, same_rest, appended}
use Rattle.dlk_smt.specs.Smt.{shown_all, times, symbol, base_symbol}
use Rattle.dlk_smt.proofs.Parts.{one_base, all_left}
use Rattle.dlk_smt.proofs.translation.+append_bases.Goals as goal

pub returns : goal.returns
returns t c =
    let none = unbegun c.args.out.now.items (one_base c.args.count c.if-count-eq0.false) in
    let first = appended (codes " |e|") _ none c.in_ok-append.ensures.ok in
    let later = shown_all (times (c.args.count - 1) (symbol base_symbol)) in
    on_ok_weaker c.append_bases.result (λ h. all_left (appended later [] (same_rest (sym (append-nil later)) first) h)) c.append_bases.ensures
