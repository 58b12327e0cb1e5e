use Rattle.std.proofs.Common.{sym, ap, ◌∙◌}
use Rattle.dlk_vars.specs.Rows.{has_number}
use Rattle.dlk_shared.specs.SetTables.{row_at}
use Rattle.dlk_shared.specs.Signs.{SignTable, stands}
use Rattle.dlk_shared.proofs.SignsFound.{found_stands, missing_stands}
use Rattle.dlk_shared.proofs.signs.SignTable.has.Goals as goal

pub returns-in-Some : goal.returns-in-Some
returns-in-Some c =
    let row = row_at c.args.self.now.signs c.args.n in
    let s = c.args.s.now in
    let k = c.in-Some.k in
    let syms = c.self.inside.syms.keys in
    let same = ap (λ (t : SignTable). t.syms) c.self.view_is in
    let at = found_stands (has_number row) syms s k c.as_slice.ensures.unique (sym c.in-Some.ensures.index) in
    c.has.ensures ∙ ap (λ r. has_number r k) c.sign.ensures ∙ sym at ∙ ap (λ l. stands (has_number row) 0 l s) same

pub returns-in-None : goal.returns-in-None
returns-in-None c =
    let row = row_at c.args.self.now.signs c.args.n in
    let s = c.args.s.now in
    let syms = c.self.inside.syms.keys in
    let same = ap (λ (t : SignTable). t.syms) c.self.view_is in
    sym (missing_stands (has_number row) syms s (sym c.in-None.ensures.found)) ∙ ap (λ l. stands (has_number row) 0 l s) same
