use Rattle.std.proofs.Common.{◌≡◌, ◌<◌, ◌||◌, ◌&&◌, length, get_or, ap, ◌∙◌, arith}
use Rattle.dlk_tree.specs.Tests.{sym_eq}
use Rattle.dlk_vars.specs.Rows.{has_number}
use Rattle.dlk_shared.specs.SetTables.{row_at}
use Rattle.dlk_shared.specs.Signs.{SignTable}
use Rattle.dlk_shared.proofs.SignsFound.{stands_more}
use Rattle.dlk_shared.proofs.signs.SignTable.list.Goals as goal

pub loop-k-preserved : goal.loop-k-preserved
loop-k-preserved c t =
    let syms = c.args.self.now.syms in
    let k = c.loop-k.k in
    let w = c.index-syms-k.result in
    let row = row_at c.args.self.now.signs c.args.n in
    let same = c.as_slice-syms.ensures.keys ∙ ap (λ (t : SignTable). t.syms) c.self.view_is in
    let lt : k < length syms = omega (arith, c.loop-k-test.true, ap length same) in
    let at : w ≡ get_or syms k w = c.index-syms-k.is ∙ ap (λ l. get_or l k w) same in
    let passes = c.has.ensures ∙ ap (λ r. has_number r k) c.sign-sign.ensures in
    let inv = c.loop-k.invariant t in
    c.in_ok-list_symbol.ensures.adds t ∙ (λ i. inv i || (sym_eq t (at i) && passes i)) ∙ stands_more (has_number row) syms k w t lt
