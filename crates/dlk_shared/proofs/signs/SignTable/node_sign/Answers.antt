use Rattle.std.proofs.Common.{◌||◌}
use Rattle.std.specs.List.{list_any}
use Rattle.dlk_tree.specs.Occurs.{has_symbol}
use Rattle.dlk_tree.specs.declared.op.Sym.{Sym}
use Rattle.dlk_shared.specs.Signs.{sign_at, Signs}
use Rattle.dlk_shared.proofs.SetLemmas.{mapped}
use Rattle.dlk_shared.proofs.SignLemmas.{in_kids_kept, signs_same}
use Rattle.dlk_shared.proofs.signs.SignTable.node_sign.Goals as goal

pub returns-clause-signs : goal.returns-clause-signs
returns-clause-signs c =
    let old = c.args.self.now in
    let mid = c.own.new.self in
    let new = c.with_kids.new.self in
    let kids = c.args.kids.now in
    let own = c.in_ok-own in
    mapped (λ n. Signs new n (λ (s : Sym). sign_at mid own.own s || list_any (λ k. sign_at mid k s) kids))
    (λ n. Signs new n (λ (s : Sym). has_symbol s c.args.op.now || list_any (λ k. sign_at old k s) kids)) c.with_kids.result
    (λ n m. signs_same (λ s i. own.ensures.signs.members s i || in_kids_kept own.ensures.keeps kids c.requires s i) m)
    c.with_kids.ensures.signs
