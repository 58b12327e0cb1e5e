use Rattle.std.proofs.Common.{◌≡◌, ℕ, ◌==◌, ◌||◌, ◌∙◌, arith}
use Rattle.std.proofs.lemmas.Bool.{ne_eqb}
use Rattle.std.proofs.lemmas.Option.{slice_get_within}
use Rattle.dlk_tree.specs.Tests.{sym_eq}
use Rattle.dlk_tree.specs.declared.op.Sym.{Sym}
use Rattle.dlk_vars.specs.Rows.{has_number}
use Rattle.dlk_shared.specs.SetTables.{row_at}
use Rattle.dlk_shared.specs.Signs.{sign_at}
use Rattle.dlk_shared.proofs.SignLemmas.{row_signs, stands_or, stands_first, sign_kept, sign_at_kept, keeps_trans, turned}
use Rattle.dlk_shared.proofs.signs.SignTable.with.Goals as goal

pub returns-clause-signs : goal.returns-clause-signs
returns-clause-signs c =
    let old = c.args.self.now in
    let mid = c.number.new.self in
    let x = c.args.s.now in
    let k = c.in_ok-number.number in
    let at = c.in_ok-number.ensures.at in
    let keeps = c.in_ok-number.ensures.keeps in
    let now = sign_kept keeps c.requires in
    let row = row_at mid.signs c.args.n in
    let set = c.in_ok-set.set in
    let numbers : (m : ℕ) → has_number set m ≡ (has_number row m || m == k) =
    λ m. c.in_ok-set.ensures.numbers m ∙ (λ i. has_number (c.sign.ensures i) m || m == k) in
    let there = slice_get_within mid.syms k x at in
    row_signs c.keep.result c.keep.new.self mid.syms set (λ (t : Sym). sym_eq t x || sign_at old c.args.n t)
    c.keep.ensures.known c.keep.ensures.row c.keep.ensures.syms
    (λ m l. numbers m ∙ (λ i. now.within m l i || ne_eqb m k (λ q. omega (arith, q, l, there)) i))
    (λ t. stands_or (λ m. m == k) (has_number row) (has_number set) 0 mid.syms t (λ m. numbers m ∙ turned (has_number row m) (m == k))
    ∙ (λ i. stands_first mid.syms k x t at i || sign_at_kept keeps c.requires t i))

pub returns-clause-keeps : goal.returns-clause-keeps
returns-clause-keeps c = keeps_trans c.in_ok-number.ensures.keeps c.keep.ensures.keeps
