use Rattle.std.proofs.Common.{◌≡◌, ◌||◌, ◌&&◌, true, cond, sym, ap, subst, ◌∙◌}
use Rattle.std.specs.List.{list_any}
use Rattle.std.specs.Ordering.{eq_by_cmp}
use Rattle.std.specs.declared.cmp.Ordering.{Ordering}
use Rattle.std.proofs.Math.Bool.{and-true}
use Rattle.dlk_tree.specs.Tests.{sym_eq}
use Rattle.dlk_tree.specs.declared.op.Sym.{Sym}
use Rattle.dlk_tree.proofs.Listing.{sym_inserted, sym_cmp_derived}
use Rattle.dlk_shared.proofs.listed.list_symbol.Goals as goal

pub returns-in_ok-insert : goal.returns-in_ok-insert
returns-in_ok-insert c =
    let old = c.args.listed.now.keys in
    let new = c.insert.new.self.keys in
    let x = c.in_ok-clone.field-0 in
    let s = c.args.s.now in
    let has = subst (λ (cmp : Sym → Sym → Ordering). (q : Sym) → list_any (eq_by_cmp cmp q) new ≡ cond (eq_by_cmp cmp x q) true
    (list_any (eq_by_cmp cmp q) old)) sym_cmp_derived c.in_ok-insert.ensures.updates.0 in
    let adds = subst (λ t. (q : Sym) → list_any (sym_eq q) new ≡ (list_any (sym_eq q) old || sym_eq q t)) (sym c.in_ok-clone.ensures.cases)
    (sym_inserted old new x has) in
    record { adds = λ t. adds t ∙ ap (λ b. list_any (sym_eq t) old || b) (sym (and-true (sym_eq t s)) ∙ ap (λ b. sym_eq t s && b) (sym c.if-wanted.true)) }
