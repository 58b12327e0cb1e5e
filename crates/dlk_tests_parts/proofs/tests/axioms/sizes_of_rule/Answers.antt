use Rattle.std.proofs.Common.{◌<◌, List, length, get_or, sym, ap, subst, ◌∙◌, arith}
use Rattle.dlk_sequent.specs.declared.sequent.Sequent.{Sequent}
use Rattle.dlk_sequent.specs.Sequents.{IsKnown}
use Rattle.dlk_tests_parts.proofs.tests.axioms.sizes_of_rule.Goals as goal

pub size_alone_right-requires : goal.size_alone_right-requires
size_alone_right-requires g c =
    let only = c.only-item.result in
    let rule = rw c.in-Some.is at c.in_ok-premises.ensures.rule in
    let is = c.only-item.is ∙ ap (λ (all : List Sequent). get_or all 0 only) c.as_slice.ensures.value in
    let there : 0 < length c.in-Some.premises.items = omega (arith, c.as_slice.ensures.len, ap (λ (all : List Sequent). length all) c.as_slice.ensures.value) in
    subst (IsKnown (g.S.Store.trees c.axiomatic_rule.new.store)) (sym is) (rule.2.premises_known 0 only there)
