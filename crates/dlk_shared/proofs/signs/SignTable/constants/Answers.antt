use Rattle.std.proofs.Common.{◌≡◌, ◌<◌, ◌||◌, ◌∷◌, ◌∙◌, [], length, take, ap, sym, subst, refl, arith}
use Rattle.std.specs.List.{list_any}
use Rattle.std.proofs.lemmas.List.{take_all}
use Rattle.dlk_tree.specs.Occurs.{constants}
use Rattle.dlk_tree.specs.Tests.{sym_eq}
use Rattle.dlk_shared.specs.Signs.{Signs}
use Rattle.dlk_shared.proofs.SignLemmas.{signs_same, keeps_trans, constants_more}
use Rattle.dlk_shared.proofs.signs.SignTable.constants.Goals as goal

pub loop-item-init : goal.loop-item-init
loop-item-init c = record { keeps = c.in_ok-all.ensures.keeps; signs = signs_same (λ s. refl) c.in_ok-all.ensures.signs }

pub loop-item-preserved : goal.loop-item-preserved
loop-item-preserved c =
    let items = c.args.items.now in
    let k = c.loop-item.item-index in
    let item = c.item-item.result in
    let is = c.item-item.is in
    let inv = c.loop-item.invariant in
    let more = c.in_ok-all-2.ensures in
    let lt : k < length items = omega (arith, c.loop-item-test.true) in
    record {
      keeps = keeps_trans inv.keeps more.keeps;
      signs = signs_same (λ s. ap (λ b. b || list_any (sym_eq s) (constants (item ∷ []))) (inv.signs.members s)
          ∙ (λ i. list_any (sym_eq s) (constants (take k items)) || list_any (sym_eq s) (constants (is i ∷ [])))
          ∙ sym (constants_more items k item s lt)) more.signs;
    }

pub returns-clause-signs : goal.returns-clause-signs
returns-clause-signs c =
    let items = c.args.items.now in
    let k = c.loop-item.item-index in
    let done : take k items ≡ items = take_all k items (omega (arith, c.loop-item-test.false)) in
    subst (λ l. Signs c.loop-item.self c.loop-item.all (λ s. list_any (sym_eq s) (constants l))) done c.loop-item.invariant.signs
