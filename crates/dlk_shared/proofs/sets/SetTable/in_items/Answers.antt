use Rattle.std.proofs.Common.{◌≡◌, ◌<◌, length, take, ◌||◌, ◌∙◌, sym, subst, refl, arith}
use Rattle.std.proofs.lemmas.List.{take_all}
use Rattle.dlk_shared.specs.SetTables.{Means}
use Rattle.dlk_shared.specs.Shapes.{in_item, in_items}
use Rattle.dlk_shared.proofs.SetLemmas.{means_kept, means_same, keeps_refl, keeps_trans, any_more}
use Rattle.dlk_shared.proofs.sets.SetTable.in_items.Goals as goal

pub loop-item-init : goal.loop-item-init
loop-item-init c = record { keeps = keeps_refl c.args.self.now; means = means_same (λ v. refl) c.requires }

pub in_item-requires : goal.in_item-requires
in_item-requires c = means_kept c.loop-item.invariant.keeps c.requires

pub returns-in_err-one-clause-keeps : goal.returns-in_err-one-clause-keeps
returns-in_err-one-clause-keeps c = keeps_trans c.loop-item.invariant.keeps c.in_err-one.ensures.keeps

pub returns-in_err-all-clause-keeps : goal.returns-in_err-all-clause-keeps
returns-in_err-all-clause-keeps c = keeps_trans c.loop-item.invariant.keeps (keeps_trans c.in_ok-one.ensures.keeps c.in_err-all.ensures.keeps)

pub loop-item-preserved : goal.loop-item-preserved
loop-item-preserved c =
    let items = c.args.items.now in
    let which = c.args.which in
    let k = c.loop-item.item-index in
    let item = c.item-item.result in
    let inv = c.loop-item.invariant in
    let one = c.in_ok-one.ensures in
    let all = c.in_ok-all.ensures in
    let lt : k < length items = omega (arith, c.loop-item-test.true) in
    let is = c.item-item.is in
    record {
      keeps = keeps_trans inv.keeps (keeps_trans one.keeps all.keeps);
      means = means_same (λ v. (λ i. in_items which (take k items) v || in_item which (is i) v) ∙ sym (any_more (λ o. in_item which o v) items k item lt))
          (all.makes.means (in_items which (take k items)) (in_item which item) (means_kept one.keeps inv.means) one.means);
    }

pub returns-clause-means : goal.returns-clause-means
returns-clause-means c =
    let items = c.args.items.now in
    let k = c.loop-item.item-index in
    let done : take k items ≡ items = take_all k items (omega (arith, c.loop-item-test.false)) in
    subst (λ l. Means c.loop-item.self c.loop-item.all (in_items c.args.which l)) done c.loop-item.invariant.means
