use Rattle.std.proofs.Common.{◌≡◌, sym, ap, subst, ◌∙◌, arith, rules, length, ◌<◌}
use Rattle.dlk_tree.specs.Trees.{size}
use Rattle.dlk_store.specs.declared.Id.{Id}
use Rattle.dlk_store.specs.Stores.{IsId, tree}
use Rattle.dlk_store.proofs.Made.{next_known, next_smaller, next_same, next_made}
use Rattle.dlk_match.specs.Abstract.{abstracted}
use Rattle.dlk_match.proofs.Abstracted.{rest_is, made_known, made_fits, made_abstracted}
use Rattle.dlk_match.proofs.abstraction.+abstract_var.Goals as goal

pub abstract_var-requires : goal.abstract_var-requires
abstract_var-requires g t c κs within =
    let m = c.loop-i.invariant.made in
    let now = g.S.Store.trees c.loop-i.store in
    let d = c.index.result.now in
    let lt : c.loop-i.i < length c.in_ok-kids.kids.items = omega (arith, c.loop-i-test.true, c.loop-i.invariant.few) in
    let less = next_smaller m d lt in
    let size_is = ap (λ (k : Id). size (tree now k)) c.index.ensures in
    let known : IsId now d = subst (IsId now) (sym c.index.ensures) (next_known m d lt) in
    (omega (arith, less, size_is), (search rules, (search rules, known)))

pub returns-in_err-made-clause-grows : goal.returns-in_err-made-clause-grows
returns-in_err-made-clause-grows g t c =
    g.met.S.Store.grows_trans c.args.store.now c.loop-i.store c.abstract_var.new.store c.loop-i.invariant.grows c.abstract_var.ensures.grows

pub returns-in_err-push-clause-grows : goal.returns-in_err-push-clause-grows
returns-in_err-push-clause-grows g t c =
    g.met.S.Store.grows_trans c.args.store.now c.loop-i.store c.abstract_var.new.store c.loop-i.invariant.grows c.abstract_var.ensures.grows

pub loop-i-preserved : goal.loop-i-preserved
loop-i-preserved g t c =
    let m = c.loop-i.invariant.made in
    let now = g.S.Store.trees c.loop-i.store in
    let d = c.index.result.now in
    let lt : c.loop-i.i < length c.in_ok-kids.kids.items = omega (arith, c.loop-i-test.true, c.loop-i.invariant.few) in
    let grows = c.in_ok-made.ensures.grows in
    let keeps = g.met.S.Store.grows_keeps c.loop-i.store c.abstract_var.new.store grows in
    let stands = c.in_ok-made.ensures.made in
    let same = ap (tree now) c.index.ensures ∙ next_same m d lt in
    let more = next_made m d lt c.in_ok-made.made keeps (λ j u. u ≡ abstracted c.args.v.now (same j)) stands.known stands.tree_is in
    record {
      grows = g.met.S.Store.grows_trans c.args.store.now c.loop-i.store c.abstract_var.new.store c.loop-i.invariant.grows grows;
      made = rw c.in_ok-push.ensures.items more;
      other = c.loop-i.invariant.other;
      count = c.loop-i.invariant.count;
      few = c.loop-i.invariant.few;
    }

pub make-requires-2-clause-known : goal.make-requires-2-clause-known
make-requires-2-clause-known g t c =
    let i = c.loop-i.invariant in
    let at : c.entered-count.result ≡ c.loop-i.i = omega (arith, c.loop-i-test.false, c.loop-i.auto.i-end) in
    let is = c.as_slice.ensures.value ∙ c.in_ok-extend_from_slice.ensures.items
    ∙ rest_is c.loop-i.new.items c.in_ok-kids.kids.items c.deref.result.now c.entered-count.result c.loop-i.i c.deref.ensures.value at in
    made_known c.args.v.now i.made c.as_slice.result.now is (omega (arith, at, i.few))

pub make-requires-2-clause-fits : goal.make-requires-2-clause-fits
make-requires-2-clause-fits g t c =
    let i = c.loop-i.invariant in
    let at : c.entered-count.result ≡ c.loop-i.i = omega (arith, c.loop-i-test.false, c.loop-i.auto.i-end) in
    let is = c.as_slice.ensures.value ∙ c.in_ok-extend_from_slice.ensures.items
    ∙ rest_is c.loop-i.new.items c.in_ok-kids.kids.items c.deref.result.now c.entered-count.result c.loop-i.i c.deref.ensures.value at in
    made_fits c.args.v.now i.made c.as_slice.result.now is (omega (arith, at, i.few)) (g.met.S.Store.well_made c.args.store.now) c.requires

pub returns-clause-made : goal.returns-clause-made
returns-clause-made g t c =
    let i = c.loop-i.invariant in
    let at : c.entered-count.result ≡ c.loop-i.i = omega (arith, c.loop-i-test.false, c.loop-i.auto.i-end) in
    let is = c.as_slice.ensures.value ∙ c.in_ok-extend_from_slice.ensures.items
    ∙ rest_is c.loop-i.new.items c.in_ok-kids.kids.items c.deref.result.now c.entered-count.result c.loop-i.i c.deref.ensures.value at in
    rw (made_abstracted c.args.v.now i.made c.as_slice.result.now is (omega (arith, at, i.few)) i.other (omega (arith, at, i.count))) c.make-2.ensures.made

pub returns-clause-grows : goal.returns-clause-grows
returns-clause-grows g t c =
    g.met.S.Store.grows_trans c.args.store.now c.loop-i.store c.make-2.new.self c.loop-i.invariant.grows c.make-2.ensures.grows
