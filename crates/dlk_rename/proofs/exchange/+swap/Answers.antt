use Rattle.std.proofs.Common.{◌≡◌, ap, ◌∙◌, arith, rules}
use Rattle.dlk_tree.specs.Trees.{root, sort}
use Rattle.dlk_store.specs.declared.Id.{Id}
use Rattle.dlk_store.proofs.Made.{next_known, next_same, next_smaller, next_made, made_fit}
use Rattle.dlk_calculus.specs.Rename.{swap}
use Rattle.dlk_calculus.proofs.Swapped.{swap_sort}
use Rattle.dlk_rename.proofs.Exchanged.{swapped_node, swapped_fits}
use Rattle.dlk_rename.proofs.exchange.+swap.Goals as goal

pub swap-requires : goal.swap-requires
swap-requires g t c κs within =
    let m = c.loop-kid.invariant.made.1 in
    let d : Id = record { 0 = 0 } in
    let less = next_smaller m d c.loop-kid-test.true in
    (omega (arith, less), (search rules, (search rules, next_known m d c.loop-kid-test.true)))

pub returns-in_err-made-clause-grows : goal.returns-in_err-made-clause-grows
returns-in_err-made-clause-grows g t c =
    g.met.S.Store.grows_trans c.args.store.now c.loop-kid.store c.swap.new.store c.loop-kid.invariant.grows c.swap.ensures.grows

pub returns-in_err-push-clause-grows : goal.returns-in_err-push-clause-grows
returns-in_err-push-clause-grows g t c =
    g.met.S.Store.grows_trans c.args.store.now c.loop-kid.store c.swap.new.store c.loop-kid.invariant.grows c.swap.ensures.grows

pub loop-kid-preserved : goal.loop-kid-preserved
loop-kid-preserved g t c =
    let made = c.loop-kid.invariant.made in
    let d : Id = record { 0 = 0 } in
    let grows = c.in_ok-made.ensures.grows in
    let keeps = g.met.S.Store.grows_keeps c.loop-kid.store c.swap.new.store grows in
    let stands = c.in_ok-made.ensures.made in
    let same = next_same made.1 d c.loop-kid-test.true in
    let more =
    next_made made.1 d c.loop-kid-test.true c.in_ok-made.made keeps (λ j u. u ≡ swap c.args.x.now c.args.y.now (same j)) stands.known stands.tree_is in
    record {
      grows = g.met.S.Store.grows_trans c.args.store.now c.loop-kid.store c.swap.new.store c.loop-kid.invariant.grows grows;
      made = rw c.in_ok-push.ensures.items (made.0, more, made.2);
    }

pub make_over-requires-clause-like : goal.make_over-requires-clause-like
make_over-requires-clause-like g t c = let m = c.loop-kid.invariant.made.1 in omega (arith, m.kept.known, c.requires)

pub make_over-requires-clause-fits : goal.make_over-requires-clause-fits
make_over-requires-clause-fits g t c =
    let x = c.args.x.now in
    let y = c.args.y.now in
    let made = c.loop-kid.invariant.made in
    let same = ap root (made.1.kept.same c.args.id c.requires ∙ made.1.node_is) in
    let fits = made_fit made.1 (omega arith) (λ t u well e. ap sort e ∙ swap_sort x y t) (g.met.S.Store.well_made c.args.store.now) c.requires in
    rw (c.as_slice.ensures.value, same) (swapped_fits x y c.is_name.ensures.name c.is_name-2.ensures.name made.0 _ _ made.2 fits)

pub returns-clause-made : goal.returns-clause-made
returns-clause-made g t c =
    let made = c.loop-kid.invariant.made in
    let same = ap root (made.1.kept.same c.args.id c.requires ∙ made.1.node_is) in
    let kids = rw (c.as_slice.ensures.value, same) at c.make_over.ensures.made in
    rw (swapped_node c.args.x.now c.args.y.now made.1 (omega arith) _ made.2) kids

pub returns-clause-grows : goal.returns-clause-grows
returns-clause-grows g t c =
    g.met.S.Store.grows_trans c.args.store.now c.loop-kid.store c.make_over.new.store c.loop-kid.invariant.grows c.make_over.ensures.grows
