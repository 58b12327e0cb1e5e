use Rattle.std.proofs.Common.{◌≡◌, ◌∙◌, ap, arith, rules}
use Rattle.dlk_tree.specs.Trees.{sort}
use Rattle.dlk_store.specs.Stores.{tree}
use Rattle.dlk_store.specs.declared.Id.{Id}
use Rattle.dlk_store.proofs.Made.{next_known, next_same, next_smaller, next_made, made_fit}
use Rattle.dlk_calculus.specs.Plug.{filled}
use Rattle.dlk_calculus.proofs.Sorts.{fill_sort}
use Rattle.dlk_subst_plain.proofs.Filled.{filled_node}
use Rattle.dlk_subst_plain.proofs.fill.+fill.Goals as goal

pub fill-requires : goal.fill-requires
fill-requires g t c κs within =
    let m = c.loop-kid.invariant.made in
    let d : Id = record { 0 = 0 } in
    let less = next_smaller m d c.loop-kid-test.true in
    let filler = m.kept.same c.args.formula c.requires.filler in
    let there = next_known m d c.loop-kid-test.true in
    (omega (arith, less), (search rules, (search rules, (there, (omega (arith, c.requires.filler, m.kept.known), ap sort filler ∙ c.requires.sort)))))

pub returns-in_err-made-clause-grows : goal.returns-in_err-made-clause-grows
returns-in_err-made-clause-grows g t c =
    g.met.S.Store.grows_trans c.args.store.now c.loop-kid.store c.fill.new.store c.loop-kid.invariant.grows c.fill.ensures.grows

pub returns-in_err-push-clause-grows : goal.returns-in_err-push-clause-grows
returns-in_err-push-clause-grows g t c =
    g.met.S.Store.grows_trans c.args.store.now c.loop-kid.store c.fill.new.store c.loop-kid.invariant.grows c.fill.ensures.grows

pub loop-kid-preserved : goal.loop-kid-preserved
loop-kid-preserved g t c =
    let m = c.loop-kid.invariant.made in
    let d : Id = record { 0 = 0 } in
    let grows = c.in_ok-made.ensures.grows in
    let keeps = g.met.S.Store.grows_keeps c.loop-kid.store c.fill.new.store grows in
    let filler = m.kept.same c.args.formula c.requires.filler in
    let same = next_same m d c.loop-kid-test.true in
    let stands = c.in_ok-made.ensures.made in
    record {
      grows = g.met.S.Store.grows_trans c.args.store.now c.loop-kid.store c.fill.new.store c.loop-kid.invariant.grows grows;
      made = rw c.in_ok-push.ensures.items
          (next_made m d c.loop-kid-test.true c.in_ok-made.made keeps (λ j u. u ≡ filled (filler j) (same j)) stands.known stands.tree_is);
      no_hole = c.loop-kid.invariant.no_hole;
    }

pub make-requires-clause-fits : goal.make-requires-clause-fits
make-requires-clause-fits g t c =
    let formula = tree (g.S.Store.trees c.args.store.now) c.args.formula in
    rw c.as_slice.ensures.value
    (made_fit c.loop-kid.invariant.made (omega arith) (λ t u well e. ap sort e ∙ fill_sort formula t c.requires.sort)
    (g.met.S.Store.well_made c.args.store.now) c.requires.known)

pub returns-clause-made : goal.returns-clause-made
returns-clause-made g t c =
    let kids = rw c.as_slice.ensures.value at c.make.ensures.made in
    rw (filled_node _ c.loop-kid.invariant.made (omega arith) c.loop-kid.invariant.no_hole) kids

pub returns-clause-grows : goal.returns-clause-grows
returns-clause-grows g t c =
    g.met.S.Store.grows_trans c.args.store.now c.loop-kid.store c.make.new.self c.loop-kid.invariant.grows c.make.ensures.grows
