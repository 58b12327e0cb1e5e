use Rattle.std.proofs.Common.{◌≡◌, ◌∙◌, sym, ap, subst, slice_set, arith, rules}
use Rattle.dlk_tree.specs.Table.{Fits as FitsKids}
use Rattle.dlk_tree.specs.Trees.{node}
use Rattle.dlk_store.specs.Stores.{kid_trees, sorts_at}
use Rattle.dlk_store.proofs.Kids.{node_fits}
use Rattle.dlk_sequent.proofs.KidAt.{is_kid, same_sorts, put_is}
use Rattle.dlk_sequent.proofs.spine.with_kid.Goals as goal

pub index_mut-requires : goal.index_mut-requires
index_mut-requires g c =
    let trees = g.S.Store.trees c.args.store.now in
    let ks = c.look-node.result.kids.now in
    let less = is_kid trees c.args.turn.node c.look-node.result.op.now ks c.args.turn.kid c.args.new c.look-node.ensures.node c.requires.fits in
    omega (arith, less, c.in_ok-kids.ensures.len)

pub make-requires-clause-fits : goal.make-requires-clause-fits
make-requires-clause-fits g c =
    let trees = g.S.Store.trees c.args.store.now in
    let op = c.look-node.result.op.now in
    let ks = c.look-node.result.kids.now in
    let n = c.args.turn.kid in
    let copied : c.in_ok-kids.kids.items ≡ ks = c.in_ok-kids.ensures.items_if_clones_equal (λ x y h. search rules) in
    let now : c.as_slice.result.now ≡ slice_set ks n c.args.new =
    c.as_slice.ensures.value ∙ ap (λ ids. slice_set ids n c.args.new) copied in
    let fits = node_fits trees c.args.turn.node op ks (g.met.S.Store.well_made c.args.store.now) c.requires.known c.look-node.ensures.node in
    let same = ap (sorts_at trees) now ∙ same_sorts trees c.args.turn.node op ks n c.args.new c.look-node.ensures.node c.requires.fits in
    subst (λ o. FitsKids o (sorts_at trees c.as_slice.result.now)) c.in_ok-op.ensures.cases (subst (FitsKids op) (sym same) fits)

pub returns-clause-ok : goal.returns-clause-ok
returns-clause-ok g c =
    let trees = g.S.Store.trees c.args.store.now in
    let op = c.look-node.result.op.now in
    let ks = c.look-node.result.kids.now in
    let n = c.args.turn.kid in
    let copied : c.in_ok-kids.kids.items ≡ ks = c.in_ok-kids.ensures.items_if_clones_equal (λ x y h. search rules) in
    let now : c.as_slice.result.now ≡ slice_set ks n c.args.new =
    c.as_slice.ensures.value ∙ ap (λ ids. slice_set ids n c.args.new) copied in
    let is = put_is trees c.args.turn.node op ks n c.args.new c.look-node.ensures.node c.requires.fits in
    let stands = c.in_ok-make.ensures.made in
    record {
      known = stands.known;
      tree_is = stands.tree_is ∙ (λ i. node (sym c.in_ok-op.ensures.cases i) (kid_trees trees (now i))) ∙ sym is;
    }
