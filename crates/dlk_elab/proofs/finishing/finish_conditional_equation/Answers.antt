use Rattle.dlk_tree.specs.Trees.{kids_of, Tree}
use Rattle.std.proofs.Common.{◌≡◌, ap, sym, ◌∙◌, subst, ◌∷◌, []}
use Rattle.dlk_store.specs.Stores.{tree, StandsFor}
use Rattle.dlk_sequent.specs.Spines.{top, path_of}
use Rattle.dlk_calculus.specs.Notation.{eq}
use Rattle.dlk_calculus.specs.Paths.{put_at}
use Rattle.dlk_uses.specs.Uses.{left_of, right_of}
use Rattle.dlk_elab.proofs.FinishPlans.{conditional_equation_finished, exchange_same, stands_on, stands_as}
use Rattle.dlk_elab.proofs.finishing.finish_conditional_equation.Goals as goal

pub returns-clause-made : goal.returns-clause-made
returns-clause-made g c =
    let old = g.S.Store.trees c.args.store.now in
    let new = g.S.Store.trees c.equation_trees.new.store in
    let keeps = g.met.S.Store.grows_keeps c.args.store.now c.equation_trees.new.store c.equation_trees.ensures.grows in
    let way = c.args.spine.now in
    let f = tree old c.args.f in
    let round = c.in_ok-around.ensures in
    let outer = path_of c.in_ok-around.around.outer in
    let inner = path_of c.in_ok-around.around.inner in
    let d = tree old c.in_ok-around.around.outer.found in
    let whole = c.sides_of-whole.ensures in
    let sides = c.sides_of-sides.ensures in
    let l = tree old c.sides_of-sides.result.left in
    let r = tree old c.sides_of-sides.result.right in
    let ll : l ≡ left_of (right_of f) = sides.left.tree_is ∙ ap left_of whole.right.tree_is in
    let rr : r ≡ right_of (right_of f) = sides.right.tree_is ∙ ap right_of whole.right.tree_is in
    let e = tree old (top way) in
    let made = c.in_ok-x.ensures.made in
    let condition : StandsFor new c.sides_of-whole.result.left (left_of f) = stands_on keeps c.sides_of-whole.result.left whole.left in
    let right_is : right_of f ≡ eq l r = ap right_of c.requires.form.0 ∙ (λ i. eq (sym ll i) (sym rr i)) in
    let stands : StandsFor new c.sides_of-whole.result.right (eq l r) =
    stands_as c.sides_of-whole.result.right right_is (stands_on keeps c.sides_of-whole.result.right whole.right) in
    conditional_equation_finished new c.args.now c.args.aim (path_of way) e f c.in_ok-made.made.items outer inner d (tree new c.sides_of-whole.result.left) l r
    condition.tree_is ll rr round.innermost
    (λ s right. c.in_ok-made.ensures new s e outer inner d l r condition.known stands made.equated
    (exchange_same c.in_ok-x.x.exchanged (ap (tree old) round.starts) (λ i. put_at d inner l) (λ i. put_at d inner r) made.exchanged) right)

pub sides_of-whole-requires-clause-two : goal.sides_of-whole-requires-clause-two
sides_of-whole-requires-clause-two g c =
    let t = tree (g.S.Store.trees c.args.store.now) c.args.f in
    ap kids_of c.requires.form.0 ∙ ap (λ (r : Tree). left_of t ∷ r ∷ []) (sym (ap right_of c.requires.form.0))

pub sides_of-sides-requires-clause-two : goal.sides_of-sides-requires-clause-two
sides_of-sides-requires-clause-two g c =
    subst (λ (t : Tree). kids_of t ≡ left_of t ∷ right_of t ∷ []) (sym c.sides_of-whole.ensures.right.tree_is) (ap kids_of (ap right_of c.requires.form.0))
