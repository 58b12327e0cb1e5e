use Rattle.std.proofs.Common.{◌≡◌, ap, sym, subst, ◌∙◌, [], ◌∷◌}
use Rattle.dlk_tree.specs.Trees.{Tree, kids_of}
use Rattle.dlk_store.specs.Stores.{tree, StandsFor}
use Rattle.dlk_calculus.specs.declared.form.AxiomForm.TheVariants.{C}
use Rattle.dlk_calculus.specs.Rules.{imply, equiv}
use Rattle.dlk_sequent.specs.declared.sequent.Place.{Place}
use Rattle.dlk_uses.specs.Uses.{left_of, right_of}
use Rattle.dlk_elab.specs.Finishing.{HasForm}
use Rattle.dlk_elab.proofs.FinishPlans.{conditional_equivalence_finished}
use Rattle.dlk_elab.proofs.finishing.finish_conditional_equivalence.Goals as goal

pub unreachable-requires : goal.unreachable-requires
unreachable-requires g c =
    let f = tree (g.S.Store.trees c.args.store.now) c.args.f in
    subst (λ (p : Place). HasForm C p f f) c.in_default.is (c.requires.form f)

pub sides_of-whole-requires-clause-two : goal.sides_of-whole-requires-clause-two
sides_of-whole-requires-clause-two g c =
    let f = tree (g.S.Store.trees c.args.store.now) c.args.f in
    let is : f ≡ imply (left_of f) (equiv (left_of (right_of f)) (right_of (right_of f))) =
    subst (λ (p : Place). HasForm C p f f) c.in-Succ.is (c.requires.form f) in
    ap kids_of is ∙ (λ i. left_of f ∷ sym (ap right_of is) i ∷ [])

pub sides_of-sides-requires-clause-two : goal.sides_of-sides-requires-clause-two
sides_of-sides-requires-clause-two g c =
    let trees = g.S.Store.trees c.args.store.now in
    let f = tree trees c.args.f in
    let is : f ≡ imply (left_of f) (equiv (left_of (right_of f)) (right_of (right_of f))) =
    subst (λ (p : Place). HasForm C p f f) c.in-Succ.is (c.requires.form f) in
    let right : right_of f ≡ equiv (left_of (right_of f)) (right_of (right_of f)) = ap right_of is in
    subst (λ (t : Tree). kids_of t ≡ left_of t ∷ right_of t ∷ []) (sym c.sides_of-whole.ensures.right.tree_is) (ap kids_of right)

pub returns : goal.returns
returns g c path e =
    let trees = g.S.Store.trees c.args.store.now in
    let f = tree trees c.args.f in
    let is : f ≡ imply (left_of f) (equiv (left_of (right_of f)) (right_of (right_of f))) =
    subst (λ (p : Place). HasForm C p f f) c.in-Succ.is (c.requires.form f) in
    let whole = c.sides_of-whole.ensures in
    let sides = c.sides_of-sides.ensures in
    let r : tree trees c.sides_of-sides.result.right ≡ right_of (right_of f) = sides.right.tree_is ∙ ap right_of whole.right.tree_is in
    let instance : StandsFor trees c.args.f (imply (tree trees c.sides_of-whole.result.left)
    (equiv (left_of (right_of f)) (tree trees c.sides_of-sides.result.right))) =
    record { known = c.requires.instance; tree_is = is ∙ (λ i. imply (sym whole.left.tree_is i) (equiv (left_of (right_of f)) (sym r i))) } in
    conditional_equivalence_finished trees c.args.now c.args.aim path e f c.in_ok-made.made.items c.in-Succ.j (tree trees c.sides_of-whole.result.left)
    (left_of (right_of f))
    (tree trees c.sides_of-sides.result.right) c.in-Succ.is whole.left.tree_is (λ i. left_of (right_of f)) r
    (λ s. c.in_ok-made.ensures trees s (left_of (right_of f)) whole.left.known sides.right.known instance)
