use Rattle.std.proofs.Common.{◌∙◌, sym, ap, subst}
use Rattle.dlk_store.specs.Stores.{tree}
use Rattle.dlk_calculus.specs.Rename.{RenamesBound}
use Rattle.dlk_rename.specs.Bindings.{formed}
use Rattle.dlk_rename.proofs.Exchanged.{swapped_formula}
use Rattle.dlk_rename.proofs.Binders.{binding_renames, formed_kept, form_kept}
use Rattle.dlk_rename.proofs.binder.bound.Goals as goal

pub returns-then-not-branch-clause-fault : goal.returns-then-not-branch-clause-fault
returns-then-not-branch-clause-fault g c =
    let b = rw c.in-Some.is at c.in_ok-b.ensures in
    (_, _, _, binding_renames c.args.y.now b, λ r. let may = c.in_ok-may_rename.ensures in let not_may = c.if-not-branch.true in cc)

pub make_formula-requires-clause-form : goal.make_formula-requires-clause-form
make_formula-requires-clause-form g c =
    let keeps = g.met.S.Store.grows_keeps c.args.store.now c.swap.new.store c.in_ok-swapped.ensures.grows in
    let b = rw c.in-Some.is at c.in_ok-b.ensures in
    form_kept keeps c.in-Some.b.form b.form

pub make_formula-requires-clause-formula : goal.make_formula-requires-clause-formula
make_formula-requires-clause-formula g c =
    let b = rw c.in-Some.is at c.in_ok-b.ensures in
    swapped_formula _ _ _ _ c.in_ok-swapped.ensures.made.tree_is b.formula

pub returns-clause-made : goal.returns-clause-made
returns-clause-made g c =
    let old = g.S.Store.trees c.args.store.now in
    let keeps = g.met.S.Store.grows_keeps c.args.store.now c.swap.new.store c.in_ok-swapped.ensures.grows in
    let b = rw c.in-Some.is at c.in_ok-b.ensures in
    let form = c.in-Some.b.form in
    let y = c.args.y.now in
    let made = c.in_ok-make_formula.ensures.made in
    let is = made.tree_is ∙ formed_kept keeps form y _ b.form ∙ ap (formed old form y) c.in_ok-swapped.ensures.made.tree_is in
    let may = c.in_ok-may_rename.ensures in
    let is_may = c.if-not-branch.false in
    record {
      x = c.in-Some.b.name;
      f = tree old c.in-Some.b.body;
      renames = subst (λ u. RenamesBound c.in-Some.b.name y (tree old c.in-Some.b.body) (tree old c.args.id) u) (sym is) (binding_renames y b);
      fresh = cc;
      known = made.known;
    }

pub returns-clause-grows : goal.returns-clause-grows
returns-clause-grows g c =
    g.met.S.Store.grows_trans c.args.store.now c.swap.new.store c.make_formula.new.store c.in_ok-swapped.ensures.grows c.in_ok-make_formula.ensures.grows
