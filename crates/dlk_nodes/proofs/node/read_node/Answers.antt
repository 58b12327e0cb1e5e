use Rattle.std.proofs.Common.{◌≡◌, true, false, refl, sym, ap, subst, ◌∙◌}
use Rattle.std.specs.Prelude.{All}
use Rattle.std.proofs.lemmas.Result.{err_from_is_err_and}
use Rattle.dlk_tree.specs.Table.{Fits}
use Rattle.dlk_tree.specs.Trees.{node}
use Rattle.dlk_store.specs.Stores.{IsId, kid_trees, sorts_at, StandsFor}
use Rattle.dlk_nodes.specs.Tables.{has}
use Rattle.dlk_lines.proofs.Refusals.{fault_of_whole}
use Rattle.dlk_nodes.proofs.ReadNode.{read_known, no_reading, not_fitting, not_new, not_within, is_new}
use Rattle.dlk_nodes.proofs.node.read_node.Goals as goal

pub returns-in_err-op-clause-fault : goal.returns-in_err-op-clause-fault
returns-in_err-op-clause-fault g c =
    let e = err_from_is_err_and c.from_residual.result c.from_residual.ensures.1 in
    rw (e.1, e.2) (fault_of_whole (no_reading c.args.table.now (g.S.Store.trees c.args.store.now) c.args.text.now) _ c.in_err-op.ensures.fault)

pub sorts_of-requires : goal.sorts_of-requires
sorts_of-requires g c =
    let trees = g.S.Store.trees c.args.store.now in
    let kids = read_known (IsId trees) c.args.table.now c.args.text.now c.in_ok-op.op c.in_ok-op.kids.items c.requires.known c.in_ok-op.ensures.found in
    subst (λ l. All (IsId trees) l) (sym c.as_slice.ensures.value) kids

pub returns-then-not-fits-clause-fault : goal.returns-then-not-fits-clause-fault
returns-then-not-fits-clause-fault g c =
    let trees = g.S.Store.trees c.args.store.now in
    let sorts : c.as_slice-2.result.now ≡ sorts_at trees c.in_ok-op.kids.items =
    c.as_slice-2.ensures.value ∙ c.in_ok-sorts.ensures.sorts ∙ ap (sorts_at trees) c.as_slice.ensures.value in
    not_fitting c.args.table.now trees c.args.text.now c.in_ok-op.op c.in_ok-op.kids.items c.in_ok-op.ensures.found
    (λ f. let clash : false ≡ true = c.if-not-fits.ensures.1 (subst (Fits c.in_ok-op.op) (sym sorts) f) in cc clash)

pub make-requires-clause-known : goal.make-requires-clause-known
make-requires-clause-known g c =
    let trees = g.S.Store.trees c.args.store.now in
    let kids = read_known (IsId trees) c.args.table.now c.args.text.now c.in_ok-op.op c.in_ok-op.kids.items c.requires.known c.in_ok-op.ensures.found in
    subst (λ l. All (IsId trees) l) (sym c.as_slice-3.ensures.value) kids

pub returns-then-is_some-clause-fault : goal.returns-then-is_some-clause-fault
returns-then-is_some-clause-fault g c =
    let old = g.S.Store.trees c.args.store.now in
    let new = g.S.Store.trees c.make.new.self in
    let op = c.in_ok-op.op in
    let made : StandsFor new c.in_ok-id.id (node op (kid_trees old c.in_ok-op.kids.items)) =
    subst (λ l. StandsFor new c.in_ok-id.id (node op (kid_trees old l))) c.as_slice-3.ensures.value c.in_ok-id.ensures.made in
    let there : has c.args.table.now c.in_ok-id.id ≡ true = sym c.place.ensures.found ∙ sym c.is_some.ensures ∙ c.if-is_some.true in
    not_new old new (g.met.S.Store.grows_keeps _ _ c.in_ok-id.ensures.grows) (g.met.S.Store.one_id c.requires.unique c.make.new.self)
    c.args.table.now c.requires.known c.args.text.now op
    c.in_ok-op.kids.items c.in_ok-op.ensures.found c.in_ok-id.id made there

pub returns-then-not-is_within_limits-clause-fault : goal.returns-then-not-is_within_limits-clause-fault
returns-then-not-is_within_limits-clause-fault g c =
    let old = g.S.Store.trees c.args.store.now in
    let new = g.S.Store.trees c.make.new.self in
    let op = c.in_ok-op.op in
    let made : StandsFor new c.in_ok-id.id (node op (kid_trees old c.in_ok-op.kids.items)) =
    subst (λ l. StandsFor new c.in_ok-id.id (node op (kid_trees old l))) c.as_slice-3.ensures.value c.in_ok-id.ensures.made in
    not_within old new (g.met.S.Store.grows_keeps _ _ c.in_ok-id.ensures.grows) (g.met.S.Store.one_id c.requires.unique c.make.new.self)
    c.args.table.now c.requires.known c.args.text.now op
    c.in_ok-op.kids.items c.in_ok-op.ensures.found c.in_ok-id.id made
    (λ small shallow. let clash : false ≡ true = c.if-not-is_within_limits.ensures.is small shallow in cc clash)

pub returns-clause-found : goal.returns-clause-found
returns-clause-found g c =
    let old = g.S.Store.trees c.args.store.now in
    let new = g.S.Store.trees c.make.new.self in
    let op = c.in_ok-op.op in
    let made : StandsFor new c.in_ok-id.id (node op (kid_trees old c.in_ok-op.kids.items)) =
    subst (λ l. StandsFor new c.in_ok-id.id (node op (kid_trees old l))) c.as_slice-3.ensures.value c.in_ok-id.ensures.made in
    let sorts : c.as_slice-2.result.now ≡ sorts_at old c.in_ok-op.kids.items =
    c.as_slice-2.ensures.value ∙ c.in_ok-sorts.ensures.sorts ∙ ap (sorts_at old) c.as_slice.ensures.value in
    let none : has c.args.table.now c.in_ok-id.id ≡ false = sym c.place.ensures.found ∙ sym c.is_some.ensures ∙ c.if-is_some.false in
    is_new old new (g.met.S.Store.grows_keeps _ _ c.in_ok-id.ensures.grows) (g.met.S.Store.one_id c.requires.unique c.make.new.self)
    c.args.table.now c.requires.known c.args.text.now op
    c.in_ok-op.kids.items c.in_ok-op.ensures.found c.in_ok-id.id made (subst (Fits op) sorts (c.if-not-fits.ensures.0 refl)) none
    (c.if-not-is_within_limits.ensures.small refl) (c.if-not-is_within_limits.ensures.shallow refl)
