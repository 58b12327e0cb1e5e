use Rattle.std.proofs.Common.{◌≡◌, sym, subst}
use Rattle.std.specs.Prelude.{All}
use Rattle.std.proofs.lemmas.Bool.{both_ways}
use Rattle.std.proofs.lemmas.Result.{err_from_is_err_and}
use Rattle.dlk_tree.specs.declared.op.Sort.TheVariants.{Formula as OfFormulas}
use Rattle.dlk_tree.specs.Trees.{sort}
use Rattle.dlk_store.specs.Stores.{IsId}
use Rattle.dlk_nodes.specs.Tables.{nodes_at}
use Rattle.dlk_lines.proofs.Refusals.{fault_of_whole}
use Rattle.dlk_nodes.proofs.SidesRead.{sides_wanted, sides_known, ante_wanted, succ_wanted, sequent_is}
use Rattle.dlk_nodes.proofs.sequents.read_sequent.Goals as goal

pub returns-in_err-ante-clause-fault : goal.returns-in_err-ante-clause-fault
returns-in_err-ante-clause-fault g c =
    let e = err_from_is_err_and c.from_residual.result c.from_residual.ensures.1 in
    rw (e.1, e.2) (fault_of_whole (sides_wanted (g.S.Store.trees c.args.store.now) c.args.table.now c.args.text.now) _ c.in_err-ante.ensures.fault)

pub are_formulas-requires : goal.are_formulas-requires
are_formulas-requires g c =
    let P = IsId (g.S.Store.trees c.args.store.now) in
    subst (λ l. All P l) (sym c.as_slice.ensures.value)
    (sides_known P c.args.table.now c.args.text.now c.in_ok-ante.ante.items c.in_ok-ante.succ.items c.requires c.in_ok-ante.ensures.found).0

pub are_formulas-requires-2 : goal.are_formulas-requires-2
are_formulas-requires-2 g c =
    let P = IsId (g.S.Store.trees c.args.store.now) in
    subst (λ l. All P l) (sym c.as_slice-2.ensures.value)
    (sides_known P c.args.table.now c.args.text.now c.in_ok-ante.ante.items c.in_ok-ante.succ.items c.requires c.in_ok-ante.ensures.found).1

pub returns-then-not-are_formulas-clause-fault : goal.returns-then-not-are_formulas-clause-fault
returns-then-not-are_formulas-clause-fault g c =
    let trees = g.S.Store.trees c.args.store.now in
    ante_wanted trees c.args.table.now c.args.text.now c.in_ok-ante.ante.items c.in_ok-ante.succ.items c.in_ok-ante.ensures.found (λ all.
    both_ways c.are_formulas.result c.if-not-are_formulas.true
    (c.are_formulas.ensures.no (subst (λ l. All (λ t. sort t ≡ OfFormulas) (nodes_at trees l)) (sym c.as_slice.ensures.value) all)))

pub returns-then-not-are_formulas-2-clause-fault : goal.returns-then-not-are_formulas-2-clause-fault
returns-then-not-are_formulas-2-clause-fault g c =
    let trees = g.S.Store.trees c.args.store.now in
    succ_wanted trees c.args.table.now c.args.text.now c.in_ok-ante.ante.items c.in_ok-ante.succ.items c.in_ok-ante.ensures.found (λ all.
    both_ways c.are_formulas-2.result c.if-not-are_formulas-2.true
    (c.are_formulas-2.ensures.no (subst (λ l. All (λ t. sort t ≡ OfFormulas) (nodes_at trees l)) (sym c.as_slice-2.ensures.value) all)))

pub returns-clause-found : goal.returns-clause-found
returns-clause-found g c =
    let trees = g.S.Store.trees c.args.store.now in
    let left = subst (λ l. All (λ t. sort t ≡ OfFormulas) (nodes_at trees l)) c.as_slice.ensures.value (c.are_formulas.ensures.yes
    c.if-not-are_formulas.false) in
    let right = subst (λ l. All (λ t. sort t ≡ OfFormulas) (nodes_at trees l)) c.as_slice-2.ensures.value (c.are_formulas-2.ensures.yes
    c.if-not-are_formulas-2.false) in
    rw (c.from_vec.ensures, c.from_vec-2.ensures)
    (sequent_is trees c.args.table.now c.args.text.now c.in_ok-ante.ante.items c.in_ok-ante.succ.items c.in_ok-ante.ensures.found left right)

pub returns-clause-known : goal.returns-clause-known
returns-clause-known g c =
    let P = IsId (g.S.Store.trees c.args.store.now) in
    let known = sides_known P c.args.table.now c.args.text.now c.in_ok-ante.ante.items c.in_ok-ante.succ.items c.requires c.in_ok-ante.ensures.found in
    record { ante = subst (λ l. All P l) (sym c.from_vec.ensures) known.0; succ = subst (λ l. All P l) (sym c.from_vec-2.ensures) known.1 }
