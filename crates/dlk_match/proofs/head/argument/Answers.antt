use Rattle.std.proofs.Common.{◌∙◌, ap, arith, Some}
use Rattle.dlk_tree.specs.Table.{kid_sorts}
use Rattle.dlk_store.specs.declared.Id.{Id}
use Rattle.dlk_store.specs.Stores.{kid_trees}
use Rattle.dlk_store.proofs.Kids.{node_fits}
use Rattle.dlk_match.proofs.Heads.{one_kid, none_in, no_variable, no_new_name, its_argument, not_one}
use Rattle.dlk_match.proofs.head.argument.Goals as goal

pub returns-in_default : goal.returns-in_default
returns-in_default g c =
    let trees = g.S.Store.trees c.args.store.now in
    let d : Id = record { 0 = 0 } in
    no_variable c.args.renames.now (kid_trees trees c.args.kids.now) _ (one_kid trees c.args.kids.now d c.if-kids-ne1.false) c.look.result.op.now
    (kid_trees trees c.look.result.kids.now) c.look.ensures.node c.in_default.not-Variable

pub returns-in_default-new_name : goal.returns-in_default-new_name
returns-in_default-new_name g c =
    let trees = g.S.Store.trees c.args.store.now in
    let d : Id = record { 0 = 0 } in
    no_new_name c.args.renames.now (kid_trees trees c.args.kids.now) _ (one_kid trees c.args.kids.now d c.if-kids-ne1.false) c.look.result.op.now
    (kid_trees trees c.look.result.kids.now) c.look.ensures.node c.in-Variable.v c.in-Variable.is c.in_default-new_name.ensures

pub returns : goal.returns
returns g c =
    let trees = g.S.Store.trees c.args.store.now in
    let d : Id = record { 0 = 0 } in
    let fits = node_fits trees _ c.look.result.op.now c.look.result.kids.now (g.met.S.Store.well_made c.args.store.now)
    (c.requires 0 d (omega (arith, c.if-kids-ne1.false))) c.look.ensures.node in
    let bare = none_in trees c.look.result.kids.now (fits.kids_fit ∙ ap kid_sorts c.in-Variable.is) in
    its_argument c.args.renames.now (kid_trees trees c.args.kids.now) _ (one_kid trees c.args.kids.now d c.if-kids-ne1.false) c.look.result.op.now
    (kid_trees trees c.look.result.kids.now) c.look.ensures.node c.in-Variable.v c.in_ok-clone.field-0 c.in-Variable.is bare
    (c.in-Some.ensures ∙ ap Some c.in_ok-clone.ensures.cases)

pub returns-then-kids-ne1 : goal.returns-then-kids-ne1
returns-then-kids-ne1 g c = not_one c.args.renames.now (g.S.Store.trees c.args.store.now) c.args.kids.now c.if-kids-ne1.true
