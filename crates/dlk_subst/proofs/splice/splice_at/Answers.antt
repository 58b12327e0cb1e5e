use Rattle.std.proofs.Common.{◌∙◌}
use Rattle.dlk_store.specs.Stores.{kid_trees}
use Rattle.dlk_sequent.specs.Substitutions.{pairs_at}
use Rattle.dlk_subst.proofs.Systems.{pairs_made, spliced_fits, spliced_ok, spliced_none}
use Rattle.dlk_subst.proofs.splice.splice_at.Goals as goal

pub keep_system-requires-clause-fits : goal.keep_system-requires-clause-fits
keep_system-requires-clause-fits g c =
    let trees = g.S.Store.trees c.args.store.now in
    let old = kid_trees trees c.args.old.now in
    let put = c.in_ok-spliced.spliced in
    let made = pairs_made trees c.args.pairs.now (g.met.S.Store.well_made c.args.store.now) c.requires.pairs in
    spliced_fits trees (pairs_at trees c.args.pairs.now) c.args.items.now put.items.items c.into_parts-system.result.0 old c.args.new.now
    c.as_slice.result.now put.kids.items c.into_parts-system.ensures.system c.in_ok-spliced.ensures.items
    (c.as_slice.ensures.value ∙ c.into_parts-system.ensures.kids) c.in_ok-spliced.ensures.kids made c.requires.fits

pub returns-clause-ok : goal.returns-clause-ok
returns-clause-ok g c =
    let trees = g.S.Store.trees c.args.store.now in
    let old = kid_trees trees c.args.old.now in
    let put = c.in_ok-spliced.spliced in
    spliced_ok trees (pairs_at trees c.args.pairs.now) c.args.items.now put.items.items c.into_parts-system.result.0 old c.args.new.now
    c.as_slice.result.now put.kids.items c.into_parts-system.ensures.system c.in_ok-spliced.ensures.items
    (c.as_slice.ensures.value ∙ c.into_parts-system.ensures.kids) c.in_ok-spliced.ensures.kids (g.S.Store.trees c.keep_system.new.store)
    c.keep_system.result c.keep_system.ensures.ok

pub returns-clause-none : goal.returns-clause-none
returns-clause-none g c e =
    let trees = g.S.Store.trees c.args.store.now in
    let old = kid_trees trees c.args.old.now in
    let put = c.in_ok-spliced.spliced in
    spliced_none trees (pairs_at trees c.args.pairs.now) c.args.items.now put.items.items c.into_parts-system.result.0 old c.args.new.now
    c.as_slice.result.now put.kids.items c.into_parts-system.ensures.system c.in_ok-spliced.ensures.items
    (c.as_slice.ensures.value ∙ c.into_parts-system.ensures.kids) c.in_ok-spliced.ensures.kids (c.keep_system.ensures.none e)
