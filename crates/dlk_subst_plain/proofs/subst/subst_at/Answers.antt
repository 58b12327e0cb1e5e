use Rattle.std.proofs.Common.{refl}
use Rattle.dlk_tree.specs.Trees.{WellMade}
use Rattle.dlk_store.specs.Stores.{kid_trees}
use Rattle.dlk_subst.specs.declared.pairs.Effect.TheVariants.{Gives, Plugs, Fills, Stays}
use Rattle.dlk_subst.proofs.Effects.{effect_holds, effect_ok, effect_none, no_system, effect_known, plugs_arguments, fills_formula}
use Rattle.dlk_subst_plain.proofs.subst.subst_at.Goals as goal

pub plug-requires : goal.plug-requires
plug-requires g c =
    let trees = g.S.Store.trees c.args.store.now in
    let is = c.in-Plugs.ensures in
    let arguments = plugs_arguments trees c.args.pairs.now c.args.op.now c.args.new.now c.in-Plugs.by is c.requires.fits in
    record {
      few = arguments.0;
      args = c.requires.new;
      terms = arguments.1;
      known = effect_known trees c.args.pairs.now c.args.op.now (Plugs c.in-Plugs.by) c.in-Plugs.by c.requires.pairs is refl;
    }

pub fill_admissible-requires : goal.fill_admissible-requires
fill_admissible-requires g c =
    let trees = g.S.Store.trees c.args.store.now in
    let is = c.in-Fills.ensures in
    let formula = fills_formula trees c.args.pairs.now c.args.op.now c.args.new.now c.in-Fills.by is c.requires.fits in
    record {
      pairs = c.requires.pairs;
      by = effect_known trees c.args.pairs.now c.args.op.now (Fills c.in-Fills.by) c.in-Fills.by c.requires.pairs is refl;
      old = c.requires.old;
      new = c.requires.new;
      some = formula.0;
      formula = formula.1;
    }

pub returns-in-Gives-clause-ok : goal.returns-in-Gives-clause-ok
returns-in-Gives-clause-ok g c =
    let trees = g.S.Store.trees c.args.store.now in
    let is = c.in-Gives.ensures in
    effect_holds trees c.args.pairs.now c.args.op.now (kid_trees trees c.args.old.now) (kid_trees trees c.args.new.now) (Gives c.in-Gives.by)
    (no_system c.args.op.now c.in_default.not-System) is trees c.in-Gives.by
    (record {
      result = _;
      is_related = refl;
      stands =
          record { known = effect_known trees c.args.pairs.now c.args.op.now (Gives c.in-Gives.by) c.in-Gives.by c.requires.pairs is refl; tree_is = refl };
    })

pub returns-in-Plugs : goal.returns-in-Plugs
returns-in-Plugs g c =
    let trees = g.S.Store.trees c.args.store.now in
    let other = no_system c.args.op.now c.in_default.not-System in
    let old = kid_trees trees c.args.old.now in
    let new = kid_trees trees c.args.new.now in
    record {
      ok =
          effect_ok trees c.args.pairs.now c.args.op.now old new (Plugs c.in-Plugs.by) other c.in-Plugs.ensures (g.S.Store.trees c.plug.new.store)
          c.plug.result c.plug.ensures.ok;
      none = λ e. effect_none trees c.args.pairs.now c.args.op.now old new (Plugs c.in-Plugs.by) other c.in-Plugs.ensures WellMade (c.plug.ensures.none e);
      grows = c.plug.ensures.grows;
    }

pub returns-in-Fills : goal.returns-in-Fills
returns-in-Fills g c =
    let trees = g.S.Store.trees c.args.store.now in
    let other = no_system c.args.op.now c.in_default.not-System in
    let old = kid_trees trees c.args.old.now in
    let new = kid_trees trees c.args.new.now in
    record {
      ok =
          effect_ok trees c.args.pairs.now c.args.op.now old new (Fills c.in-Fills.by) other c.in-Fills.ensures
          (g.S.Store.trees c.fill_admissible.new.store) c.fill_admissible.result c.fill_admissible.ensures.ok;
      none =
          λ e. effect_none trees c.args.pairs.now c.args.op.now old new (Fills c.in-Fills.by) other c.in-Fills.ensures WellMade
          (c.fill_admissible.ensures.none e);
      grows = c.fill_admissible.ensures.grows;
    }

pub returns-in-Stays : goal.returns-in-Stays
returns-in-Stays g c =
    let trees = g.S.Store.trees c.args.store.now in
    let other = no_system c.args.op.now c.in_default.not-System in
    let old = kid_trees trees c.args.old.now in
    let new = kid_trees trees c.args.new.now in
    record {
      ok =
          effect_ok trees c.args.pairs.now c.args.op.now old new Stays other c.in-Stays.ensures (g.S.Store.trees c.keep_admissible.new.store)
          c.keep_admissible.result c.keep_admissible.ensures.ok;
      none = λ e. effect_none trees c.args.pairs.now c.args.op.now old new Stays other c.in-Stays.ensures WellMade (c.keep_admissible.ensures.none e);
      grows = c.keep_admissible.ensures.grows;
    }
