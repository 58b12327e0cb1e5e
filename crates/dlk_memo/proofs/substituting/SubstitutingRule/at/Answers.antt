use Rattle.std.proofs.Common.{refl, sym, subst, ◌∙◌, arith}
use Rattle.std.specs.Prelude.{IfOk}
use Rattle.dlk_tree.specs.Table.{Fits}
use Rattle.dlk_tree.specs.Trees.{Tree, root, WellMade}
use Rattle.dlk_tree.specs.declared.op.Op.{Op}
use Rattle.dlk_store.specs.Stores.{tree, kid_trees, sorts_at}
use Rattle.dlk_calculus.specs.Subst.{SubstAt}
use Rattle.dlk_sequent.specs.Substitutions.{pairs_at}
use Rattle.dlk_subst.specs.Results.{IsResult, HasNone}
use Rattle.dlk_subst.specs.declared.pairs.Effect.TheVariants.{Gives, Plugs, Fills, Stays}
use Rattle.dlk_subst.proofs.Effects.{effect_holds, effect_ok, effect_none, effect_known, plugs_arguments, fills_formula}
use Rattle.dlk_memo.proofs.Rules.{args_ready, effect_cost, row_holds, row_ok}
use Rattle.dlk_memo.proofs.Tasks.{with_items, without_items}
use Rattle.dlk_memo.proofs.substituting.SubstitutingRule.at.Goals as goal

pub splice_at-requires-clause-fits : goal.splice_at-requires-clause-fits
splice_at-requires-clause-fits g c =
    let trees = g.S.Store.trees c.args.store.now in
    let op = root (tree trees c.args.id) in
    let is = with_items op c.in-Some.system (sym c.requires.task.items ∙ c.in-Some.is) in
    rw c.items.ensures (subst (λ (o : Op). Fits o (sorts_at trees c.args.new.now)) is c.requires.fits)

pub returns-in-Some : goal.returns-in-Some
returns-in-Some g c =
    let trees = g.S.Store.trees c.args.store.now in
    let pairs = c.args.self.now.pairs.now in
    let op = root (tree trees c.args.id) in
    let is = with_items op c.in-Some.system (sym c.requires.task.items ∙ c.in-Some.is) in
    let old = kid_trees trees c.args.old.now in
    let new = kid_trees trees c.args.new.now in
    let us = g.S.Store.trees c.splice_at.new.store in
    let ok = rw c.items.ensures at c.splice_at.ensures.ok in
    let none = rw c.items.ensures at c.splice_at.ensures.none in
    record {
      ok =
          row_ok trees pairs op old new us (g.met.S.Store.well_made c.splice_at.new.store) c.splice_at.result
          (subst (λ (o : Op). IfOk c.splice_at.result (IsResult (SubstAt (pairs_at trees pairs) o old new) us)) (sym is) ok);
      none = λ e. subst (λ (o : Op). HasNone (λ (t : Tree). SubstAt (pairs_at trees pairs) o old new t × WellMade t)) (sym is) (none e);
      grows = c.splice_at.ensures.grows;
      cost = c.splice_at.ensures.cost;
    }

pub plug_in-requires : goal.plug_in-requires
plug_in-requires g c =
    let trees = g.S.Store.trees c.args.store.now in
    let pairs = c.args.self.now.pairs.now in
    let is = sym c.in-Plugs.is ∙ c.requires.task.effect in
    let arguments = plugs_arguments trees pairs (root (tree trees c.args.id)) c.args.new.now c.in-Plugs.by is c.requires.fits in
    record {
      ready = args_ready trees c.args.new.now arguments.0 c.requires.new arguments.1;
      by = effect_known trees pairs (root (tree trees c.args.id)) (Plugs c.in-Plugs.by) c.in-Plugs.by c.requires.ready.known is refl;
    }

pub fill_admissible-requires : goal.fill_admissible-requires
fill_admissible-requires g c =
    let trees = g.S.Store.trees c.args.store.now in
    let pairs = c.args.self.now.pairs.now in
    let is = sym c.in-Fills.is ∙ c.requires.task.effect in
    let formula = fills_formula trees pairs (root (tree trees c.args.id)) c.args.new.now c.in-Fills.by is c.requires.fits in
    record {
      pairs = c.requires.ready.known;
      by = effect_known trees pairs (root (tree trees c.args.id)) (Fills c.in-Fills.by) c.in-Fills.by c.requires.ready.known is refl;
      old = c.requires.old;
      new = c.requires.new;
      some = formula.0;
      formula = formula.1;
    }

pub returns-in-Gives : goal.returns-in-Gives
returns-in-Gives g c =
    let trees = g.S.Store.trees c.args.store.now in
    let pairs = c.args.self.now.pairs.now in
    let is = sym c.in-Gives.is ∙ c.requires.task.effect in
    let old = kid_trees trees c.args.old.now in
    let new = kid_trees trees c.args.new.now in
    let other = without_items (root (tree trees c.args.id)) (sym c.requires.task.items ∙ c.in_default.is) in
    let known = effect_known trees pairs (root (tree trees c.args.id)) (Gives c.in-Gives.by) c.in-Gives.by c.requires.ready.known is refl in
    record {
      ok =
          row_holds trees pairs (root (tree trees c.args.id)) old new trees (g.met.S.Store.well_made c.args.store.now) c.in-Gives.by
          (effect_holds trees pairs (root (tree trees c.args.id)) old new (Gives c.in-Gives.by) other is trees c.in-Gives.by
          (record { result = _; is_related = refl; stands = record { known = known; tree_is = refl } }));
      none = λ e. absurd cc;
      grows = g.met.S.Store.grows_refl c.args.store.now;
      cost = λ u. omega arith;
    }

pub returns-in-Plugs : goal.returns-in-Plugs
returns-in-Plugs g c =
    let trees = g.S.Store.trees c.args.store.now in
    let pairs = c.args.self.now.pairs.now in
    let is = sym c.in-Plugs.is ∙ c.requires.task.effect in
    let other = without_items (root (tree trees c.args.id)) (sym c.requires.task.items ∙ c.in_default.is) in
    let old = kid_trees trees c.args.old.now in
    let new = kid_trees trees c.args.new.now in
    let us = g.S.Store.trees c.plug_in.new.store in
    let count = effect_cost trees pairs (root (tree trees c.args.id)) (Plugs c.in-Plugs.by) c.in-Plugs.by is refl in
    record {
      ok =
          row_ok trees pairs (root (tree trees c.args.id)) old new us (g.met.S.Store.well_made c.plug_in.new.store) c.plug_in.result
          (effect_ok trees pairs (root (tree trees c.args.id)) old new (Plugs c.in-Plugs.by) other is us c.plug_in.result c.plug_in.ensures.ok);
      none = λ e. effect_none trees pairs (root (tree trees c.args.id)) old new (Plugs c.in-Plugs.by) other is WellMade (c.plug_in.ensures.none e);
      grows = c.plug_in.ensures.grows;
      cost = λ u. let paid = c.plug_in.ensures.cost u in omega (arith, paid, count);
    }

pub returns-in-Fills : goal.returns-in-Fills
returns-in-Fills g c =
    let trees = g.S.Store.trees c.args.store.now in
    let pairs = c.args.self.now.pairs.now in
    let is = sym c.in-Fills.is ∙ c.requires.task.effect in
    let other = without_items (root (tree trees c.args.id)) (sym c.requires.task.items ∙ c.in_default.is) in
    let old = kid_trees trees c.args.old.now in
    let new = kid_trees trees c.args.new.now in
    let us = g.S.Store.trees c.fill_admissible.new.store in
    let count = effect_cost trees pairs (root (tree trees c.args.id)) (Fills c.in-Fills.by) c.in-Fills.by is refl in
    record {
      ok =
          row_ok trees pairs (root (tree trees c.args.id)) old new us (g.met.S.Store.well_made c.fill_admissible.new.store) c.fill_admissible.result
          (effect_ok trees pairs (root (tree trees c.args.id)) old new (Fills c.in-Fills.by) other is us c.fill_admissible.result c.fill_admissible.ensures.ok);
      none = λ e. effect_none trees pairs (root (tree trees c.args.id)) old new (Fills c.in-Fills.by) other is WellMade (c.fill_admissible.ensures.none e);
      grows = c.fill_admissible.ensures.grows;
      cost = λ u. let paid = c.fill_admissible.ensures.cost u in omega (arith, paid, count);
    }

pub returns-in-Stays : goal.returns-in-Stays
returns-in-Stays g c =
    let trees = g.S.Store.trees c.args.store.now in
    let pairs = c.args.self.now.pairs.now in
    let is = sym c.in-Stays.is ∙ c.requires.task.effect in
    let other = without_items (root (tree trees c.args.id)) (sym c.requires.task.items ∙ c.in_default.is) in
    let old = kid_trees trees c.args.old.now in
    let new = kid_trees trees c.args.new.now in
    let us = g.S.Store.trees c.keep_like.new.store in
    record {
      ok =
          row_ok trees pairs (root (tree trees c.args.id)) old new us (g.met.S.Store.well_made c.keep_like.new.store) c.keep_like.result
          (effect_ok trees pairs (root (tree trees c.args.id)) old new Stays other is us c.keep_like.result c.keep_like.ensures.ok);
      none = λ e. effect_none trees pairs (root (tree trees c.args.id)) old new Stays other is WellMade (c.keep_like.ensures.none e);
      grows = c.keep_like.ensures.grows;
      cost = λ u. omega arith;
    }
