use Rattle.std.proofs.Common.{Some, sym, ap, ◌∙◌}
use Rattle.dlk_store.proofs.Kids.{node_fits}
use Rattle.dlk_rules.proofs.look.top_at.Goals as goal

pub returns-clause-ok : goal.returns-clause-ok
returns-clause-ok g c =
    let at = c.in_ok-id.ensures.ok in
    let made = g.met.S.Store.well_made c.args.store.now in
    record {
      place_is = at.place_is;
      at = at.at ∙ ap Some (sym at.stands.tree_is ∙ c.look.ensures.node);
      known = c.look.ensures.known;
      sorts_are =
          (node_fits (g.S.Store.trees c.args.store.now) c.in_ok-id.id c.look.result.op.now c.look.result.kids.now made at.stands.known
          c.look.ensures.node).kids_fit;
    }
