use Rattle.std.proofs.Common.{sym, ◌∙◌, length, ◌≡◌}
use Rattle.std.specs.Vec.Iter.{into_iter_items}
use Rattle.dlk_parse.specs.Making.{making_at}
use Rattle.dlk_parse.proofs.Nodes.{next_well_made, all_made}
use Rattle.dlk_parse.proofs.making.make_all.Goals as goal

pub step-requires-clause-well_made : goal.step-requires-clause-well_made
step-requires-clause-well_made g c =
    next_well_made (making_at (g.S.Store.trees c.loop-piece.store) c.loop-piece.maker) c.in-Some.piece c.args.code.items
    (into_iter_items c.loop-piece.piece-iterator) (into_iter_items c.next.new.self) c.requires c.loop-piece.invariant.ends c.in-Some.ensures.steps.0

pub returns-clause-made : goal.returns-clause-made
returns-clause-made g c =
    let none : length (into_iter_items c.loop-piece.piece-iterator) ≡ 0 = sym c.loop-piece.piece-iterator.rest.ok.0 ∙ c.in-None.ensures.steps.0 in
    all_made (g.S.Store.trees c.loop-piece.store) c.loop-piece.maker c.args.code.items (into_iter_items c.loop-piece.piece-iterator)
    c.loop-piece.invariant.known c.loop-piece.invariant.ends none
