use Rattle.dlk_store.specs.Stores.{tree}
use Rattle.dlk_sequent.specs.Spines.{top, path_of}
use Rattle.dlk_elab.proofs.finishing.ways_round.Goals as goal

pub unreachable-requires : goal.unreachable-requires
unreachable-requires g c =
    let trees = g.S.Store.trees c.args.store.now in
    let way = c.args.spine.now in
    let is = c.one_innermost.ensures.some (tree trees (top way)) (path_of way) (tree trees way.found) c.requires.formula
    (c.spine_leads.ensures.leads trees way c.requires.spine) in
    c.in_default.ensures is.0 is.1 is.2 is.3
