use Rattle.dlk_parse.proofs.Nodes.{outside_fits}
use Rattle.dlk_parse.proofs.making.Maker.put_outside.Goals as goal

pub put-requires-clause-fits : goal.put-requires-clause-fits
put-requires-clause-fits g c = outside_fits (g.S.Store.trees c.args.store.now) c.args.op c.args.self.now c.if-self-gt0.false c.requires.well_made
