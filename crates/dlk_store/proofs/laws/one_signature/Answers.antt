use Rattle.dlk_tree.proofs.Listing.{one_signature}
use Rattle.dlk_store.proofs.laws.one_signature.Goals as goal

pub returns : goal.returns
returns g c = one_signature g.t c.args.a.now c.args.b.now c.requires.0 c.requires.1
