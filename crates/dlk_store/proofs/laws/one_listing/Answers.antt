use Rattle.dlk_tree.proofs.Listing.{one_listing}
use Rattle.dlk_store.proofs.laws.one_listing.Goals as goal

pub returns : goal.returns
returns g c =
    let e = one_listing g.set c.args.a.now.all_but c.args.b.now.all_but c.args.a.now.vars c.args.b.now.vars c.requires.0 c.requires.1 in
    λ i. record { all_but = e.0 i; vars = e.1 i }
