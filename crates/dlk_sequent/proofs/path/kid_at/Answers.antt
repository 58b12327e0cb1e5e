use Rattle.std.proofs.Common.{◌<◌, ◌≤◌, length, refl, arith}
use Rattle.std.proofs.lemmas.Bool.Decides.{nat_tests}
use Rattle.std.proofs.lemmas.Option.{slice_get_read, slice_get_past}
use Rattle.dlk_sequent.proofs.KidAt.{leads_to_kid, leads_nowhere}
use Rattle.dlk_sequent.proofs.path.kid_at.Goals as goal

pub returns-in-Some-clause-kid : goal.returns-in-Some-clause-kid
returns-in-Some-clause-kid g c =
    let ks = c.look.result.kids.now in
    let within : c.args.n < length ks = grind (arith, nat_tests, c.in-Some.ensures.lookup.0) in
    leads_to_kid (g.S.Store.trees c.args.store.now) c.args.id c.look.result.op.now ks c.args.n c.in-Some.kid.now c.look.ensures.node c.look.ensures.known
    (slice_get_read ks (length ks) c.args.n c.in-Some.kid.now refl within c.in-Some.ensures.lookup.1)

pub returns-in-None-clause-kid : goal.returns-in-None-clause-kid
returns-in-None-clause-kid g c =
    let ks = c.look.result.kids.now in
    let past : length ks ≤ c.args.n = grind (arith, nat_tests, c.in-None.ensures.lookup.0) in
    leads_nowhere (g.S.Store.trees c.args.store.now) c.args.id c.look.result.op.now ks c.args.n c.look.ensures.node (slice_get_past ks c.args.n past)
