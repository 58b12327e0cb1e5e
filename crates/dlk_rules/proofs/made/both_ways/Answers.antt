use Rattle.std.proofs.Common.{ap, ◌∙◌}
use Rattle.dlk_tree.specs.Trees.{sort}
use Rattle.dlk_store.proofs.Kids.{StandsFor-kept}
use Rattle.dlk_sequent.proofs.Kept.{IsId-kept}
use Rattle.dlk_rules.proofs.OverIds.{stands_imply}
use Rattle.dlk_rules.proofs.made.both_ways.Goals as goal

pub imply-requires-2-clause-f : goal.imply-requires-2-clause-f
imply-requires-2-clause-f g c =
    IsId-kept (g.met.S.Store.grows_keeps c.args.store.now c.imply.new.store c.imply.ensures.grows) c.args.g c.requires.g

pub imply-requires-2-clause-g : goal.imply-requires-2-clause-g
imply-requires-2-clause-g g c =
    IsId-kept (g.met.S.Store.grows_keeps c.args.store.now c.imply.new.store c.imply.ensures.grows) c.args.f c.requires.f

pub imply-requires-2-clause-f_sort : goal.imply-requires-2-clause-f_sort
imply-requires-2-clause-f_sort g c =
    let keeps = g.met.S.Store.grows_keeps c.args.store.now c.imply.new.store c.imply.ensures.grows in
    ap sort (keeps.same c.args.g c.requires.g) ∙ c.requires.g_sort

pub imply-requires-2-clause-g_sort : goal.imply-requires-2-clause-g_sort
imply-requires-2-clause-g_sort g c =
    let keeps = g.met.S.Store.grows_keeps c.args.store.now c.imply.new.store c.imply.ensures.grows in
    ap sort (keeps.same c.args.f c.requires.f) ∙ c.requires.f_sort

pub returns-in_err-back-clause-grows : goal.returns-in_err-back-clause-grows
returns-in_err-back-clause-grows g c =
    g.met.S.Store.grows_trans c.args.store.now c.imply.new.store c.imply-2.new.store c.imply.ensures.grows c.imply-2.ensures.grows

pub returns-clause-there : goal.returns-clause-there
returns-clause-there g c =
    StandsFor-kept (g.met.S.Store.grows_keeps c.imply.new.store c.imply-2.new.store c.imply-2.ensures.grows) c.in_ok-there.ensures.made

pub returns-clause-back : goal.returns-clause-back
returns-clause-back g c =
    let keeps = g.met.S.Store.grows_keeps c.args.store.now c.imply.new.store c.imply.ensures.grows in
    stands_imply c.in_ok-back.ensures.made (keeps.same c.args.g c.requires.g) (keeps.same c.args.f c.requires.f)

pub returns-clause-grows : goal.returns-clause-grows
returns-clause-grows g c =
    g.met.S.Store.grows_trans c.args.store.now c.imply.new.store c.imply-2.new.store c.imply.ensures.grows c.imply-2.ensures.grows
