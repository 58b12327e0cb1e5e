use Rattle.std.proofs.Common.{sym, subst}
use Rattle.dlk_sequent.specs.Sequents.{IsKnown}
use Rattle.dlk_report.proofs.report.texts.Goals as goal

pub text-requires : goal.text-requires
text-requires g c =
    rw c.value.ensures
    (subst (IsKnown (g.S.Store.trees c.args.store.now)) (sym c.s-item.is) (c.requires c.loop-s.s-index c.s-item.result c.loop-s-test.true))
