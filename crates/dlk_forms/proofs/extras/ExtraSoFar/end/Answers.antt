use Rattle.std.proofs.Common.{refl, subst}
use Rattle.dlk_machine.specs.Pairs.{Fresh}
use Rattle.dlk_forms.specs.ExtraReaders.{ShowsExtraAt}
use Rattle.dlk_forms.specs.declared.extras.ExtraMode.{ExtraMode}
use Rattle.dlk_forms.proofs.extras.ExtraSoFar.end.Goals as goal

pub returns-in-Renamed : goal.returns-in-Renamed
returns-in-Renamed c = λ x h.
    let s = subst (λ (m : ExtraMode). ShowsExtraAt c.args.self m x) c.in-Renamed.is h in
    rw s.state (c.pairs_end-in-Renamed.ensures Fresh (record { state = refl; rests = s.rests }))
