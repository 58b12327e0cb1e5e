use Rattle.dlk_forms.proofs.PairSteps.{pair_unended}
use Rattle.dlk_forms.proofs.pairs.PairsSoFar.finish.Goals as goal

pub returns : goal.returns
returns c = λ l x h.
    rw (pair_unended c.args.self.now l c.args.mode x (λ w k e. absurd (let i = c.in-InSystem.is in cc)) (λ s e. absurd (let i = c.in-InSystem.is in cc)) h) tt
