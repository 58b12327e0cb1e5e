use Rattle.std.proofs.Common.{refl}
use Rattle.dlk_calculus.specs.Pairs.{FirstIll}
use Rattle.dlk_sequent.specs.Substitutions.{pairs_at}
use Rattle.dlk_kernel.proofs.substituting.substitution.Goals as goal

-- where some pair is bad, they are not well formed
pub returns-in-Err-Ill-clause-ill : goal.returns-in-Err-Ill-clause-ill
returns-in-Err-Ill-clause-ill g c =
    let n = c.in-Err-Ill.field-0-0 in
    let w = c.in-Err-Ill.field-0-1 in
    let ill : FirstIll (pairs_at (g.S.Store.trees c.args.store.now) c.args.pairs.now) n w =
    rw c.in-Err-Ill.field-0-is at c.in-Err-Ill.ensures.ill in
    (refl, λ well. well.none n w ill.ill)
