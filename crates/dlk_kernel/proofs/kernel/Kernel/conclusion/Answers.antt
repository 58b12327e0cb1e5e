use Rattle.std.proofs.Common.{ap, subst}
use Rattle.dlk_calculus.specs.Provables.{Provable}
use Rattle.dlk_calculus.specs.Steps.{Derives}
use Rattle.dlk_calculus.proofs.PlaceLaws.{at_one}
use Rattle.dlk_kernel.proofs.kernel.Kernel.conclusion.Goals as goal

pub returns-clause-conclusion : goal.returns-clause-conclusion
returns-clause-conclusion g c = λ p there. rw c.value.ensures (ap (λ (x : Provable). x.conclusion) (at_one _ c.args.fact p _ there c.row.ensures.fact))

pub returns-clause-derived : goal.returns-clause-derived
returns-clause-derived g c = λ p there. subst Derives (at_one _ c.args.fact _ p c.row.ensures.fact there) c.row.ensures.derived
