use Rattle.std.proofs.Common.{ap, subst}
use Rattle.dlk_calculus.specs.Provables.{Provable}
use Rattle.dlk_calculus.specs.Sequents.{IsSequent}
use Rattle.dlk_calculus.specs.Steps.{Derives}
use Rattle.dlk_calculus.proofs.Leaves.{Derives-leaves}
use Rattle.dlk_calculus.proofs.PlaceLaws.{at_one}
use Rattle.dlk_sequent.specs.Sequents.{sequent_at}
use Rattle.dlk_kernel.proofs.Reading.{All-unmap}
use Rattle.dlk_kernel.proofs.kernel.Kernel.leaves.Goals as goal

pub returns-clause-leaves : goal.returns-clause-leaves
returns-clause-leaves g c = λ p there.
    rw (c.as_slice.ensures, c.value.ensures) (ap (λ (x : Provable). x.leaves) (at_one _ c.args.fact p _ there c.row.ensures.fact))

pub returns-clause-derived : goal.returns-clause-derived
returns-clause-derived g c = λ p there. subst Derives (at_one _ c.args.fact _ p c.row.ensures.fact there) c.row.ensures.derived

pub returns-clause-formulas : goal.returns-clause-formulas
returns-clause-formulas g c =
    rw (c.as_slice.ensures, c.value.ensures)
    (All-unmap IsSequent (sequent_at (g.S.Store.trees c.args.self.now.store)) c.row.result.now.leaves c.row.ensures.formulas.leaves)

pub returns-clause-arithmetic : goal.returns-clause-arithmetic
returns-clause-arithmetic g c = λ p there. Derives-leaves p (subst Derives (at_one _ c.args.fact _ p c.row.ensures.fact there) c.row.ensures.derived)
