use Rattle.std.proofs.Common.{◌≡◌, None, refl}
use Rattle.dlk_calculus.specs.Axioms.{axiom_named}
use Rattle.dlk_calculus.proofs.StepLaws.{first_unknown_axiom}
use Rattle.dlk_kernel.proofs.Limited.{axiom_within}
use Rattle.dlk_kernel.proofs.AxiomRows.{axiom_given}
use Rattle.dlk_kernel.proofs.steps.axiom.axiom.Goals as goal

pub returns-clause-given : goal.returns-clause-given
returns-clause-given g c =
    let found = rw c.in-Some.is at c.in_ok-formula.ensures.axiom in
    axiom_given _ c.in-Some.formula _
    (rw (c.in_ok-conclusion.ensures, c.in_ok-alone_right.ensures, c.in_ok-leaves.ensures, c.new-2.ensures, c.new-goals.ensures) refl)
    c.args.name.now found.0 found.1 found.2

pub returns-clause-within : goal.returns-clause-within
returns-clause-within g c = axiom_within c.args.name.now _

pub returns-in_default-clause-fault : goal.returns-in_default-clause-fault
returns-in_default-clause-fault g c = λ rows.
    let none : axiom_named c.args.name.now ≡ None = rw c.in_default.is at c.in_ok-formula.ensures.axiom in
    first_unknown_axiom rows c.args.name.now none
