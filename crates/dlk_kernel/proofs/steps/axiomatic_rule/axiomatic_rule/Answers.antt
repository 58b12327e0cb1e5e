use Rattle.std.proofs.Common.{◌≡◌, None}
use Rattle.dlk_calculus.specs.Axioms.{rule_named}
use Rattle.dlk_calculus.proofs.StepLaws.{first_unknown_rule}
use Rattle.dlk_kernel.proofs.Limited.{rule_within}
use Rattle.dlk_kernel.proofs.AxiomRows.{rule_given}
use Rattle.dlk_kernel.proofs.steps.axiomatic_rule.axiomatic_rule.Goals as goal

pub returns-in-Some-clause-given : goal.returns-in-Some-clause-given
returns-in-Some-clause-given g c =
    let found = rw c.in-Some.is at c.in_ok-row.ensures.rule in
    rule_given _ c.in-Some.row found.0 found.2 c.args.name.now found.1

pub returns-in-Some-clause-known : goal.returns-in-Some-clause-known
returns-in-Some-clause-known g c =
    let found = rw c.in-Some.is at c.in_ok-row.ensures.rule in found.2.known

pub returns-in-Some-clause-within : goal.returns-in-Some-clause-within
returns-in-Some-clause-within g c = rule_within c.args.name.now _

pub returns-in-None-clause-fault : goal.returns-in-None-clause-fault
returns-in-None-clause-fault g c = λ rows.
    let none : rule_named c.args.name.now ≡ None = rw c.in-None.is at c.in_ok-row.ensures.rule in
    first_unknown_rule rows c.args.name.now none
