use Rattle.std.proofs.Common.{refl}
use Rattle.dlk_kernel.proofs.AxiomRows.{rule_row}
use Rattle.dlk_kernel.proofs.named_rules.make_row.Goals as goal

pub returns-clause-rule : goal.returns-clause-rule
returns-clause-rule g c =
    let found = rw (c.bytes.ensures.bytes, c.in-Some.is) at c.in_ok-premises.ensures.rule in
    let row =
    rule_row _ c.in-Some.premises.items c.in-Some.conclusion _
    (rw (c.in_ok-conclusion.ensures, c.in_ok-leaves.ensures, c.new-2.ensures, c.of-goals.ensures, c.in_ok-shared_each.ensures) refl) found.0 found.2 in
    (found.0, found.1, row)

pub returns-in_default-clause-rule : goal.returns-in_default-clause-rule
returns-in_default-clause-rule g c = rw (c.bytes.ensures.bytes, c.in_default.is) at c.in_ok-premises.ensures.rule
