use Rattle.std.proofs.Common.{arith, inl, inr}
use Rattle.std.proofs.lemmas.Bool.{cases_lt}
use Rattle.dlk_calculus.specs.Reasons.{rank}
use Rattle.dlk_calculus.proofs.StepLaws.{given_unless}
use Rattle.dlk_calculus.proofs.LimitLaws.{verdict_cases, limit_gives}
use Rattle.dlk_calculus.proofs.laws.given_unless_against.Goals as goal

pub returns-clause-given : goal.returns-clause-given
returns-clause-given c = given_unless

pub returns-clause-against : goal.returns-clause-against
returns-clause-against c = verdict_cases

pub returns-clause-limits : goal.returns-clause-limits
returns-clause-limits c = λ rows step why proper limit f.
    limit_gives rows step why proper (elim (cases_lt 11 (rank why)) [ inl lt ↦ lt | inr le ↦ absurd (limit (omega (arith, le))) ]) f
