-- When a lemma is linked into a term, and what is against it.
use Rattle.std.specs.Prelude.{List, []}
use Rattle.dlk_calculus.specs.declared.reason.Reason.{Reason}
use Rattle.dlk_calculus.specs.Provables.{Provable, IsAmong}
use Rattle.dlk_calculus.specs.Steps.{Step}
use Rattle.dlk_uses.specs.Taking.{FirstFault}
use Rattle.dlk_link.specs.Ends.{EndsIn}
use Rattle.dlk_link.specs.Linked.{Linked}

-- some goal of the term's last row is what the lemma concludes, and these are the linked steps
abbrev pub Links : List Step → List Step → List Step → Type 0
Links term lemma steps = (p q : Provable) → EndsIn term p → EndsIn lemma q → IsAmong q.conclusion p.goals × Linked term p.goals lemma q.conclusion steps

-- no goal is
abbrev pub LacksGoal : List Step → List Step → Type 0
LacksGoal term lemma = (p q : Provable) → EndsIn term p → EndsIn lemma q → ¬ IsAmong q.conclusion p.goals

-- some goal is, and this is the first fault of the linked steps
abbrev pub LinksUpTo : List Step → List Step → Reason → Type 0
LinksUpTo term lemma why = (steps : List Step) × Links term lemma steps × FirstFault [] steps why
