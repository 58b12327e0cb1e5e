use Rattle.std.proofs.Common.{inl, inr}
use Rattle.dlk_calculus.proofs.Binders.{another_name, bound_decided}
use Rattle.dlk_calculus.proofs.laws.renamed_decided.Goals as goal

pub returns-clause-decided : goal.returns-clause-decided
returns-clause-decided c y t = elim (bound_decided y t) [ yes h ↦ inl h | no n ↦ inr (λ p a. n (p, a)) ]

pub returns-clause-another : goal.returns-clause-another
returns-clause-another c x y z f t u a = another_name a z
