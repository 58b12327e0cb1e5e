use Rattle.std.proofs.Common.{◌↔◌, ℕ, not, IsTrue, subst}
use Rattle.dlk_vars.specs.Rows.{has_number}
use Rattle.dlk_vars.specs.Sets.{IsNonempty}
use Rattle.dlk_shared.proofs.SetLemmas.{none_in}
use Rattle.dlk_shared.proofs.sets.SetTable.is_none.Goals as goal

pub returns-clause-none : goal.returns-clause-none
returns-clause-none c h =
    let answer = c.is_empty.result in
    none_in c.args.self.now c.args.n answer
    (subst (λ r. IsTrue (not answer) ↔ ((m : ℕ) × IsTrue (has_number r m))) c.set.ensures c.is_empty.ensures.numbers) h

pub returns-clause-some : goal.returns-clause-some
returns-clause-some c = subst (IsNonempty (not c.is_empty.result)) c.set.ensures c.is_empty.ensures.vars
