use Rattle.std.proofs.Common.{sym}
use Rattle.dlk_guard.proofs.LastKids.{first_kid}
use Rattle.dlk_guard.proofs.parts.ends.Goals as goal
use Rattle.dlk_sequent.proofs.Last.{last_kid}

pub returns-clause-value : goal.returns-clause-value
returns-clause-value c = λ trees. record {
  first_is = sym (first_kid trees c.args.kids.now c.in-Some.first.now (sym c.in-Some.ensures.value));
  last_is = sym (last_kid trees c.args.kids.now c.in-Some-last.last.now (sym c.in-Some-last.ensures.value));
}
