use Rattle.std.proofs.Common.{refl}
use Rattle.dlk_lines.proofs.Forms.{if_none}
use Rattle.dlk_lines.proofs.Numbers.{one_number_then}
use Rattle.dlk_lines.proofs.step.fact_and_goal.Goals as goal

pub returns-in_err-fact-clause-none : goal.returns-in_err-fact-clause-none
returns-in_err-fact-clause-none c = if_none c.from_residual.result (λ fact h rest is. c.in_err-fact.ensures.none fact is.behind_fact is.fact_is)

pub returns-in_err-goal-clause-none : goal.returns-in_err-goal-clause-none
returns-in_err-goal-clause-none c = if_none c.from_residual-in_err-goal.result (λ fact h rest is.
    let first = one_number_then c.args.text.now 32 _ fact _ is.behind_fact refl c.in_ok-fact.ensures.found is.fact_is in
    c.in_err-goal.ensures.none h rest (rw first.1 is.goal_is))
