use Rattle.dlk_lines.proofs.Forms.{if_none}
use Rattle.dlk_lines.proofs.StepForms.{no_fact_behind}
use Rattle.dlk_lines.proofs.step.read_merge.Goals as goal

pub returns-in_err-fact-clause-none : goal.returns-in_err-fact-clause-none
returns-in_err-fact-clause-none c = if_none c.from_residual.result (λ fact h by is. c.in_err-fact.ensures.none fact h is.behind_goal is.numbers)

pub returns-in_err-by-clause-none : goal.returns-in_err-by-clause-none
returns-in_err-by-clause-none c = if_none c.from_residual-in_err-by.result (no_fact_behind c.args.text.now _ _ _ c.in_ok-fact.ensures.found c.in_err-by.ensures)
