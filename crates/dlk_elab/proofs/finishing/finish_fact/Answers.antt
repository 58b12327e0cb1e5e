use Rattle.dlk_elab.proofs.FinishPlans.{fact_finished}
use Rattle.dlk_elab.proofs.finishing.finish_fact.Goals as goal

pub returns : goal.returns
returns c trees path e f =
    fact_finished trees c.args.now c.args.aim path e f c.in_ok-made.made.items c.in-Succ.j c.in-Succ.is (λ s. c.in_ok-made.ensures trees s)
