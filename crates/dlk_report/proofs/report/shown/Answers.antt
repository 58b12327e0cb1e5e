use Rattle.dlk_report.proofs.Ascii.{one_ascii, all_ascii}
use Rattle.dlk_report.proofs.report.shown.Goals as goal

pub returns-clause-ascii : goal.returns-clause-ascii
returns-clause-ascii g c =
    let trees = g.S.Store.trees c.args.kernel.now.store in
    record {
      conclusion = one_ascii _ c.in_ok-conclusion.ensures c.conclusion.ensures.formulas;
      goals = all_ascii trees c.goals.result.now c.in_ok-goals.ensures c.goals.ensures.formulas;
      leaves = all_ascii trees c.leaves.result.now c.in_ok-leaves.ensures c.leaves.ensures.formulas;
    }
