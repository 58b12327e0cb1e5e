use Rattle.dlk_jobs_check.proofs.Exported.{leaves_arithmetic}
use Rattle.dlk_jobs_check.proofs.smt.export.Goals as goal

pub leaves_text-requires-clause-arithmetic : goal.leaves_text-requires-clause-arithmetic
leaves_text-requires-clause-arithmetic g c =
    leaves_arithmetic (g.S.Store.trees c.args.kernel.now.store) c.args.kernel.now.rows c.args.fact c.leaves.result.now c.requires c.leaves.ensures.leaves
    c.leaves.ensures.arithmetic
