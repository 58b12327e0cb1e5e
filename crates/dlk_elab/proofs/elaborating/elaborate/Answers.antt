use Rattle.std.proofs.Common.{◌≡◌, Err, ap, map}
use Rattle.dlk_rules.specs.Steps.{step_at}
use Rattle.dlk_tacsyn.specs.Ties.{atom_at}
use Rattle.dlk_kernel.specs.Kernel.{facts}
use Rattle.dlk_kernel.proofs.RowsKept.{rows_back}
use Rattle.dlk_elab.specs.declared.fault.TacFault.TheVariants.{Memory}
use Rattle.dlk_elab.proofs.Elaborates.{made_proper}
use Rattle.dlk_elab.proofs.elaborating.elaborate.Goals as goal

pub returns-in-Ok-clause-made : goal.returns-in-Ok-clause-made
returns-in-Ok-clause-made g c = c.in-Ok.ensures.made.made

pub returns-in-Ok-clause-proper : goal.returns-in-Ok-clause-proper
returns-in-Ok-clause-proper g c =
    made_proper (facts g.S.Store.trees c.args.kernel.now) (facts g.S.Store.trees c.atom_steps.new.kernel) c.args.fact c.args.goal
    (atom_at (g.S.Store.trees c.args.kernel.now.store) c.args.atom.now) (map (step_at (g.S.Store.trees c.atom_steps.new.kernel.store)) c.in-Ok.made.items)
    c.in-Ok.ensures.made.made

pub returns-in-Err-clause-err : goal.returns-in-Err-clause-err
returns-in-Err-clause-err g c =
    rows_back g.S.Store.trees c.args.kernel.now c.atom_steps.new.kernel c.release.new.self c.atom_steps.ensures.kept
    (rw c.rows-rows.ensures.count at c.release.ensures.rows) c.release.ensures.store

pub returns-in-Err-clause-memory : goal.returns-in-Err-clause-memory
returns-in-Err-clause-memory g c = λ is. let why : c.in-Err.why ≡ Memory = cc is in c.in-Err.ensures.memory (ap Err why)
