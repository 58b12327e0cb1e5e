use Rattle.std.proofs.Common.{◌≤◌, length, sym, ◌∙◌, arith}
use Rattle.std.proofs.lemmas.List.{length-map}
use Rattle.dlk_kernel.specs.Kernel.{facts, provable_at}
use Rattle.dlk_jobs_check.proofs.Judging.{fault_ends}
use Rattle.dlk_jobs_terms.proofs.KeptSteps.{kept}
use Rattle.dlk_jobs_terms.proofs.taken.replayed.Goals as goal

pub returns-in-Ok-clause-kept : goal.returns-in-Ok-clause-kept
returns-in-Ok-clause-kept g c =
    let kernel = c.replay.new.kernel in
    let rows = facts g.S.Store.trees kernel in
    let count = length-map kernel.rows (provable_at (g.S.Store.trees kernel.store)) in
    let ok = c.in-Ok.ensures in
    let some : 1 ≤ length rows = omega (arith, ok.some, count) in
    kept (g.S.Store.trees kernel.store) c.args.term.now rows c.in-Ok.outcome ok.ok some (ok.fact ∙ sym count) ok.steps

pub returns-in-Err-clause-refused : goal.returns-in-Err-clause-refused
returns-in-Err-clause-refused g c =
    fault_ends c.args.words.now c.args.term.now c.in-Err.fault c.refuse_term.result c.in-Err.ensures.bad c.refuse_term.ensures
