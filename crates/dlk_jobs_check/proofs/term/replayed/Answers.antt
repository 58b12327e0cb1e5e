use Rattle.std.proofs.Common.{◌≤◌, length, sym, ◌∙◌, codes, arith}
use Rattle.std.proofs.lemmas.List.{length-map}
use Rattle.dlk_kernel.specs.Kernel.{facts, provable_at}
use Rattle.dlk_jobs_check.proofs.Judging.{replayed, fault_ends}
use Rattle.dlk_jobs_check.proofs.term.replayed.Goals as goal

pub returns-in-Ok-clause-replays : goal.returns-in-Ok-clause-replays
returns-in-Ok-clause-replays g c =
    let kernel = c.replay_watched.new.kernel in
    let rows = facts g.S.Store.trees kernel in
    let count = length-map kernel.rows (provable_at (g.S.Store.trees kernel.store)) in
    let ok = c.in-Ok.ensures in
    let some : 1 ≤ length rows = omega (arith, ok.some, count) in
    replayed g.W.Watcher.after c.args.term.now rows c.in-Ok.ending c.args.watcher.now c.replay_watched.new.watcher ok.ok some
    (record { fact = ok.fact ∙ sym count; lines = ok.lines ∙ sym count }) ok.seen

pub returns-in-Err-clause-refused : goal.returns-in-Err-clause-refused
returns-in-Err-clause-refused g c = fault_ends (codes "line") c.args.term.now c.in-Err.fault c.refuse_term.result c.in-Err.ensures.bad c.refuse_term.ensures
