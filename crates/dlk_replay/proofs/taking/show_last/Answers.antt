use Rattle.std.proofs.Common.{◌∙◌, sym}
use Rattle.std.proofs.lemmas.List.{length-map}
use Rattle.dlk_sequent.specs.Sequents.{sequent_at}
use Rattle.dlk_rules.specs.Steps.{step_at}
use Rattle.dlk_kernel.specs.Kernel.{facts}
use Rattle.dlk_replay.proofs.Watching.{sees_last}
use Rattle.dlk_replay.proofs.taking.show_last.Goals as goal

pub returns : goal.returns
returns g c =
    let trees = g.S.Store.trees c.args.kernel.now.store in
    let rows = facts g.S.Store.trees c.args.kernel.now in
    record {
      seen = sees_last g.W.Watcher.after rows (step_at trees c.args.step.now) c.args.watcher.now c.see.new.self c.rows-row.result
          (sequent_at trees c.conclusion.result.now) (c.rows-row.ensures.count ∙ sym (length-map _ _)) c.conclusion.ensures.conclusion c.in_ok-see.ensures.ok;
    }
