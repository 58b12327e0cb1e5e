use Rattle.std.proofs.Common.{map, sym, subst}
use Rattle.std.proofs.lemmas.Result.{IfOk-weaker}
use Rattle.dlk_rules.specs.Steps.{step_at}
use Rattle.dlk_replay.specs.Files.{file_lines, FileSteps}
use Rattle.dlk_replay.proofs.replaying.replay.Goals as goal

pub returns-clause-steps : goal.returns-clause-steps
returns-clause-steps g c =
    IfOk-weaker c.take_lines.result _ (λ outcome.
    FileSteps (file_lines c.args.bytes.now) (map (step_at (g.S.Store.trees c.take_lines.new.kernel.store)) outcome.steps.items))
    (λ outcome shown. subst (FileSteps (file_lines c.args.bytes.now)) (sym shown.kept_are) shown.says) c.take_lines.ensures.shows
