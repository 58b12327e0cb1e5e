use Rattle.dlk_elab.proofs.Turns.{closed_are}
use Rattle.dlk_elab.proofs.spot.closed_by.Goals as goal

pub returns : goal.returns
returns c trees known =
    closed_are trees c.args.by c.args.spot.fact c.args.rows c.args.rules.items c.args.goal c.in_ok-steps.steps.items known c.in_ok-steps.ensures
