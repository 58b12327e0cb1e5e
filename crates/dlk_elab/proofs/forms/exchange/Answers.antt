use Rattle.dlk_elab.specs.Calls.{direction_of}
use Rattle.dlk_elab.proofs.Turns.{if_ok}
use Rattle.dlk_elab.proofs.Exchanges.{exchange_known, exchange_planned}
use Rattle.dlk_elab.proofs.forms.exchange.Goals as goal

pub returns : goal.returns
returns c = if_ok c.closed_by.result _ _ (rw c.in_ok-rules.ensures at c.closed_by.ensures)
    (λ steps planned trees s new right.
    exchange_planned trees c.args.by c.args.by c.args.aim.spot s c.args.aim.place (direction_of c.args.aim.direction) c.args.new steps.items right
    (planned trees (exchange_known trees c.args.aim.spot c.args.aim.place (direction_of c.args.aim.direction) c.args.new new)))
