use Rattle.dlk_elab.specs.Calls.{direction_of}
use Rattle.dlk_elab.proofs.FormPlans.{equivalence_planned}
use Rattle.dlk_elab.proofs.forms.by_equivalence.Goals as goal

pub returns : goal.returns
returns c trees s e path l r is right =
    equivalence_planned trees c.args.now c.args.aim.spot s c.args.aim.place (direction_of c.args.aim.direction) e path l r c.args.x
    c.in_ok-steps.steps.items c.in_ok-more.more.items c.in_ok-all.all.items is c.in_ok-steps.ensures (c.in_ok-more.ensures trees s is.new.known right)
    c.in_ok-all.ensures
