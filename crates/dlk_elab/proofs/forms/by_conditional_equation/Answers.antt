use Rattle.dlk_elab.specs.Calls.{direction_of}
use Rattle.dlk_elab.proofs.FormPlans.{conditional_equation_planned}
use Rattle.dlk_elab.proofs.forms.by_conditional_equation.Goals as goal

pub returns : goal.returns
returns c trees s e outer inner d l r condition equation equal is right =
    conditional_equation_planned trees c.args.now c.args.aim.spot s c.args.aim.place (direction_of c.args.aim.direction) e outer inner d l r c.args.equation
    c.args.condition
    c.in_ok-steps.steps.items c.in_ok-more.more.items c.in_ok-all.all.items equation condition c.in_ok-steps.ensures
    (c.in_ok-more.ensures trees s e outer inner d l r equal is right) c.in_ok-all.ensures
