use Rattle.dlk_calculus.specs.Paths.{put_at}
use Rattle.dlk_elab.specs.Calls.{direction_of}
use Rattle.dlk_elab.proofs.FormPlans.{equation_planned}
use Rattle.dlk_elab.proofs.forms.by_equation.Goals as goal

pub returns : goal.returns
returns c trees s e outer inner d l r equal is right =
    equation_planned trees c.args.now c.args.aim.spot s c.args.aim.place (direction_of c.args.aim.direction) e outer inner d l r c.args.y
    c.in_ok-steps.steps.items c.in_ok-more.more.items c.in_ok-all.all.items equal c.in_ok-steps.ensures
    (c.in_ok-more.ensures trees s e outer (put_at d inner l) (put_at d inner r) is right) c.in_ok-all.ensures
