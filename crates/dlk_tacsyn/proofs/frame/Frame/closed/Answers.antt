use Rattle.std.proofs.Common.{map, sym, ap, ◌∙◌}
use Rattle.dlk_tacsyn.specs.Ties.{tactic_at}
use Rattle.dlk_tacsyn.specs.Steps.{closed}
use Rattle.dlk_tacsyn.proofs.frame.Frame.closed.Goals as goal

pub returns-clause-closed : goal.returns-clause-closed
returns-clause-closed c = λ trees.
    c.branch-at.ensures.made trees ∙ ap (λ o. closed o (map (tactic_at trees) c.args.self.branches.items)) (sym c.in-Fork.is)

pub returns-clause-known : goal.returns-clause-known
returns-clause-known c = λ trees k. c.branch-at.ensures.known trees k.branches
