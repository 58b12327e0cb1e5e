use Rattle.std.proofs.Common.{All, subst, sym}
use Rattle.dlk_tacsyn.specs.Tactics.{Choice}
use Rattle.dlk_tacsyn.specs.Ties.{TacticIsKnown}
use Rattle.dlk_tacsyn.proofs.Kept.{made_whole}
use Rattle.dlk_tacsyn.proofs.frame.choice.Goals as goal

pub returns-in-Err-clause-whole : goal.returns-in-Err-clause-whole
returns-in-Err-clause-whole c = λ trees.
    made_whole trees (λ ps. Choice ps) c.choice.result c.in-Err.parts.items c.args.parts.items c.in-Err.ensures.same c.in-Err.ensures.more
    (c.choice.ensures.made trees)

pub returns-in-Err-clause-known : goal.returns-in-Err-clause-known
returns-in-Err-clause-known c = λ trees all. c.choice.ensures.known trees (subst (All (TacticIsKnown trees)) (sym c.in-Err.ensures.same) all)
