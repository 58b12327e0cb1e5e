use Rattle.std.proofs.Common.{All, subst, sym}
use Rattle.dlk_tacsyn.specs.Tactics.{Sequence}
use Rattle.dlk_tacsyn.specs.Ties.{TacticIsKnown}
use Rattle.dlk_tacsyn.proofs.Kept.{made_whole}
use Rattle.dlk_tacsyn.proofs.frame.sequence.Goals as goal

pub returns-in-Err-clause-whole : goal.returns-in-Err-clause-whole
returns-in-Err-clause-whole c = λ trees.
    made_whole trees (λ ps. Sequence ps) c.sequence.result c.in-Err.parts.items c.args.parts.items c.in-Err.ensures.same c.in-Err.ensures.more
    (c.sequence.ensures.made trees)

pub returns-in-Err-clause-known : goal.returns-in-Err-clause-known
returns-in-Err-clause-known c = λ trees all. c.sequence.ensures.known trees (subst (All (TacticIsKnown trees)) (sym c.in-Err.ensures.same) all)
