use Rattle.std.proofs.Common.{sym, subst}
use Rattle.dlk_tacsyn.specs.Ties.{ArgumentIsKnown, TacticIsKnown}
use Rattle.dlk_library.proofs.Known.{all_of}
use Rattle.dlk_library.proofs.rows.loop_of.Goals as goal

pub returns-clause-known : goal.returns-clause-known
returns-clause-known c = λ trees j p.
    let place = subst (ArgumentIsKnown trees) (sym c.in_ok-copy.ensures) p in
    let cut = c.in_ok-cut.ensures.known trees (all_of (ArgumentIsKnown trees) _ _ c.in_ok-args.ensures.items (j, (place, tt))) in
    let parts = all_of (TacticIsKnown trees) _ _ c.in_ok-vec.ensures.items (c.in_ok-kept.ensures.known trees j p, (c.in_ok-used.ensures.known trees, tt)) in
    c.sequence.ensures.known trees (all_of (TacticIsKnown trees) _ _ c.in_ok-vec-2.ensures.items (cut, (c.branch-branch.ensures.known trees parts, tt)))
