use Rattle.std.proofs.Common.{sym, subst}
use Rattle.dlk_tacsyn.specs.Ties.{ArgumentIsKnown, TacticIsKnown}
use Rattle.dlk_library.proofs.Known.{all_of}
use Rattle.dlk_library.proofs.rows.invariant_of.Goals as goal

pub returns-clause-known : goal.returns-clause-known
returns-clause-known c = λ trees p.
    let assumed = c.in_ok-assumed.ensures.known trees (subst (ArgumentIsKnown trees) (sym c.in_ok-copy.ensures) p) in
    let along = c.in_ok-along.ensures.known trees (subst (ArgumentIsKnown trees) (sym c.in_ok-copy-2.ensures) p) in
    let tested = all_of (TacticIsKnown trees) _ _ c.in_ok-vec.ensures.items (c.in_ok-tested.ensures.known trees p, (assumed, tt)) in
    let first = c.sequence-first.ensures.known trees tested in
    let branch = c.branch-branch.ensures.known trees (all_of (TacticIsKnown trees) _ _ c.in_ok-vec-2.ensures.items (first, (along, tt))) in
    c.sequence.ensures.known trees (all_of (TacticIsKnown trees) _ _ c.in_ok-vec-3.ensures.items (c.in_ok-used.ensures.known trees p, (branch, tt)))
