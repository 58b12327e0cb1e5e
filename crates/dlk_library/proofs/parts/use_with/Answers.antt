use Rattle.std.proofs.Common.{List, sym, subst}
use Rattle.std.specs.List.{All}
use Rattle.dlk_tree.specs.Trees.{Tree}
use Rattle.dlk_sequent.specs.Extras.{IsKnownExtra}
use Rattle.dlk_tacsyn.specs.Ties.{ArgumentIsKnown, TacticIsKnown}
use Rattle.dlk_tacsyn.proofs.Kept.{ok_map}
use Rattle.dlk_library.proofs.Known.{all_of}
use Rattle.dlk_library.proofs.parts.use_with.Goals as goal

pub returns-clause-known : goal.returns-clause-known
returns-clause-known c =
    ok_map (λ t. (trees : List Tree) → All (ArgumentIsKnown trees) c.in_ok-args.args.items → TacticIsKnown trees t)
    (λ t. (trees : List Tree) → ArgumentIsKnown trees c.args.place.now → IsKnownExtra trees c.args.extra → TacticIsKnown trees t)
    (λ t h trees p x. let place = subst (ArgumentIsKnown trees) (sym c.in_ok-copy.ensures) p in
    h trees (all_of (ArgumentIsKnown trees) _ _ c.in_ok-args.ensures.items (tt, (place, (x, tt)))))
    c.atom.result c.atom.ensures.known
