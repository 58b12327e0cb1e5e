use Rattle.std.proofs.Common.{◌≡◌}
use Rattle.dlk_tree.specs.Occurs.{has}
use Rattle.dlk_store.specs.Stores.{tree}
use Rattle.dlk_calculus.specs.Pairs.{is_dot_from}
use Rattle.dlk_sequent.proofs.why.has_dot_from.Given as goal

-- the dots below n don't matter
abbrev pub invariant-loop-n : goal.invariant-loop-n
invariant-loop-n g l =
    let t = tree (g.S.Store.trees l.store) l.id in
    has (is_dot_from l.arity) t ≡ has (is_dot_from l.n) t
