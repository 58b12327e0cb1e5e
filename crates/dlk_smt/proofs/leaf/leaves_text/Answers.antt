use Rattle.std.proofs.Common.{sym, subst}
use Rattle.std.specs.Prelude.{IsTrue}
use Rattle.dlk_calculus.specs.Arithmetic.{is_arithmetic_sequent}
use Rattle.dlk_calculus.specs.Sequents.{Sequent}
use Rattle.dlk_sequent.specs.Sequents.{sequent_at, IsKnown}
use Rattle.dlk_smt.proofs.Leaves.{All-at-map}
use Rattle.dlk_smt.proofs.leaf.leaves_text.Goals as goal

pub append_leaf-requires-clause-known : goal.append_leaf-requires-clause-known
append_leaf-requires-clause-known g c =
    rw c.value.ensures
    (subst (IsKnown (g.S.Store.trees c.args.store.now)) (sym c.index-leaves-i.is) (c.requires.known c.loop-i.i c.index-leaves-i.result c.loop-i-test.true))

pub append_leaf-requires-clause-arithmetic : goal.append_leaf-requires-clause-arithmetic
append_leaf-requires-clause-arithmetic g c =
    let trees = g.S.Store.trees c.args.store.now in
    rw c.value.ensures (All-at-map (λ (s : Sequent). IsTrue (is_arithmetic_sequent s)) (sequent_at trees) c.args.leaves.now c.loop-i.i c.index-leaves-i.result
    c.requires.arithmetic c.loop-i-test.true c.index-leaves-i.is)
