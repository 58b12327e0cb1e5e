-- What is looked at for a plan, by what stands at its place.
use Rattle.std.proofs.Common.{◌≡◌, ◌∙◌, ap, ℕ, ◌+◌, ◌*◌, ◌≤◌, List, length, ◌⊎◌, inl, inr, arith}
use Rattle.dlk_tree.specs.Trees.{Tree, node, size}
use Rattle.dlk_store.specs.declared.Id.{Id}
use Rattle.dlk_store.specs.Stores.{tree}
use Rattle.dlk_sequent.specs.declared.sequent.Place.{Place}
use Rattle.dlk_sequent.specs.declared.sequent.Sequent.{Sequent}
use Rattle.dlk_sequent.specs.Sequents.{sequent_at}
use Rattle.dlk_uses.specs.Uses.{formula_at}
use Rattle.dlk_derive.specs.Derives.{IsDifferential}
use Rattle.dlk_derive.specs.Looks.{found_looks, plan_looks}
use Rattle.dlk_derive.specs.Ties.{IsTreeAt, IsDifferentialOf}

pub one_node : (t : Tree) → 1 ≤ size t
one_node (node op kids) = omega arith

pub found_is : (trees : List Tree) (s : Sequent) (place : Place) (path : List ℕ) (found : Id) → IsTreeAt trees s place path found →
    plan_looks (formula_at (sequent_at trees s) place) path ≡ length path + 3 * size (tree trees found)
found_is trees s place path found at =
    ap (λ there. plan_looks there path) at.stands ∙ ap (λ o. length path + found_looks o) at.leads

-- what a `( )'` is of has a node less
smaller : (t k : Tree) → IsDifferential t k → 1 + size k ≤ size t
smaller t k (inl e) = rw e (omega arith)
smaller t k (inr e) = rw e (omega arith)

pub under_smaller : (trees : List Tree) (id k : Id) → IsDifferentialOf trees id k → 1 + size (tree trees k) ≤ size (tree trees id)
under_smaller trees id k under = smaller (tree trees id) (tree trees k) under.stands
