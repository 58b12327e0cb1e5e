-- The leaves of a fact are sequents of arithmetic.
use Rattle.std.proofs.Common.{◌≡◌, ℕ, List, map, inl, inr, subst, arith}
use Rattle.std.specs.Prelude.{All, IsTrue}
use Rattle.std.proofs.lemmas.List.{length-map}
use Rattle.dlk_tree.specs.Trees.{Tree}
use Rattle.dlk_calculus.specs.Arithmetic.{is_arithmetic_sequent}
use Rattle.dlk_calculus.specs.Places.{At, IsPlace}
use Rattle.dlk_calculus.specs.Provables.{Provable, HasLeaves}
use Rattle.dlk_calculus.specs.Sequents.{Sequent}
use Rattle.dlk_calculus.proofs.PlaceLaws.{place_cases}
use Rattle.dlk_sequent.specs.Sequents.{sequent_at}
use Rattle.dlk_sequent.specs.declared.sequent.Sequent.{Sequent as IdSequent}
use Rattle.dlk_kernel.specs.Kernel.{provable_at, provables_at}
use Rattle.dlk_kernel.specs.declared.row.Row.{Row}

pub leaves_arithmetic : (trees : List Tree) (rows : List Row) (fact : ℕ) (leaves : List IdSequent) → IsPlace rows fact
    → ((p : Provable) → At (provables_at trees rows) fact p → p.leaves ≡ map (sequent_at trees) leaves)
    → ((p : Provable) → At (provables_at trees rows) fact p → HasLeaves p)
    → All (λ (s : Sequent). IsTrue (is_arithmetic_sequent s)) (map (sequent_at trees) leaves)
leaves_arithmetic trees rows fact leaves place same has = elim (place_cases (provables_at trees rows) fact) [
  | inl there ↦ subst (λ (l : List Sequent). All (λ (s : Sequent). IsTrue (is_arithmetic_sequent s)) l) (same there.0 there.1) (has there.0 there.1).arithmetic
  | inr none ↦ absurd (none (place.0, omega (arith, place.1, length-map rows (provable_at trees))))
]
