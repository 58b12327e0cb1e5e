-- An exchange, over ids and over trees.
use Rattle.std.proofs.Common.{◌≡◌, ◌+◌, ℕ, List, length, All, refl, subst}
use Rattle.dlk_tree.specs.Trees.{Tree}
use Rattle.dlk_store.specs.declared.Id.{Id}
use Rattle.dlk_store.specs.Stores.{IsId, tree}
use Rattle.dlk_calculus.specs.Sequents.{Sequent}
use Rattle.dlk_sequent.specs.declared.sequent.Place.{Place}
use Rattle.dlk_sequent.specs.declared.sequent.Place.TheVariants.{Ante, Succ}
use Rattle.dlk_rules.specs.declared.step.Step.{Step}
use Rattle.dlk_uses.specs.Uses.{Direction, Forwards, Backwards, exchange, closed_by}
use Rattle.dlk_elab.specs.declared.spot.Spot.{Spot}
use Rattle.dlk_elab.specs.Forms.{exchange_rules}
use Rattle.dlk_elab.specs.Plans.{ArePlanned, goals_and_rules, spot_at}
use Rattle.dlk_elab.proofs.Turns.{Known, all_known}

pub exchange_known : (trees : List Tree) (spot : Spot) (place : Place) (direction : Direction) (new : Id) → IsId trees new →
    All (Known trees) (exchange_rules spot place direction new)
exchange_known trees spot (Succ j) Forwards new known = all_known trees (exchange_rules spot (Succ j) Forwards new) (known, (tt, (tt, (tt, tt))))
exchange_known trees spot (Succ j) Backwards new known = all_known trees (exchange_rules spot (Succ j) Backwards new) (known, (tt, (tt, tt)))
exchange_known trees spot (Ante i) Forwards new known = all_known trees (exchange_rules spot (Ante i) Forwards new) (known, (tt, (tt, tt)))
exchange_known trees spot (Ante i) Backwards new known = all_known trees (exchange_rules spot (Ante i) Backwards new) (known, (tt, (tt, (tt, tt))))

exchanged_as : (trees : List Tree) (by rows : ℕ) (spot : Spot) (s : Sequent) (place : Place) (direction : Direction) (new : Id) →
    closed_by by spot.fact rows (goals_and_rules trees
    (exchange_rules (record { fact = spot.fact; goal = spot.goal; right = length s.succ }) place direction new)) (spot.goal + 1)
    ≡ exchange by rows (spot_at spot s) place direction (tree trees new)
exchanged_as trees by rows spot s (Succ j) Forwards new = refl
exchanged_as trees by rows spot s (Succ j) Backwards new = refl
exchanged_as trees by rows spot s (Ante i) Forwards new = refl
exchanged_as trees by rows spot s (Ante i) Backwards new = refl

pub exchange_planned : (trees : List Tree) (by rows : ℕ) (spot : Spot) (s : Sequent) (place : Place) (direction : Direction) (new : Id) (steps : List Step) →
    spot.right ≡ length s.succ →
    ArePlanned trees steps (closed_by by spot.fact rows (goals_and_rules trees (exchange_rules spot place direction new)) (spot.goal + 1)) →
    ArePlanned trees steps (exchange by rows (spot_at spot s) place direction (tree trees new))
exchange_planned trees by rows spot s place direction new steps right planned =
    subst (ArePlanned trees steps) (exchanged_as trees by rows spot s place direction new)
    (subst (λ n. ArePlanned trees steps (closed_by by spot.fact rows
    (goals_and_rules trees (exchange_rules (record { fact = spot.fact; goal = spot.goal; right = n }) place direction new)) (spot.goal + 1)))
    right planned)
