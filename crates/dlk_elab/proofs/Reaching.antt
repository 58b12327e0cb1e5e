-- Where a use of an axiom acts.
use Rattle.std.proofs.Common.{◌≡◌, ℕ, ◌≤◌, List, length, Some, sym, subst, arith}
use Rattle.std.proofs.lemmas.List.{length-map}
use Rattle.dlk_tree.specs.Trees.{Tree}
use Rattle.dlk_store.specs.declared.Id.{Id}
use Rattle.dlk_store.specs.Stores.{tree}
use Rattle.dlk_calculus.specs.Limits.{most_formulas}
use Rattle.dlk_calculus.specs.Limited.{HasFewFormulas}
use Rattle.dlk_calculus.specs.Provables.{Provable}
use Rattle.dlk_calculus.specs.Sequents.{IsSequent}
use Rattle.dlk_calculus.specs.Steps.{IsGoal}
use Rattle.dlk_sequent.specs.declared.sequent.Place.{Place}
use Rattle.dlk_sequent.specs.declared.sequent.Sequent.{Sequent}
use Rattle.dlk_sequent.specs.Sequents.{sequent_at}
use Rattle.dlk_sequent.specs.Spines.{Way, top}
use Rattle.dlk_uses.specs.Uses.{formula_at}
use Rattle.dlk_uses.proofs.Behind.{formula_there}
use Rattle.dlk_elab.specs.declared.fault.TacFault.{TacFault}
use Rattle.dlk_elab.specs.declared.plan.Target.{Target}
use Rattle.dlk_elab.specs.Atoms.{NoPlace}
use Rattle.dlk_elab.specs.Ties.{IsTacFault}
use Rattle.dlk_elab.specs.Uses.{IsWayAt, HasNoWay, IsReached, IsNotThere}
use Rattle.dlk_elab.proofs.Elaborates.{tac_fault_weaker}

module _ (rows : List Provable) (target : Target) (trees : List Tree) (s : Sequent) (place : Place) (path : List ℕ)
    (is_goal : IsGoal rows target.fact target.goal (sequent_at trees s)) where
  pub not_there : (e : TacFault) → IsTacFault (λ why. (why ≡ NoPlace) × HasNoWay trees s place path) e →
      IsTacFault (λ why. (why ≡ NoPlace) × IsNotThere rows target place path) e
  not_there e h =
      tac_fault_weaker (λ why. (why ≡ NoPlace) × HasNoWay trees s place path) (λ why. (why ≡ NoPlace) × IsNotThere rows target place path)
      (λ why k. (k.0, record { s = sequent_at trees s; is_goal = is_goal; none = k.1 })) e h

  pub few_right : HasFewFormulas (sequent_at trees s) → length s.succ ≤ most_formulas
  few_right few = let n = length-map s.succ (tree trees) in let m = few.succ in omega (arith, n, m)

  pub reached : (way : Way) → IsSequent (sequent_at trees s) → HasFewFormulas (sequent_at trees s) → IsWayAt trees s place path way →
      IsReached rows target trees place path (record { way = way; right = length s.succ })
  reached way formulas few at =
      let starts = at.spine.starts in
      let stands : formula_at (sequent_at trees s) place ≡ Some (tree trees (top way)) =
      subst (λ (x : Id). formula_at (sequent_at trees s) place ≡ Some (tree trees
      x)) (sym starts) at.stands in
      record {
        s = sequent_at trees s;
        is_goal = is_goal;
        stands = stands;
        formula = (formula_there (sequent_at trees s) place (tree trees (top way)) formulas stands).sort_is;
        spine = at.spine.spine;
        goes = at.spine.goes;
        right = sym (length-map s.succ (tree trees));
        few = few_right few;
      }
