-- What atoms for boxes ask for, by their plans.
use Rattle.std.proofs.Common.{◌≡◌, List, [], ◌∷◌, map, length, sym, ap, subst, ◌∙◌}
use Rattle.std.specs.Prelude.{codes}
use Rattle.dlk_tree.specs.Trees.{Tree}
use Rattle.dlk_store.specs.declared.Id.{Id}
use Rattle.dlk_store.specs.Stores.{IsId, tree, Keeps}
use Rattle.dlk_calculus.specs.Provables.{Provable}
use Rattle.dlk_calculus.specs.Steps.{IsGoal}
use Rattle.dlk_sequent.specs.declared.sequent.Sequent.{Sequent}
use Rattle.dlk_sequent.specs.Sequents.{sequent_at}
use Rattle.dlk_rules.specs.declared.step.Step.{Step}
use Rattle.dlk_rules.specs.Steps.{step_at}
use Rattle.dlk_tacsyn.specs.Tactics.{Argument, GivenFormula, Atom}
use Rattle.dlk_uses.specs.Uses.{generalizing, cutting_box}
use Rattle.dlk_elab.specs.declared.boxes.Boxed.{Boxed}
use Rattle.dlk_elab.specs.declared.fault.TacFault.{TacFault}
use Rattle.dlk_elab.specs.declared.plan.Target.{Target}
use Rattle.dlk_elab.specs.Atoms.{AtomFault, asks_none, Asks, Steps, IsForBox, generalize, cut_box}
use Rattle.dlk_elab.specs.Plans.{ArePlanned, goal_at}
use Rattle.dlk_elab.specs.Ties.{IsTacFault, NoBox, IsBoxAt, AreAsked, AsksSome}
use Rattle.dlk_elab.proofs.Elaborates.{tac_fault_weaker, are_asked, asks_some}

module _ (rows : List Provable) (target : Target) (atom : Atom) (trees : List Tree) (s : Sequent) (argument : Argument) (counted : target.rows ≡ length rows)
    (is_goal : IsGoal rows target.fact target.goal (sequent_at trees s)) where
  pub box_fault : IsForBox atom argument → (e : TacFault) → IsTacFault (NoBox (sequent_at trees s) argument) e →
      IsTacFault (AtomFault rows target.fact target.goal atom) e
  box_fault is e h =
      tac_fault_weaker (NoBox (sequent_at trees s) argument) (AtomFault rows target.fact target.goal atom)
      (λ why none. asks_none (sequent_at trees s) is_goal (none (length rows) target.fact target.goal atom is)) e h

  pub generalize_asked : (b : Boxed) (plan : List Step) → atom.name ≡ codes "G" → atom.arguments ≡ argument ∷ [] → IsBoxAt trees s argument b →
      ArePlanned trees plan (generalizing target.rows (goal_at target (sequent_at trees s)) b.place (tree trees b.program) (tree trees b.formula)) →
      AreAsked rows target.fact target.goal atom trees plan
  generalize_asked b plan name args at planned =
      are_asked rows target.rows target.fact target.goal atom (sequent_at trees s) counted is_goal trees plan
      (subst (λ xs. Asks target.rows target.fact target.goal (sequent_at trees s) atom (Steps xs)) (sym planned.are)
      (generalize b.place (tree trees b.program) (tree trees b.formula) name (args ∙ ap (λ a. a ∷ []) at.place) at.stands)) planned.known

  pub cut_asked : (new : List Tree) (b : Boxed) (h : Id) (plan : List Step) → Keeps trees new → IsId trees h → atom.name ≡ codes "boxCut" →
      atom.arguments ≡ GivenFormula (tree trees h) ∷ argument ∷ [] → IsBoxAt trees s argument b →
      ArePlanned new plan (cutting_box target.rows (goal_at target (sequent_at trees s)) b.place (tree new b.program) (tree new b.formula) (tree new h)) →
      AreAsked rows target.fact target.goal atom new plan
  cut_asked new b h plan keeps known name args at planned =
      let p = keeps.same b.program at.program_known in
      let f = keeps.same b.formula at.formula_known in
      let k = keeps.same h known in
      let are : map (step_at new) plan ≡ cutting_box target.rows (goal_at target (sequent_at trees s)) b.place (tree trees b.program)
      (tree trees b.formula) (tree
      trees h) = planned.are ∙ (λ i. cutting_box target.rows (goal_at target (sequent_at trees s)) b.place (p i) (f i) (k i)) in
      are_asked rows target.rows target.fact target.goal atom (sequent_at trees s) counted is_goal new plan
      (subst (λ xs. Asks target.rows target.fact target.goal (sequent_at trees s) atom (Steps xs)) (sym are)
      (cut_box b.place (tree trees b.program) (tree trees b.formula) (tree trees h) name (args ∙ ap (λ a. GivenFormula (tree trees h) ∷ a ∷ []) at.place)
      at.stands))
      planned.known

  -- where a box stands, they ask for some steps
  pub generalize_some : (b : Boxed) → atom.name ≡ codes "G" → atom.arguments ≡ argument ∷ [] → IsBoxAt trees s argument b →
      AsksSome rows target.fact target.goal atom
  generalize_some b name args at =
      asks_some rows target.rows target.fact target.goal atom (sequent_at trees s) counted is_goal
      (generalizing target.rows (goal_at target (sequent_at trees s)) b.place (tree trees b.program) (tree trees b.formula))
      (generalize b.place (tree trees b.program) (tree trees b.formula) name (args ∙ ap (λ a. a ∷ []) at.place) at.stands)

  pub cut_some : (b : Boxed) (h : Tree) → atom.name ≡ codes "boxCut" → atom.arguments ≡ GivenFormula h ∷ argument ∷ [] → IsBoxAt trees s argument b →
      AsksSome rows target.fact target.goal atom
  cut_some b h name args at =
      asks_some rows target.rows target.fact target.goal atom (sequent_at trees s) counted is_goal
      (cutting_box target.rows (goal_at target (sequent_at trees s)) b.place (tree trees b.program) (tree trees b.formula) h)
      (cut_box b.place (tree trees b.program) (tree trees b.formula) h name (args ∙ ap (λ a. GivenFormula h ∷ a ∷ []) at.place) at.stands)
