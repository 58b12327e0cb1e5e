use Rattle.std.proofs.Common.{◌-◌, subst, sym, ◌∙◌}
use Rattle.std.proofs.lemmas.List.{length-map}
use Rattle.std.proofs.lemmas.Result.{err_from_is_err_and}
use Rattle.dlk_calculus.specs.Sequents.{IsSequent}
use Rattle.dlk_sequent.specs.Sequents.{sequent_at, IsKnown}
use Rattle.dlk_tacsyn.specs.Ties.{argument_at, atom_at}
use Rattle.dlk_kernel.specs.Kernel.{facts, provable_at}
use Rattle.dlk_elab.specs.Atoms.{generalizes}
use Rattle.dlk_elab.proofs.Places.{read_as}
use Rattle.dlk_elab.proofs.Elaborates.{goal_within, goal_read}
use Rattle.dlk_elab.proofs.BoxAsks.{box_fault, generalize_asked, generalize_some}
use Rattle.dlk_elab.proofs.elaborating.generalize.Goals as goal

pub box_at-requires-clause-known : goal.box_at-requires-clause-known
box_at-requires-clause-known g c =
    let trees = g.S.Store.trees c.args.kernel.now.store in
    let read = read_as c.goals.result.now (c.args.target.goal - 1) c.value-s.result.now c.index-goals-target.result c.value-s.ensures c.index-goals-target.is in
    let within = goal_within trees (facts g.S.Store.trees c.args.kernel.now) c.args.target.fact c.args.target.goal c.goals.result.now c.requires.goal
    c.goals.ensures.goals in
    subst (IsKnown trees) (sym read) (c.goals.ensures.known (c.args.target.goal - 1) c.value-s.result.now within)

pub box_at-requires-clause-formulas : goal.box_at-requires-clause-formulas
box_at-requires-clause-formulas g c =
    let trees = g.S.Store.trees c.args.kernel.now.store in
    let read = read_as c.goals.result.now (c.args.target.goal - 1) c.value-s.result.now c.index-goals-target.result c.value-s.ensures c.index-goals-target.is in
    let within = goal_within trees (facts g.S.Store.trees c.args.kernel.now) c.args.target.fact c.args.target.goal c.goals.result.now c.requires.goal
    c.goals.ensures.goals in
    subst (λ s. IsSequent (sequent_at trees s)) (sym read) (c.goals.ensures.formulas (c.args.target.goal - 1) c.value-s.result.now within)

pub returns-in_err-boxed-clause-fault : goal.returns-in_err-boxed-clause-fault
returns-in_err-boxed-clause-fault g c =
    let trees = g.S.Store.trees c.args.kernel.now.store in
    let read = read_as c.goals.result.now (c.args.target.goal - 1) c.value-s.result.now c.index-goals-target.result c.value-s.ensures c.index-goals-target.is in
    let rows = facts g.S.Store.trees c.args.kernel.now in
    let is_goal = goal_read trees rows c.args.target.fact c.args.target.goal c.goals.result.now c.value-s.result.now c.requires.goal c.goals.ensures.goals
    read in
    let counted = c.requires.rows ∙ sym (length-map c.args.kernel.now.rows (provable_at trees)) in
    let p = err_from_is_err_and c.from_residual.result c.from_residual.ensures.1 in
    rw (p.1, p.2) (box_fault rows c.args.target (atom_at trees c.args.atom.now) trees c.value-s.result.now (argument_at trees c.args.at.now) counted is_goal
    (generalizes c.requires.call.0 c.requires.call.1) c.in_err-boxed.field-0.0 c.in_err-boxed.ensures.fault)

pub returns-clause-plan : goal.returns-clause-plan
returns-clause-plan g c =
    let trees = g.S.Store.trees c.args.kernel.now.store in
    let read = read_as c.goals.result.now (c.args.target.goal - 1) c.value-s.result.now c.index-goals-target.result c.value-s.ensures c.index-goals-target.is in
    let rows = facts g.S.Store.trees c.args.kernel.now in
    let is_goal = goal_read trees rows c.args.target.fact c.args.target.goal c.goals.result.now c.value-s.result.now c.requires.goal c.goals.ensures.goals
    read in
    let counted = c.requires.rows ∙ sym (length-map c.args.kernel.now.rows (provable_at trees)) in
    let at = c.in_ok-boxed.ensures.found in
    generalize_asked rows c.args.target (atom_at trees c.args.atom.now) trees c.value-s.result.now (argument_at trees c.args.at.now) counted is_goal
    c.in_ok-boxed.boxed c.in_ok-plan.plan.items c.requires.call.0 c.requires.call.1 at
    (c.in_ok-plan.ensures trees (sequent_at trees c.value-s.result.now) at.program_known at.formula_known)

pub returns-in_err-plan-clause-memory : goal.returns-in_err-plan-clause-memory
returns-in_err-plan-clause-memory g c = λ is.
    let trees = g.S.Store.trees c.args.kernel.now.store in
    let read = read_as c.goals.result.now (c.args.target.goal - 1) c.value-s.result.now c.index-goals-target.result c.value-s.ensures c.index-goals-target.is in
    let rows = facts g.S.Store.trees c.args.kernel.now in
    let is_goal = goal_read trees rows c.args.target.fact c.args.target.goal c.goals.result.now c.value-s.result.now c.requires.goal c.goals.ensures.goals
    read in
    let counted = c.requires.rows ∙ sym (length-map c.args.kernel.now.rows (provable_at trees)) in
    generalize_some rows c.args.target (atom_at trees c.args.atom.now) trees c.value-s.result.now (argument_at trees c.args.at.now) counted is_goal
    c.in_ok-boxed.boxed c.requires.call.0 c.requires.call.1 c.in_ok-boxed.ensures.found
