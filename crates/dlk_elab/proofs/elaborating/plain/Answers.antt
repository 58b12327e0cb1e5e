use Rattle.std.proofs.Common.{◌-◌, subst, sym, ◌∙◌}
use Rattle.std.proofs.lemmas.List.{length-map}
use Rattle.std.proofs.lemmas.Result.{IfOk-weaker, IfErr-weaker}
use Rattle.dlk_sequent.specs.Sequents.{sequent_at, IsKnown}
use Rattle.dlk_tacsyn.specs.Ties.{atom_at}
use Rattle.dlk_kernel.specs.Kernel.{facts, provable_at}
use Rattle.dlk_elab.proofs.Places.{read_as}
use Rattle.dlk_elab.proofs.Elaborates.{goal_within, goal_read, few_formulas, plan_fault, asks_some, are_asked}
use Rattle.dlk_elab.proofs.elaborating.plain.Goals as goal

pub plan-requires-clause-sequent : goal.plan-requires-clause-sequent
plan-requires-clause-sequent g c =
    let trees = g.S.Store.trees c.args.kernel.now.store in
    let read = read_as c.goals.result.now (c.args.target.goal - 1) c.value-s.result.now c.index-goals-target.result c.value-s.ensures c.index-goals-target.is in
    let within = goal_within trees (facts g.S.Store.trees c.args.kernel.now) c.args.target.fact c.args.target.goal c.goals.result.now c.requires.goal
    c.goals.ensures.goals in
    subst (IsKnown trees) (sym read) (c.goals.ensures.known (c.args.target.goal - 1) c.value-s.result.now within)

pub plan-requires-clause-few : goal.plan-requires-clause-few
plan-requires-clause-few g c =
    let trees = g.S.Store.trees c.args.kernel.now.store in
    let read = read_as c.goals.result.now (c.args.target.goal - 1) c.value-s.result.now c.index-goals-target.result c.value-s.ensures c.index-goals-target.is in
    let rows = facts g.S.Store.trees c.args.kernel.now in
    let is_goal = goal_read trees rows c.args.target.fact c.args.target.goal c.goals.result.now c.value-s.result.now c.requires.goal c.goals.ensures.goals
    read in
    few_formulas rows c.args.target.fact c.args.target.goal (sequent_at trees c.value-s.result.now) c.rows.ensures.limited is_goal

pub returns-clause-plan : goal.returns-clause-plan
returns-clause-plan g c =
    let trees = g.S.Store.trees c.args.kernel.now.store in
    let read = read_as c.goals.result.now (c.args.target.goal - 1) c.value-s.result.now c.index-goals-target.result c.value-s.ensures c.index-goals-target.is in
    let rows = facts g.S.Store.trees c.args.kernel.now in
    let is_goal = goal_read trees rows c.args.target.fact c.args.target.goal c.goals.result.now c.value-s.result.now c.requires.goal c.goals.ensures.goals
    read in
    let counted = c.requires.rows ∙ sym (length-map c.args.kernel.now.rows (provable_at trees)) in
    IfOk-weaker c.plan.result _ _
    (λ steps h. are_asked rows c.args.target.rows c.args.target.fact c.args.target.goal (atom_at trees c.args.atom.now) (sequent_at trees
    c.value-s.result.now) counted is_goal trees steps.items h.asks h.known) c.plan.ensures.plan

pub returns-clause-fault : goal.returns-clause-fault
returns-clause-fault g c =
    let trees = g.S.Store.trees c.args.kernel.now.store in
    let read = read_as c.goals.result.now (c.args.target.goal - 1) c.value-s.result.now c.index-goals-target.result c.value-s.ensures c.index-goals-target.is in
    let rows = facts g.S.Store.trees c.args.kernel.now in
    let is_goal = goal_read trees rows c.args.target.fact c.args.target.goal c.goals.result.now c.value-s.result.now c.requires.goal c.goals.ensures.goals
    read in
    let counted = c.requires.rows ∙ sym (length-map c.args.kernel.now.rows (provable_at trees)) in
    IfErr-weaker c.plan.result _ _
    (λ e h. plan_fault rows c.args.target.rows c.args.target.fact c.args.target.goal (atom_at trees c.args.atom.now) (sequent_at trees
    c.value-s.result.now) counted is_goal e h) c.plan.ensures.fault

pub returns-clause-memory : goal.returns-clause-memory
returns-clause-memory g c = λ is.
    let trees = g.S.Store.trees c.args.kernel.now.store in
    let read = read_as c.goals.result.now (c.args.target.goal - 1) c.value-s.result.now c.index-goals-target.result c.value-s.ensures c.index-goals-target.is in
    let rows = facts g.S.Store.trees c.args.kernel.now in
    let is_goal = goal_read trees rows c.args.target.fact c.args.target.goal c.goals.result.now c.value-s.result.now c.requires.goal c.goals.ensures.goals
    read in
    let counted = c.requires.rows ∙ sym (length-map c.args.kernel.now.rows (provable_at trees)) in
    let some = c.plan.ensures.memory is in
    asks_some rows c.args.target.rows c.args.target.fact c.args.target.goal (atom_at trees c.args.atom.now) (sequent_at trees c.value-s.result.now) counted
    is_goal some.0 some.1
