use Rattle.std.proofs.Common.{◌-◌, subst, sym, arith}
use Rattle.std.proofs.lemmas.Result.{err_from_is_err_and}
use Rattle.dlk_calculus.specs.Sequents.{IsSequent}
use Rattle.dlk_sequent.specs.Sequents.{sequent_at, IsKnown}
use Rattle.dlk_kernel.specs.Kernel.{facts}
use Rattle.dlk_elab.proofs.Places.{read_as}
use Rattle.dlk_elab.proofs.Elaborates.{goal_within, goal_read, few_formulas}
use Rattle.dlk_elab.proofs.Reaching.{not_there, few_right, reached}
use Rattle.dlk_elab.proofs.ways.reach.Goals as goal

pub way_at-requires : goal.way_at-requires
way_at-requires g c =
    let trees = g.S.Store.trees c.args.kernel.now.store in
    let read = read_as c.goals.result.now (c.args.target.goal - 1) c.value-s.result.now c.index-goals-target.result c.value-s.ensures c.index-goals-target.is in
    let within = goal_within trees (facts g.S.Store.trees c.args.kernel.now) c.args.target.fact c.args.target.goal c.goals.result.now c.requires
    c.goals.ensures.goals in
    subst (IsKnown trees) (sym read) (c.goals.ensures.known (c.args.target.goal - 1) c.value-s.result.now within)

pub returns-in_err-way-clause-fault : goal.returns-in_err-way-clause-fault
returns-in_err-way-clause-fault g c =
    let trees = g.S.Store.trees c.args.kernel.now.store in
    let read = read_as c.goals.result.now (c.args.target.goal - 1) c.value-s.result.now c.index-goals-target.result c.value-s.ensures c.index-goals-target.is in
    let rows = facts g.S.Store.trees c.args.kernel.now in
    let is_goal = goal_read trees rows c.args.target.fact c.args.target.goal c.goals.result.now c.value-s.result.now c.requires c.goals.ensures.goals
    read in
    let p = err_from_is_err_and c.from_residual.result c.from_residual.ensures.1 in
    rw (p.1, p.2) (not_there rows c.args.target trees c.value-s.result.now c.args.place c.args.path.now is_goal c.in_err-way.field-0.0
    c.in_err-way.ensures.fault)

pub overflow_cast-right : goal.overflow_cast-right
overflow_cast-right g c =
    let trees = g.S.Store.trees c.args.kernel.now.store in
    let read = read_as c.goals.result.now (c.args.target.goal - 1) c.value-s.result.now c.index-goals-target.result c.value-s.ensures c.index-goals-target.is in
    let rows = facts g.S.Store.trees c.args.kernel.now in
    let is_goal = goal_read trees rows c.args.target.fact c.args.target.goal c.goals.result.now c.value-s.result.now c.requires c.goals.ensures.goals
    read in
    let few = few_right rows c.args.target trees c.value-s.result.now c.args.place c.args.path.now is_goal
    (few_formulas rows c.args.target.fact c.args.target.goal (sequent_at trees c.value-s.result.now) c.rows.ensures.limited is_goal) in
    rw c.as_slice.ensures (omega (arith, few))

pub returns-clause-found : goal.returns-clause-found
returns-clause-found g c =
    let trees = g.S.Store.trees c.args.kernel.now.store in
    let read = read_as c.goals.result.now (c.args.target.goal - 1) c.value-s.result.now c.index-goals-target.result c.value-s.ensures c.index-goals-target.is in
    let rows = facts g.S.Store.trees c.args.kernel.now in
    let is_goal = goal_read trees rows c.args.target.fact c.args.target.goal c.goals.result.now c.value-s.result.now c.requires c.goals.ensures.goals
    read in
    let within = goal_within trees rows c.args.target.fact c.args.target.goal c.goals.result.now c.requires c.goals.ensures.goals in
    let formulas = subst (λ s. IsSequent (sequent_at trees s)) (sym read) (c.goals.ensures.formulas (c.args.target.goal - 1)
    c.value-s.result.now within) in
    let few = few_formulas rows c.args.target.fact c.args.target.goal (sequent_at trees c.value-s.result.now) c.rows.ensures.limited is_goal in
    rw c.as_slice.ensures (reached rows c.args.target trees c.value-s.result.now c.args.place c.args.path.now is_goal c.in_ok-way.way formulas few
    c.in_ok-way.ensures.found)
