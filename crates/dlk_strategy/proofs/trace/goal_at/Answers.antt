use Rattle.std.proofs.Common.{◌≡◌, ℕ, ◌-◌, ◌≤◌, ◌<◌, List, map, length, get_or, sym, ap, subst, ◌∙◌, arith}
use Rattle.std.specs.List.{All}
use Rattle.std.proofs.lemmas.List.{length-map}
use Rattle.dlk_tree.specs.Trees.{Tree}
use Rattle.dlk_calculus.specs.Places.{At, IsPlace}
use Rattle.dlk_calculus.specs.Sequents.{Sequent as TreeSequent}
use Rattle.dlk_calculus.specs.Provables.{Provable}
use Rattle.dlk_calculus.proofs.PlaceLaws.{At-map, At_read}
use Rattle.dlk_sequent.specs.declared.sequent.Sequent.{Sequent}
use Rattle.dlk_sequent.specs.Sequents.{sequent_at, IsKnown}
use Rattle.dlk_kernel.specs.Kernel.{provable_at, facts}
use Rattle.dlk_elab.proofs.Places.{read_as}
use Rattle.dlk_strategy.specs.Runs.{main_goals}
use Rattle.dlk_strategy.proofs.MainGoals.{shown_goals, few_formulas}
use Rattle.dlk_strategy.proofs.States.{main_some}
use Rattle.dlk_strategy.proofs.trace.goal_at.Goals as goal

-- the goals that are shown are those of the last row
all_shown : (trees : List Tree) (rows : List Provable) (shown : List Sequent) (fact place : ℕ) → fact ≡ length rows → IsPlace (main_goals rows) place →
    ((p : Provable) → At rows fact p → p.goals ≡ map (sequent_at trees) shown) → main_goals rows ≡ map (sequent_at trees) shown
all_shown trees rows shown fact place is there shows =
    shown_goals rows shown (sequent_at trees) fact is (main_some rows (omega (arith, there.0, there.1))) shows

within : (trees : List Tree) (goals : List TreeSequent) (shown : List Sequent) (place : ℕ) → goals ≡ map (sequent_at trees) shown → IsPlace goals place →
    place - 1 < length shown
within trees goals shown place same there = omega (arith, there.0, there.1, ap length same, length-map shown (sequent_at trees))

-- the goal is the shown one at its place
shown_at : (trees : List Tree) (goals : List TreeSequent) (shown : List Sequent) (place : ℕ) (item : Sequent) → goals ≡ map (sequent_at trees) shown →
    IsPlace goals place → item ≡ get_or shown (place - 1) item → At goals place (sequent_at trees item)
shown_at trees goals shown place item same there is =
    let few : place ≤ length shown = omega (arith, there.0, there.1, ap length same, length-map shown (sequent_at trees)) in
    rw same (At-map (sequent_at trees) shown place item (At_read shown place item (there.0, few) is))

-- and is known where all are
shown_known : (trees : List Tree) (shown : List Sequent) (place : ℕ) (item : Sequent) → All (IsKnown trees) shown → place < length shown →
    item ≡ get_or shown place item → IsKnown trees item
shown_known trees shown place item all less is = subst (IsKnown trees) (sym is) (all place item less)

pub bounds-goals-goal : goal.bounds-goals-goal
bounds-goals-goal g c =
    let trees = g.S.Store.trees c.args.kernel.now.store in
    let rows = facts g.S.Store.trees c.args.kernel.now in
    let is = c.rows.ensures.count ∙ sym (length-map c.args.kernel.now.rows (provable_at trees)) in
    within trees (main_goals rows) c.goals.result.now c.args.goal
    (all_shown trees rows c.goals.result.now c.rows.result c.args.goal is c.requires c.goals.ensures.goals) c.requires

pub returns : goal.returns
returns g c =
    let trees = g.S.Store.trees c.args.kernel.now.store in
    let rows = facts g.S.Store.trees c.args.kernel.now in
    let goals = c.goals.result.now in
    let item = c.value.result.now in
    let is = c.rows.ensures.count ∙ sym (length-map c.args.kernel.now.rows (provable_at trees)) in
    let same = all_shown trees rows goals c.rows.result c.args.goal is c.requires c.goals.ensures.goals in
    let read = read_as goals (c.args.goal - 1) item c.index-goals-goal.result c.value.ensures c.index-goals-goal.is in
    let stands = shown_at trees (main_goals rows) goals c.args.goal item same c.requires read in
    record {
      goal = stands;
      known = shown_known trees goals (c.args.goal - 1) item c.goals.ensures.known (within trees (main_goals rows) goals c.args.goal same c.requires) read;
      few = few_formulas rows c.rows.ensures.limited c.args.goal (sequent_at trees item) stands;
    }
