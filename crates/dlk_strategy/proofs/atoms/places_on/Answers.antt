use Rattle.std.proofs.Common.{◌≡◌, ◌≤◌, List, map, length, sym, ap, ◌∙◌, arith}
use Rattle.std.proofs.lemmas.List.{length-map}
use Rattle.dlk_tree.specs.Trees.{Tree}
use Rattle.dlk_store.specs.declared.Id.{Id}
use Rattle.dlk_store.specs.Stores.{tree}
use Rattle.dlk_calculus.specs.Limits.{most_formulas}
use Rattle.dlk_calculus.specs.Sequents.{Sequent as TreeSequent}
use Rattle.dlk_calculus.proofs.PlaceLaws.{at_one}
use Rattle.dlk_sequent.specs.Sequents.{sequent_at}
use Rattle.dlk_kernel.specs.Kernel.{facts}
use Rattle.dlk_strategy.specs.Runs.{main_goals, formulas}
use Rattle.dlk_strategy.proofs.atoms.places_on.Goals as goal

ids_few : (trees : List Tree) (ids all : List Id) → ids ≡ all → length (map (tree trees) all) ≤ most_formulas → length ids ≤ 256
ids_few trees ids all e few = omega (arith, few, ap length e, length-map all (tree trees))

counted : (trees : List Tree) (ids all : List Id) (made : List Tree) → ids ≡ all → map (tree trees) all ≡ made → length ids ≡ length made
counted trees ids all made e f = ap length e ∙ sym (length-map all (tree trees)) ∙ ap length f

pub overflow_cast-result : goal.overflow_cast-result
overflow_cast-result g c =
    let trees = g.S.Store.trees c.args.kernel.now.store in
    omega (arith, ids_few trees c.as_slice.result.now c.goal_at-goal.result.now.ante c.as_slice.ensures c.goal_at-goal.ensures.few.ante)

pub overflow_cast-result-in-Right : goal.overflow_cast-result-in-Right
overflow_cast-result-in-Right g c =
    let trees = g.S.Store.trees c.args.kernel.now.store in
    omega (arith, ids_few trees c.as_slice-in-Right.result.now c.goal_at-goal.result.now.succ c.as_slice-in-Right.ensures c.goal_at-goal.ensures.few.succ)

pub returns-in-Left : goal.returns-in-Left
returns-in-Left g c = λ s stands.
    let trees = g.S.Store.trees c.args.kernel.now.store in
    let goals = main_goals (facts g.S.Store.trees c.args.kernel.now) in
    let one = at_one goals c.args.goal (sequent_at trees c.goal_at-goal.result.now) s c.goal_at-goal.ensures.goal stands in
    let ante = ap (λ (t : TreeSequent). t.ante) one in
    counted trees c.as_slice.result.now c.goal_at-goal.result.now.ante s.ante c.as_slice.ensures ante ∙ ap (λ side. length (formulas side s)) (sym c.in-Left.is)

pub returns-in-Right : goal.returns-in-Right
returns-in-Right g c = λ s stands.
    let trees = g.S.Store.trees c.args.kernel.now.store in
    let goals = main_goals (facts g.S.Store.trees c.args.kernel.now) in
    let one = at_one goals c.args.goal (sequent_at trees c.goal_at-goal.result.now) s c.goal_at-goal.ensures.goal stands in
    let succ = ap (λ (t : TreeSequent). t.succ) one in
    counted trees c.as_slice-in-Right.result.now c.goal_at-goal.result.now.succ s.succ c.as_slice-in-Right.ensures succ
    ∙ ap (λ side. length (formulas side s)) (sym c.in-Right.is)
