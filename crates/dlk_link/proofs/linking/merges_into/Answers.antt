use Rattle.std.proofs.Common.{◌≡◌, ◌+◌, ◌-◌, ◌<◌, ◌≤◌, ◌++◌, ◌∷◌, [], true≢false, length, map, get_or, ap, arith, subst, sym, ◌∙◌}
use Rattle.std.specs.Global.{Vec}
use Rattle.std.specs.List.{All}
use Rattle.std.proofs.lemmas.List.{length-map, get_or-map}
use Rattle.std.proofs.lemmas.List.Elements.{All-push}
use Rattle.dlk_rules.specs.declared.step.Step.{Step}
use Rattle.dlk_rules.specs.declared.step.Step.TheVariants as step
use Rattle.dlk_rules.specs.Steps.{HasKnownIds}
use Rattle.dlk_sequent.specs.Sequents.{sequent_at, IsKnown}
use Rattle.dlk_link.proofs.LinkedSteps.{MergesSoFar, merges_same, merges_other, merges_done, so_far_as}
use Rattle.dlk_link.proofs.linking.merges_into.Goals.{then-same_sequent+in_ok-push, else-same_sequent}
use Rattle.dlk_link.proofs.linking.merges_into.Goals as goal

pub same_sequent-requires-clause-first : goal.same_sequent-requires-clause-first
same_sequent-requires-clause-first g c =
    let trees = g.S.Store.trees c.args.store.now in
    let some = c.loop-goal-test.true in
    let within = c.loop-goal.invariant.within in
    let known : IsKnown trees c.index-goals-goal.result =
    subst (IsKnown trees) (sym c.index-goals-goal.is) (c.requires.goals (c.loop-goal.goal - 1) c.index-goals-goal.result (omega (arith, some, within))) in
    subst (IsKnown trees) (sym c.value.ensures) known

pub loop-goal-preserved : goal.loop-goal-preserved
loop-goal-preserved g c =
    let trees = g.S.Store.trees c.args.store.now in
    let goals = map (sequent_at trees) c.args.goals.now in
    let s = sequent_at trees c.args.c.now in
    let inv = c.loop-goal.invariant in
    let some = c.loop-goal-test.true in
    let within = inv.within in
    let few = inv.few in
    let lt : c.loop-goal.goal - 1 < length c.args.goals.now = omega (arith, some, within) in
    let reach : c.loop-goal.goal ≤ length goals = omega (arith, within, length-map c.args.goals.now (sequent_at trees)) in
    let here : get_or goals (c.loop-goal.goal - 1) s ≡ sequent_at trees c.value.result.now =
    get_or-map (sequent_at trees) c.args.goals.now (c.loop-goal.goal - 1) c.index-goals-goal.result s lt
    ∙ ap (sequent_at trees) (sym c.index-goals-goal.is ∙ sym c.value.ensures) in
    elim c.if-same_sequent.branch [
      | then-same_sequent+in_ok-push w ↦
          let rows = w.rows-is in
          record {
            within = omega (arith, within);
            few = omega (arith, some, few, rows);
            so_far = so_far_as s c.args.by c.args.main goals trees (c.loop-goal.goal - 1) c.if-same_sequent.fact c.if-same_sequent.rows (c.loop-goal.rows + 1)
                (c.loop-goal.rows + 1) c.if-same_sequent.merges.items (c.loop-goal.merges.items ++ step.Merge c.loop-goal.fact c.loop-goal.goal c.args.by ∷ [])
                w.fact-is
                w.rows-is (ap (λ (v : Vec Step). v.items) w.merges-is ∙ w.in_ok-push.ensures.items)
                (merges_same s c.args.by c.args.main goals trees c.loop-goal.goal c.loop-goal.fact c.loop-goal.rows c.loop-goal.merges.items some reach
                (here ∙ c.same_sequent.ensures.0 w.if-same_sequent.true) inv.so_far);
            known = λ others. subst (All (HasKnownIds others)) (sym (ap (λ (v : Vec Step). v.items) w.merges-is ∙ w.in_ok-push.ensures.items))
                (All-push (HasKnownIds others) c.loop-goal.merges.items (step.Merge c.loop-goal.fact c.loop-goal.goal c.args.by) (inv.known others) tt);
          }
      | else-same_sequent w ↦
          let rows = w.rows-is in
          record {
            within = omega (arith, within);
            few = omega (arith, some, few, rows);
            so_far = so_far_as s c.args.by c.args.main goals trees (c.loop-goal.goal - 1) c.if-same_sequent.fact c.if-same_sequent.rows c.loop-goal.fact
                c.loop-goal.rows c.if-same_sequent.merges.items c.loop-goal.merges.items w.fact-is w.rows-is (ap (λ (v : Vec Step). v.items) w.merges-is)
                (merges_other s c.args.by c.args.main goals trees c.loop-goal.goal c.loop-goal.fact c.loop-goal.rows c.loop-goal.merges.items some reach
                (λ e. true≢false (sym (c.same_sequent.ensures.1 (sym here ∙ e)) ∙ w.if-same_sequent.false)) inv.so_far);
            known = λ others. subst (All (HasKnownIds others)) (sym (ap (λ (v : Vec Step). v.items) w.merges-is)) (inv.known others);
          }
    ]

pub returns-clause-joins : goal.returns-clause-joins
returns-clause-joins g c =
    let trees = g.S.Store.trees c.args.store.now in
    let none : c.loop-goal.goal ≡ 0 = omega arith in
    merges_done (sequent_at trees c.args.c.now) c.args.by c.args.main (map (sequent_at trees) c.args.goals.now) trees c.loop-goal.fact c.loop-goal.rows
    c.loop-goal.merges.items
    (subst (λ n. MergesSoFar (sequent_at trees c.args.c.now) c.args.by c.args.main (map (sequent_at trees) c.args.goals.now) trees n c.loop-goal.fact
    c.loop-goal.rows
    c.loop-goal.merges.items) none c.loop-goal.invariant.so_far)
