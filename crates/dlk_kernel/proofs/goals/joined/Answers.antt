use Rattle.std.proofs.Common.{◌≡◌, ◌+◌, ◌++◌, ◌∙◌, List, length, length-append, ap, arith}
use Rattle.dlk_kernel.proofs.GoalLists.{none_at_all, one_alone, two_alone}
use Rattle.dlk_kernel.proofs.goals.joined.Goals as goal

total : {A : Type 0} (a b c : List A) → length (a ++ b ++ c) ≡ length a + length b + length c
total a b c = length-append (a ++ b) c ∙ ap (λ n. n + length c) (length-append a b)

pub returns-then-count-eq0 : goal.returns-then-count-eq0
returns-then-count-eq0 c =
    let all = total c.args.before.now c.args.new.now c.args.after.now in
    c.new.ensures ∙ none_at_all (c.args.before.now ++ c.args.new.now ++ c.args.after.now) (all ∙ c.if-count-eq0.true)

pub returns-then-count-eq1 : goal.returns-then-count-eq1
returns-then-count-eq1 c =
    let all = total c.args.before.now c.args.new.now c.args.after.now in
    c.one.ensures
    ∙ one_alone (c.args.before.now ++ c.args.new.now ++ c.args.after.now) c.in_ok-first.first (all ∙ c.if-count-eq1.true)
    (rw c.in_ok-first.ensures c.goal_of.ensures)

pub returns : goal.returns
returns c =
    let all = total c.args.before.now c.args.new.now c.args.after.now in
    two_alone (c.args.before.now ++ c.args.new.now ++ c.args.after.now) c.in_ok-first.first c.in_ok-second.second (omega (arith, all))
    (rw c.in_ok-first.ensures c.goal_of.ensures) (rw c.in_ok-second.ensures c.goal_of-2.ensures)
