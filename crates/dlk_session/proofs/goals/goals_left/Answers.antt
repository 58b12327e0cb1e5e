use Rattle.std.proofs.Common.{◌≤◌, length, map, sym, ◌∙◌, arith}
use Rattle.std.proofs.lemmas.List.{length-map}
use Rattle.dlk_calculus.specs.Limits.{most_goals}
use Rattle.dlk_sequent.specs.Sequents.{sequent_at}
use Rattle.dlk_kernel.specs.Kernel.{provable_at}
use Rattle.dlk_session.proofs.MainGoals.{shown_count, few_shown}
use Rattle.dlk_session.proofs.goals.goals_left.Goals as goal

pub returns-clause-goals : goal.returns-clause-goals
returns-clause-goals g c =
    let trees = g.S.Store.trees c.args.kernel.now.store in
    shown_count (map (provable_at trees) c.args.kernel.now.rows) c.goals.result.now (sequent_at trees) c.rows.result
    (c.rows.ensures.count ∙ sym (length-map c.args.kernel.now.rows (provable_at trees)))
    (rw (length-map c.args.kernel.now.rows (provable_at trees)) c.requires) c.goals.ensures.goals

pub returns-clause-few : goal.returns-clause-few
returns-clause-few g c =
    few_shown (map (provable_at (g.S.Store.trees c.args.kernel.now.store)) c.args.kernel.now.rows) (length c.goals.result.now) (returns-clause-goals g c)
    c.rows.ensures.limited

pub overflow_cast-result : goal.overflow_cast-result
overflow_cast-result g c = let most : length c.goals.result.now ≤ most_goals = returns-clause-few g c in omega (arith, most)
