use Rattle.std.proofs.Common.{◌+◌, ◌≤◌, refl, sym, ap, subst, ◌∙◌, get_or, arith, rules}
use Rattle.std.specs.Prelude.{All, IsTrue}
use Rattle.dlk_tree.specs.declared.op.Op.{Op}
use Rattle.dlk_tree.specs.Trees.{Tree, node, root, size}
use Rattle.dlk_store.specs.declared.Id.{Id}
use Rattle.dlk_store.specs.Stores.{IsId, kid_trees, tree}
use Rattle.dlk_store.specs.Kids.{Keeps-trans}
use Rattle.dlk_store.proofs.Made.{Made-none, same_kids, next_known, next_same, next_smaller, next_made, made_fit, next_without, node_made, node_without}
use Rattle.dlk_sequent.specs.declared.fault.ApplyFault.TheVariants.{NotAdmissible}
use Rattle.dlk_subst.specs.Growth.{known_kept}
use Rattle.dlk_subst.proofs.Results.{handed_on, holds_tree, result_weaker}
use Rattle.dlk_memo.specs.Tables.{IsRight, Spends}
use Rattle.dlk_memo.proofs.Tables.{right_begun, right_kept, right_concluded, opens_itself, opens_then, opens_concluded, kid_above, spends_none, spends_kept}
use Rattle.dlk_memo.proofs.Tables.{spends_opened, spends_failed, spends_finished, kid_spent, kid_failed}
use Rattle.dlk_memo.proofs.walk.+walk.Goals as goal

pub returns-then-not-may_change-clause-spends : goal.returns-then-not-may_change-clause-spends
returns-then-not-may_change-clause-spends g t c =
    let first = g.S.Store.trees c.args.store.now in
    spends_none g.S.Store.unique (1 + g.R.Rule.looks (g.R.Rule.job c.args.rule.now first)) (tree first c.args.id) first c.args.done.now c.args.steps.now
    c.requires.once

pub returns-in_err-task-clause-spends : goal.returns-in_err-task-clause-spends
returns-in_err-task-clause-spends g t c =
    let first = g.S.Store.trees c.args.store.now in
    spends_failed g.S.Store.unique (g.R.Rule.looks (g.R.Rule.job c.args.rule.now first)) (tree first c.args.id) first c.args.done.now c.open.new.done
    c.args.id c.args.steps.now c.open.new.steps c.requires.known refl c.in_err-task.ensures.once c.in_err-task.ensures.err

pub returns-in_err-task-clause-none : goal.returns-in_err-task-clause-none
returns-in_err-task-clause-none g t c e =
    c.open.ensures.none
    (handed_on c.open.result c.from_residual.result c.in_err-task.field-0.0 NotAdmissible c.in_err-task.was c.from_residual.ensures.1 e)

pub loop-kid-init : goal.loop-kid-init
loop-kid-init g t c =
    let first = g.S.Store.trees c.args.store.now in
    let job = g.R.Rule.job c.args.rule.now first in
    let at = c.as_slice-kids.ensures in
    let op = root (tree first c.args.id) in
    let seen = c.in_ok-task.ensures in
    record {
      grows = g.met.S.Store.grows_refl c.args.store.now;
      made =
          rw c.new-new.ensures
          (Made-none (g.R.Rule.Makes job) first c.args.id op c.as_slice-kids.result.now
          (seen.tree ∙ ap (λ l. node op (kid_trees first l)) (sym at)) (subst (All (IsId first)) (sym at) seen.kids));
      right =
          right_begun (g.R.Rule.Makes job) first c.args.done.now c.open.new.done c.args.id seen.opened.put c.requires.known c.requires.right;
      opens = opens_itself c.open.new.done;
      spends =
          spends_none g.S.Store.unique (1 + g.R.Rule.looks job) (tree first c.args.id) first c.open.new.done c.open.new.steps seen.once;
    }

pub walk-requires : goal.walk-requires
walk-requires g t c κs within =
    let first = g.S.Store.trees c.args.store.now in
    let ts = g.S.Store.trees c.loop-kid.store in
    let m = c.loop-kid.invariant.made in
    let d : Id = record { 0 = 0 } in
    let less = next_smaller m d c.loop-kid-test.true in
    let job = g.met.R.Rule.job_kept c.args.rule.now first ts m.kept c.requires.ready in
    let ready = g.met.R.Rule.ready_kept c.args.rule.now first ts m.kept c.requires.ready in
    let right = subst (λ j. IsRight (g.R.Rule.Makes j) ts c.loop-kid.done) (sym job) c.loop-kid.invariant.right in
    let above =
    kid_above first ts c.args.done.now c.open.new.done c.loop-kid.done c.args.id c.in_ok-task.ensures.opened.put c.loop-kid.invariant.opens m.kept
    c.requires.known c.requires.right.known (size (tree ts (get_or c.as_slice-kids.result.now c.loop-kid.kid-index d))) less c.requires.above in
    let once = c.loop-kid.invariant.spends.once in
    let there = next_known m d c.loop-kid-test.true in
    (omega (arith, less), (search rules, (search rules, (search rules, (search rules, (ready, (there, (right, (above, once)))))))))

pub returns-in_err-made-clause-none : goal.returns-in_err-made-clause-none
returns-in_err-made-clause-none g t c e =
    let first = g.S.Store.trees c.args.store.now in
    let ts = g.S.Store.trees c.loop-kid.store in
    let m = c.loop-kid.invariant.made in
    let d : Id = record { 0 = 0 } in
    let job = g.met.R.Rule.job_kept c.args.rule.now first ts m.kept c.requires.ready in
    let failed = handed_on c.walk.result c.from_residual-in_err-made.result c.in_err-made.field-0.0 NotAdmissible c.in_err-made.was
    c.from_residual-in_err-made.ensures.1 e in
    next_without g.met.R.Rule.rows m job d c.loop-kid-test.true (c.walk.ensures.none failed)

pub returns-in_err-made-clause-grows : goal.returns-in_err-made-clause-grows
returns-in_err-made-clause-grows g t c =
    g.met.S.Store.grows_trans c.args.store.now c.loop-kid.store c.walk.new.store c.loop-kid.invariant.grows c.walk.ensures.grows

pub returns-in_err-made-clause-spends : goal.returns-in_err-made-clause-spends
returns-in_err-made-clause-spends g t c =
    let first = g.S.Store.trees c.args.store.now in
    let ts = g.S.Store.trees c.loop-kid.store in
    let us = g.S.Store.trees c.walk.new.store in
    let m = c.loop-kid.invariant.made in
    let job = g.met.R.Rule.job_kept c.args.rule.now first ts m.kept c.requires.ready in
    let keeps = g.met.S.Store.grows_keeps c.loop-kid.store c.walk.new.store c.walk.ensures.grows in
    kid_failed m g.S.Store.unique (g.R.Rule.looks (g.R.Rule.job c.args.rule.now first)) us keeps c.requires.known c.loop-kid-test.true
    c.in_ok-task.ensures.opened
    c.loop-kid.invariant.spends (subst (λ j. Spends g.S.Store.unique (1 + g.R.Rule.looks j)
    (tree ts (get_or c.as_slice-kids.result.now c.loop-kid.kid-index (record { 0 = 0 }))) us c.loop-kid.done c.walk.new.done c.loop-kid.steps c.walk.new.steps)
    job c.walk.ensures.spends)

pub returns-in_err-new-clause-grows : goal.returns-in_err-new-clause-grows
returns-in_err-new-clause-grows g t c =
    g.met.S.Store.grows_trans c.args.store.now c.loop-kid.store c.walk.new.store c.loop-kid.invariant.grows c.walk.ensures.grows

pub returns-in_err-new-clause-spends : goal.returns-in_err-new-clause-spends
returns-in_err-new-clause-spends g t c =
    let first = g.S.Store.trees c.args.store.now in
    let ts = g.S.Store.trees c.loop-kid.store in
    let us = g.S.Store.trees c.walk.new.store in
    let m = c.loop-kid.invariant.made in
    let job = g.met.R.Rule.job_kept c.args.rule.now first ts m.kept c.requires.ready in
    let keeps = g.met.S.Store.grows_keeps c.loop-kid.store c.walk.new.store c.walk.ensures.grows in
    kid_failed m g.S.Store.unique (g.R.Rule.looks (g.R.Rule.job c.args.rule.now first)) us keeps c.requires.known c.loop-kid-test.true
    c.in_ok-task.ensures.opened
    c.loop-kid.invariant.spends (subst (λ j. Spends g.S.Store.unique (1 + g.R.Rule.looks j)
    (tree ts (get_or c.as_slice-kids.result.now c.loop-kid.kid-index (record { 0 = 0 }))) us c.loop-kid.done c.walk.new.done c.loop-kid.steps c.walk.new.steps)
    job c.walk.ensures.spends)

pub loop-kid-preserved : goal.loop-kid-preserved
loop-kid-preserved g t c =
    let first = g.S.Store.trees c.args.store.now in
    let ts = g.S.Store.trees c.loop-kid.store in
    let us = g.S.Store.trees c.walk.new.store in
    let inv = c.loop-kid.invariant in
    let m = inv.made in
    let d : Id = record { 0 = 0 } in
    let grows = c.in_ok-made.ensures.grows in
    let keeps = g.met.S.Store.grows_keeps c.loop-kid.store c.walk.new.store grows in
    let job = g.met.R.Rule.job_kept c.args.rule.now first ts m.kept c.requires.ready in
    let same = next_same m d c.loop-kid-test.true in
    let made = c.in_ok-made.ensures.ok in
    record {
      grows = g.met.S.Store.grows_trans c.args.store.now c.loop-kid.store c.walk.new.store inv.grows grows;
      made = rw c.in_ok-new.ensures
          (next_made m d c.loop-kid-test.true c.in_ok-made.made keeps (λ j. g.R.Rule.Makes (job j) (same j)) made.stands.known (holds_tree made));
      right = subst (λ j. IsRight (g.R.Rule.Makes j) us c.walk.new.done) job c.in_ok-made.ensures.right;
      opens = opens_then inv.opens c.in_ok-made.ensures.opens;
      spends = kid_spent m g.S.Store.unique (g.R.Rule.looks (g.R.Rule.job c.args.rule.now first)) us keeps c.loop-kid-test.true
          inv.spends (subst (λ j. Spends g.S.Store.unique (1 + g.R.Rule.looks j)
          (tree ts (get_or c.as_slice-kids.result.now c.loop-kid.kid-index d)) us c.loop-kid.done c.walk.new.done c.loop-kid.steps c.walk.new.steps)
          job c.in_ok-made.ensures.spends);
    }

pub conclude-requires-clause-ready : goal.conclude-requires-clause-ready
conclude-requires-clause-ready g t c =
    g.met.R.Rule.ready_kept c.args.rule.now (g.S.Store.trees c.args.store.now) (g.S.Store.trees c.loop-kid.store) c.loop-kid.invariant.made.kept
    c.requires.ready

pub conclude-requires-clause-known : goal.conclude-requires-clause-known
conclude-requires-clause-known g t c = let kept = c.loop-kid.invariant.made.kept in omega (arith, kept.known, c.requires.known)

pub conclude-requires-clause-task : goal.conclude-requires-clause-task
conclude-requires-clause-task g t c =
    let same = c.loop-kid.invariant.made.kept.same c.args.id c.requires.known in
    subst (λ (o : Op). g.R.Rule.IsTask c.args.rule.now o c.in_ok-task.task) (sym (ap root same)) c.in_ok-task.ensures.task

pub conclude-requires-clause-old : goal.conclude-requires-clause-old
conclude-requires-clause-old g t c =
    let m = c.loop-kid.invariant.made in
    known_kept m.kept c.as_slice-kids.result.now m.kids_known

pub conclude-requires-clause-new : goal.conclude-requires-clause-new
conclude-requires-clause-new g t c =
    subst (All (IsId (g.S.Store.trees c.loop-kid.store))) (sym c.as_slice.ensures) c.loop-kid.invariant.made.known

pub conclude-requires-clause-fits : goal.conclude-requires-clause-fits
conclude-requires-clause-fits g t c =
    let first = g.S.Store.trees c.args.store.now in
    let same = c.loop-kid.invariant.made.kept.same c.args.id c.requires.known in
    rw (c.as_slice.ensures, ap root same)
    (made_fit c.loop-kid.invariant.made (omega arith) (λ t u well p. g.met.R.Rule.sort_kept c.args.rule.now first t u c.requires.ready well p)
    (g.met.S.Store.well_made c.args.store.now) c.requires.known)

pub conclude-requires-clause-once : goal.conclude-requires-clause-once
conclude-requires-clause-once g t c = c.loop-kid.invariant.spends.once

pub returns-clause-ok : goal.returns-clause-ok
returns-clause-ok g t c =
    let first = g.S.Store.trees c.args.store.now in
    let ts = g.S.Store.trees c.loop-kid.store in
    let m = c.loop-kid.invariant.made in
    let job = g.met.R.Rule.job_kept c.args.rule.now first ts m.kept c.requires.ready in
    let olds = same_kids m c.as_slice-kids.result.now _ refl refl in
    let news = ap (kid_trees ts) c.as_slice.ensures in
    let same = ap root (m.kept.same c.args.id c.requires.known) in
    let row = λ (t : Tree) (o : Op). g.R.Rule.MakesAt (g.R.Rule.job c.args.rule.now ts) o (kid_trees ts c.as_slice-kids.result.now)
    (kid_trees ts c.as_slice.result.now) t in
    result_weaker _ _ (g.S.Store.trees c.conclude.new.store) c.conclude.result
    (λ id t stands p. node_made g.met.R.Rule.rows m job (omega arith) olds news t (subst (row t) same p)) c.conclude.ensures.ok

pub returns-clause-none : goal.returns-clause-none
returns-clause-none g t c e =
    let first = g.S.Store.trees c.args.store.now in
    let ts = g.S.Store.trees c.loop-kid.store in
    let m = c.loop-kid.invariant.made in
    let job = g.met.R.Rule.job_kept c.args.rule.now first ts m.kept c.requires.ready in
    let olds = same_kids m c.as_slice-kids.result.now _ refl refl in
    let news = ap (kid_trees ts) c.as_slice.ensures in
    let same = ap root (m.kept.same c.args.id c.requires.known) in
    let row = λ (t : Tree) (o : Op). g.R.Rule.MakesAt (g.R.Rule.job c.args.rule.now ts) o (kid_trees ts c.as_slice-kids.result.now)
    (kid_trees ts c.as_slice.result.now) t in
    node_without g.met.R.Rule.rows m job (omega arith) olds news (λ t p. c.conclude.ensures.none e t (subst (row t) (sym same) p))

pub returns-clause-grows : goal.returns-clause-grows
returns-clause-grows g t c =
    g.met.S.Store.grows_trans c.args.store.now c.loop-kid.store c.conclude.new.store c.loop-kid.invariant.grows c.conclude.ensures.grows

pub returns-clause-right : goal.returns-clause-right
returns-clause-right g t c =
    let first = g.S.Store.trees c.args.store.now in
    let ts = g.S.Store.trees c.loop-kid.store in
    let us = g.S.Store.trees c.conclude.new.store in
    let m = c.loop-kid.invariant.made in
    let job = g.met.R.Rule.job_kept c.args.rule.now first ts m.kept c.requires.ready in
    let olds = same_kids m c.as_slice-kids.result.now _ refl refl in
    let news = ap (kid_trees ts) c.as_slice.ensures in
    let same = ap root (m.kept.same c.args.id c.requires.known) in
    let row = λ (t : Tree) (o : Op). g.R.Rule.MakesAt (g.R.Rule.job c.args.rule.now ts) o (kid_trees ts c.as_slice-kids.result.now)
    (kid_trees ts c.as_slice.result.now) t in
    let makes = g.R.Rule.Makes (g.R.Rule.job c.args.rule.now first) in
    let keeps = g.met.S.Store.grows_keeps c.loop-kid.store c.conclude.new.store c.conclude.ensures.grows in
    let all = Keeps-trans m.kept keeps in
    let ok = result_weaker _ (makes (tree first c.args.id)) us c.conclude.result
    (λ id t stands p. node_made g.met.R.Rule.rows m job (omega arith) olds news t (subst (row t) same p)) c.conclude.ensures.ok in
    right_concluded makes us c.loop-kid.done c.conclude.new.done c.args.id (tree first c.args.id) c.conclude.result c.conclude.ensures.put
    (omega (arith, all.known, c.requires.known)) (all.same c.args.id c.requires.known) ok (right_kept makes keeps c.loop-kid.done c.loop-kid.invariant.right)

pub returns-clause-opens : goal.returns-clause-opens
returns-clause-opens g t c =
    opens_concluded c.args.done.now c.open.new.done c.loop-kid.done c.conclude.new.done c.args.id c.conclude.result c.in_ok-task.ensures.opened.put
    c.loop-kid.invariant.opens c.conclude.ensures.put

pub returns-clause-spends : goal.returns-clause-spends
returns-clause-spends g t c =
    let first = g.S.Store.trees c.args.store.now in
    let ts = g.S.Store.trees c.loop-kid.store in
    let us = g.S.Store.trees c.conclude.new.store in
    let m = c.loop-kid.invariant.made in
    let job = g.met.R.Rule.job_kept c.args.rule.now first ts m.kept c.requires.ready in
    let looks = g.R.Rule.looks (g.R.Rule.job c.args.rule.now first) in
    let keeps = g.met.S.Store.grows_keeps c.loop-kid.store c.conclude.new.store c.conclude.ensures.grows in
    let all = Keeps-trans m.kept keeps in
    let u = g.S.Store.unique in
    let root = tree first c.args.id in
    let known : IsId us c.args.id = omega (arith, all.known, c.requires.known) in
    let is = all.same c.args.id c.requires.known in
    let loop = spends_kept u (1 + looks) root keeps c.open.new.done c.loop-kid.done c.open.new.steps c.loop-kid.steps c.loop-kid.invariant.spends in
    let finished = spends_finished u looks root us c.args.done.now c.open.new.done c.args.id c.args.steps.now c.open.new.steps known is
    c.loop-kid.done c.conclude.new.done c.conclude.result c.loop-kid.steps c.conclude.ensures.put c.conclude.ensures.err c.conclude.ensures.long
    c.conclude.ensures.once loop in
    let more : IsTrue u → c.conclude.new.steps ≤ c.loop-kid.steps + looks =
    λ h. subst (λ j. c.conclude.new.steps ≤ c.loop-kid.steps + g.R.Rule.looks j) job (c.conclude.ensures.cost h) in
    spends_opened u looks root us c.args.done.now c.open.new.done c.args.id c.args.steps.now c.open.new.steps known is c.in_ok-task.ensures.opened
    c.conclude.new.done c.loop-kid.steps c.conclude.new.steps finished more
