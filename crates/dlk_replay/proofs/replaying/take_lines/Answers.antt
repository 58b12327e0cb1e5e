use Rattle.std.proofs.Common.{◌≡◌, ◌+◌, ◌-◌, ◌≤◌, length, map, sym, ap, ◌∙◌, arith}
use Rattle.std.proofs.lemmas.List.{length-map}
use Rattle.std.proofs.lemmas.List.Elements.{All-nil, All-weaker}
use Rattle.std.proofs.lemmas.Result.{err_from_is_err_and}
use Rattle.dlk_rules.specs.Steps.{step_at, HasKnownIds}
use Rattle.dlk_kernel.specs.Kernel.{facts}
use Rattle.dlk_replay.specs.Files.{file_lines}
use Rattle.dlk_replay.proofs.FileLines.{no_lines_left}
use Rattle.dlk_replay.proofs.Watching.{begins_known, so_far_none, so_far_more, so_far_node, rows_more, line_fault, line_left, ends_short, short_left}
use Rattle.dlk_replay.proofs.Watching.{ends_well, ends_shown, end_fault, end_left, steps_same, kept_step, kept_ids}
use Rattle.dlk_replay.proofs.replaying.take_lines.Goals as goal

pub loop-left-init : goal.loop-left-init
loop-left-init g c =
    let all = file_lines c.args.bytes.now in
    let left = file_lines c.begin-version.result.1.now in
    let trees = g.S.Store.trees c.args.kernel.now.store in
    let version = c.begin-version.result.0 in
    let place = c.begin-version.result.2 in
    record {
      so_far = rw (c.requires, c.new-kept.ensures.items)
          (so_far_none g.W.Watcher.after all left place trees version c.args.keep c.args.watcher.now c.begin-version.ensures.begins);
      nodes = begins_known trees all left place version c.begin-version.ensures.begins;
      known = rw c.new-kept.ensures.items (All-nil (HasKnownIds (g.S.Store.trees c.args.kernel.now.store)));
      room = c.begin-version.ensures.room;
      grows = g.met.S.Store.grows_refl c.args.kernel.now.store;
    }

pub returns-in_err-take_line-clause-bad : goal.returns-in_err-take_line-clause-bad
returns-in_err-take_line-clause-bad g c =
    let p = err_from_is_err_and c.from_residual.result c.from_residual.ensures.1 in
    let so_far = rw c.first_line.ensures.lines at c.loop-left.invariant.so_far in
    rw (p.1, p.2) (line_fault so_far _ c.in_err-take_line.ensures.fault)

pub returns-in_err-take_line-clause-left : goal.returns-in_err-take_line-clause-left
returns-in_err-take_line-clause-left g c =
    let p = err_from_is_err_and c.from_residual.result c.from_residual.ensures.1 in
    let so_far = rw c.first_line.ensures.lines at c.loop-left.invariant.so_far in
    rw (p.1, p.2) (line_left so_far _ _ c.in_err-take_line.ensures.err c.in_err-take_line.ensures.fault)

pub returns-in_err-show_last-in-Step-clause-left : goal.returns-in_err-show_last-in-Step-clause-left
returns-in_err-show_last-in-Step-clause-left g c =
    let p = err_from_is_err_and c.from_residual-in_err-show_last-in-Step.result c.from_residual-in_err-show_last-in-Step.ensures.1 in
    let so_far = rw c.first_line.ensures.lines at c.loop-left.invariant.so_far in
    let taken = rw c.in-Step.is at c.in_ok-take_line.ensures.taken in
    rw (p.1, p.2) (c.loop-left.place + 1, rows_more so_far _ _ taken.1)

pub returns-in_err-keep_step-in-Step-clause-left : goal.returns-in_err-keep_step-in-Step-clause-left
returns-in_err-keep_step-in-Step-clause-left g c =
    let p = err_from_is_err_and c.from_residual-in_err-keep_step-in-Step.result c.from_residual-in_err-keep_step-in-Step.ensures.1 in
    let so_far = rw c.first_line.ensures.lines at c.loop-left.invariant.so_far in
    let taken = rw c.in-Step.is at c.in_ok-take_line.ensures.taken in
    rw (p.1, p.2) (c.loop-left.place + 1, rows_more so_far _ _ taken.1)

pub loop-left-preserved : goal.loop-left-preserved
loop-left-preserved g c =
    let rows = facts g.S.Store.trees c.take_line.new.kernel in
    let old = g.S.Store.trees c.loop-left.kernel.store in
    let new = g.S.Store.trees c.take_line.new.kernel.store in
    let keeps = g.met.S.Store.grows_keeps c.loop-left.kernel.store c.take_line.new.kernel.store c.take_line.ensures.grows in
    let so_far = rw c.first_line.ensures.lines at c.loop-left.invariant.so_far in
    let taken = rw c.in-Step.is at c.in_ok-take_line.ensures.taken in
    let step = c.in-Step.step in
    let kept = c.loop-left.kept.items in
    let all = c.keep_step.new.kept.items in
    let known = c.loop-left.invariant.known in
    let more = kept_step old new keeps (c.step_stays.ensures.known old new) (c.step_stays.ensures.same old new) c.args.keep kept all step known
    c.in_ok-keep_step-in-Step.ensures in
    record {
      so_far = so_far_more so_far new c.take_line.new.version rows (step_at new step) (map (step_at new) all) c.show_last.new.watcher keeps
          c.loop-left.invariant.nodes taken.1 taken.2 c.in_ok-show_last-in-Step.ensures.seen more;
      nodes = c.in_ok-take_line.ensures.nodes;
      known = kept_ids old new keeps (c.step_stays.ensures.known old new) (c.step_stays.ensures.same old new) c.args.keep kept all step known taken.0
          c.in_ok-keep_step-in-Step.ensures;
      room = omega (arith, c.loop-left.invariant.room, c.first_line.ensures.less);
      grows = g.met.S.Store.grows_trans c.args.kernel.now.store c.loop-left.kernel.store c.take_line.new.kernel.store c.loop-left.invariant.grows
          c.take_line.ensures.grows;
    }

pub loop-left-preserved-in-Node : goal.loop-left-preserved-in-Node
loop-left-preserved-in-Node g c =
    let rows = facts g.S.Store.trees c.take_line.new.kernel in
    let old = g.S.Store.trees c.loop-left.kernel.store in
    let new = g.S.Store.trees c.take_line.new.kernel.store in
    let keeps = g.met.S.Store.grows_keeps c.loop-left.kernel.store c.take_line.new.kernel.store c.take_line.ensures.grows in
    let so_far = rw c.first_line.ensures.lines at c.loop-left.invariant.so_far in
    let taken = rw c.in-Node.is at c.in_ok-take_line.ensures.taken in
    let kept = c.loop-left.kept.items in
    let known = c.loop-left.invariant.known in
    let same = steps_same old new keeps (c.step_stays.ensures.known old new) (c.step_stays.ensures.same old new) kept known in
    record {
      so_far = so_far_node so_far new c.take_line.new.version rows (map (step_at new) kept) keeps c.loop-left.invariant.nodes taken.0 taken.1 same;
      nodes = c.in_ok-take_line.ensures.nodes;
      known = All-weaker (HasKnownIds old) (HasKnownIds new) (λ x. c.step_stays.ensures.known old new x keeps) kept known;
      room = omega (arith, c.loop-left.invariant.room, c.first_line.ensures.less);
      grows = g.met.S.Store.grows_trans c.args.kernel.now.store c.loop-left.kernel.store c.take_line.new.kernel.store c.loop-left.invariant.grows
          c.take_line.ensures.grows;
    }

pub returns-in_err-end-in-Done-clause-bad : goal.returns-in_err-end-in-Done-clause-bad
returns-in_err-end-in-Done-clause-bad g c =
    let p = err_from_is_err_and c.from_residual-in_err-end-in-Done.result c.from_residual-in_err-end-in-Done.ensures.1 in
    let so_far = rw c.first_line.ensures.lines at c.loop-left.invariant.so_far in
    let taken = rw c.in-Done.is at c.in_ok-take_line.ensures.taken in
    let count : c.rows.result ≡ length (facts g.S.Store.trees c.loop-left.kernel) = c.rows.ensures.count ∙ sym (length-map _ _) ∙ ap length taken.1 in
    rw (p.1, p.2) (end_fault c.first_line.result.0.now c.first_line.result.1.now so_far taken.0 c.rows.result count _ c.in_err-end-in-Done.ensures.bad)

pub returns-in_err-end-in-Done-clause-left : goal.returns-in_err-end-in-Done-clause-left
returns-in_err-end-in-Done-clause-left g c =
    let p = err_from_is_err_and c.from_residual-in_err-end-in-Done.result c.from_residual-in_err-end-in-Done.ensures.1 in
    let so_far = rw c.first_line.ensures.lines at c.loop-left.invariant.so_far in
    let taken = rw c.in-Done.is at c.in_ok-take_line.ensures.taken in
    let count : c.rows.result ≡ length (facts g.S.Store.trees c.loop-left.kernel) = c.rows.ensures.count ∙ sym (length-map _ _) ∙ ap length taken.1 in
    rw (p.1, p.2) (end_left c.first_line.result.0.now c.first_line.result.1.now so_far taken.0 c.rows.result count _ _ taken.1 c.in_err-end-in-Done.ensures.bad)

pub returns-in-Done-clause-ok : goal.returns-in-Done-clause-ok
returns-in-Done-clause-ok g c =
    let ends = c.in_ok-end-in-Done.ensures.ok in
    let taken = rw c.in-Done.is at c.in_ok-take_line.ensures.taken in
    let so_far = rw (c.first_line.ensures.lines, ends.whole) at c.loop-left.invariant.so_far in
    let count : c.rows.result ≡ length (facts g.S.Store.trees c.loop-left.kernel) = c.rows.ensures.count ∙ sym (length-map _ _) ∙ ap length taken.1 in
    let some : 1 ≤ length (facts g.S.Store.trees c.loop-left.kernel) = omega (arith, ends.some, count) in
    rw taken.1 (ends_well c.first_line.result.0.now so_far taken.0 some _ ends.line)

pub returns-in-Done-clause-shows : goal.returns-in-Done-clause-shows
returns-in-Done-clause-shows g c =
    let ends = c.in_ok-end-in-Done.ensures.ok in
    let old = g.S.Store.trees c.loop-left.kernel.store in
    let new = g.S.Store.trees c.take_line.new.kernel.store in
    let keeps = g.met.S.Store.grows_keeps c.loop-left.kernel.store c.take_line.new.kernel.store c.take_line.ensures.grows in
    let same = steps_same old new keeps (c.step_stays.ensures.known old new) (c.step_stays.ensures.same old new) c.loop-left.kept.items
    c.loop-left.invariant.known in
    let taken = rw c.in-Done.is at c.in_ok-take_line.ensures.taken in
    let so_far = rw (c.first_line.ensures.lines, ends.whole) at c.loop-left.invariant.so_far in
    rw taken.1 (ends_shown c.first_line.result.0.now so_far taken.0 _ same)

pub returns-clause-bad : goal.returns-clause-bad
returns-clause-bad g c =
    let none = no_lines_left c.loop-left.left.now c.is_empty.result c.is_empty.ensures c.loop-left-test.false in
    ends_short (rw none at c.loop-left.invariant.so_far)

pub returns-clause-left : goal.returns-clause-left
returns-clause-left g c =
    let none = no_lines_left c.loop-left.left.now c.is_empty.result c.is_empty.ensures c.loop-left-test.false in
    let before_it : c.loop-left.place + 1 - 1 ≡ c.loop-left.place = omega arith in
    rw before_it (short_left (rw none at c.loop-left.invariant.so_far))

pub returns-in_err-take_line-clause-grows : goal.returns-in_err-take_line-clause-grows
returns-in_err-take_line-clause-grows g c =
    g.met.S.Store.grows_trans c.args.kernel.now.store c.loop-left.kernel.store c.take_line.new.kernel.store c.loop-left.invariant.grows
    c.take_line.ensures.grows

pub returns-in_err-show_last-in-Step-clause-grows : goal.returns-in_err-show_last-in-Step-clause-grows
returns-in_err-show_last-in-Step-clause-grows g c =
    g.met.S.Store.grows_trans c.args.kernel.now.store c.loop-left.kernel.store c.take_line.new.kernel.store c.loop-left.invariant.grows
    c.take_line.ensures.grows

pub returns-in_err-keep_step-in-Step-clause-grows : goal.returns-in_err-keep_step-in-Step-clause-grows
returns-in_err-keep_step-in-Step-clause-grows g c =
    g.met.S.Store.grows_trans c.args.kernel.now.store c.loop-left.kernel.store c.take_line.new.kernel.store c.loop-left.invariant.grows
    c.take_line.ensures.grows

pub returns-in_err-end-in-Done-clause-grows : goal.returns-in_err-end-in-Done-clause-grows
returns-in_err-end-in-Done-clause-grows g c =
    g.met.S.Store.grows_trans c.args.kernel.now.store c.loop-left.kernel.store c.take_line.new.kernel.store c.loop-left.invariant.grows
    c.take_line.ensures.grows

pub returns-in-Done-clause-grows : goal.returns-in-Done-clause-grows
returns-in-Done-clause-grows g c =
    g.met.S.Store.grows_trans c.args.kernel.now.store c.loop-left.kernel.store c.take_line.new.kernel.store c.loop-left.invariant.grows
    c.take_line.ensures.grows

pub returns-in-Done-clause-known : goal.returns-in-Done-clause-known
returns-in-Done-clause-known g c =
    let old = g.S.Store.trees c.loop-left.kernel.store in
    let new = g.S.Store.trees c.take_line.new.kernel.store in
    let keeps = g.met.S.Store.grows_keeps c.loop-left.kernel.store c.take_line.new.kernel.store c.take_line.ensures.grows in
    All-weaker (HasKnownIds old) (HasKnownIds new) (λ x. c.step_stays.ensures.known old new x keeps) c.loop-left.kept.items c.loop-left.invariant.known
