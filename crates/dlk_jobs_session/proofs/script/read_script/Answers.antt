use Rattle.std.proofs.Common.{◌≡◌, ◌+◌, [], ◌∷◌, map, vec_len, sym, ap, subst, ◌∙◌, arith}
use Rattle.std.specs.List.{All}
use Rattle.std.proofs.lemmas.List.{map-append}
use Rattle.std.proofs.lemmas.List.Elements.{All-push}
use Rattle.dlk_replay.specs.Files.{file_lines}
use Rattle.dlk_replay.proofs.FileLines.{no_lines_left}
use Rattle.dlk_jobs_session.specs.Ties.{line_at, IsKnownLine}
use Rattle.dlk_jobs_session.proofs.LinesKept.{lines_kept, lines_known}
use Rattle.dlk_jobs_session.proofs.ReadLines.{Begun, more_begun, begun_as, first_wrong, all_said}
use Rattle.dlk_jobs_session.proofs.script.read_script.Goals as goal

pub returns-in-Err-Malformed-clause-fault : goal.returns-in-Err-Malformed-clause-fault
returns-in-Err-Malformed-clause-fault g c =
    let wrong = first_wrong (file_lines c.args.bytes.now) (file_lines c.loop-left.left.now) (file_lines c.first_line.result.1.now) c.first_line.result.0.now
    (map (line_at (g.S.Store.trees c.loop-left.store)) c.loop-left.lines.items) (vec_len c.loop-left.lines) c.first_line.ensures.lines
    (rw c.in-Err-Malformed.field-0-is at c.in-Err-Malformed.ensures.fault) c.loop-left.invariant.begun in
    rw c.len.ensures wrong

pub loop-left-preserved : goal.loop-left-preserved
loop-left-preserved g c =
    let old = g.S.Store.trees c.loop-left.store in
    let new = g.S.Store.trees c.read_line.new.store in
    let keeps = g.met.S.Store.grows_keeps c.loop-left.store c.read_line.new.store c.read_line.ensures.grows in
    let all = file_lines c.args.bytes.now in
    let left = file_lines c.loop-left.left.now in
    let behind = file_lines c.first_line.result.1.now in
    let lines = c.loop-left.lines.items in
    let line = c.in-Ok.line in
    let pushed = c.push.new.self.items in
    let count = vec_len c.loop-left.lines in
    let n : vec_len c.push.new.self ≡ count + 1 = c.in_ok-push-in-Ok.ensures.len in
    let are = ap (map (line_at new)) c.in_ok-push-in-Ok.ensures.items ∙ map-append (line_at new) lines (line ∷ []) in
    let same = lines_kept old new keeps lines c.loop-left.invariant.known in
    let before = begun_as all left (map (line_at old) lines) (map (line_at new) lines) count same c.loop-left.invariant.begun in
    let begun = more_begun all left behind c.first_line.result.0.now (map (line_at new) lines) (map (line_at new) pushed) (line_at new line) count
    c.first_line.ensures.lines are c.in-Ok.ensures.said before in
    record {
      begun = subst (λ k. Begun all behind (map (line_at new) pushed) k) (sym n) begun;
      known = subst (All (IsKnownLine new)) (sym c.in_ok-push-in-Ok.ensures.items)
          (All-push (IsKnownLine new) lines line (lines_known old new keeps lines c.loop-left.invariant.known) c.in-Ok.ensures.known);
      few = omega (arith, n, c.first_line.ensures.less, c.loop-left.invariant.few);
      grows = g.met.S.Store.grows_trans c.args.store.now c.loop-left.store c.read_line.new.store c.loop-left.invariant.grows c.read_line.ensures.grows;
    }

pub returns-clause-said : goal.returns-clause-said
returns-clause-said g c =
    let none = no_lines_left c.loop-left.left.now c.is_empty.result c.is_empty.ensures c.loop-left-test.false in
    all_said (file_lines c.args.bytes.now) (file_lines c.loop-left.left.now) (map (line_at (g.S.Store.trees c.loop-left.store)) c.loop-left.lines.items)
    (vec_len c.loop-left.lines) none c.loop-left.invariant.begun
