use Rattle.std.proofs.Common.{◌≡◌, ◌+◌, true, ◌++◌, map, Result, Ok, Err, ap, ◌∙◌, arith}
use Rattle.std.specs.Prelude.{OnOk, is_ok}
use Rattle.dlk_rules.specs.Steps.{step_at}
use Rattle.dlk_nodes.specs.Tables.{nodes_at}
use Rattle.dlk_nodes.specs.TermFiles.{its_lines, ended}
use Rattle.dlk_recorder.specs.Terms.{term_text}
use Rattle.dlk_recorder.proofs.Kept.{kept_step}
use Rattle.dlk_recorder.proofs.recording.record.Goals as goal

when_ok : {T E P : Type 0} (r : Result T E) → true ≡ is_ok r → OnOk r P → P
when_ok (Ok x) e h = h
when_ok (Err d) e h = absurd (cc e)

pub loop-i-preserved : goal.loop-i-preserved
loop-i-preserved g c =
    let trees = g.S.Store.trees c.args.store.now in
    let stands = step_at trees in
    let nodes = nodes_at trees c.loop-i.table in
    let out = c.write_step-written.new.out in
    let lines = ended (its_lines nodes (c.loop-i.i + 1) (stands c.index-taken-i.result)) in
    let ok : true ≡ is_ok c.write_step-written.result = c.in_ok-map_err.ensures.variant in
    let written : out.items ≡ lines = when_ok c.write_step-written.result ok c.write_step-written.ensures.text ∙ ap (λ l. l ++ lines) c.clear.ensures.items in
    let after = when_ok c.write_step-written.result ok c.write_step-written.ensures.nodes in
    let room = out.ok in
    let small = out.small in
    record {
      text = kept_step stands c.args.taken.now c.loop-i.i c.index-taken-i.result nodes (nodes_at trees c.write_step-written.new.table) c.loop-i.text.items
          out.items
          c.in_ok-text-2.text.items (term_text (map stands c.args.taken.now)) c.loop-i.bytes (c.loop-i.bytes + c.len.result) c.args.limit c.loop-i-test.true
          c.index-taken-i.is c.loop-i.invariant.text written after (ap (λ k. c.loop-i.bytes + k) (c.len.ensures ∙ room.0))
          (λ le. c.in_ok-text-2.ensures.within le ∙ ap (λ l. c.loop-i.text.items ++ l) c.deref.ensures.value);
      known = c.write_step-written.ensures.known;
      low = omega (arith, c.loop-i.invariant.low, c.len.ensures, room.0, room.1, small);
    }
