use Rattle.std.proofs.Common.{◌≡◌, ◌+◌, ap, arith, length, subst, sym, ◌∙◌, true, false, List, [], map, get_or}
use Rattle.std.specs.Vec.Iter.{into_iter_items}
use Rattle.std.proofs.lemmas.List.{length-map}
use Rattle.dlk_tree.specs.Trees.{Tree}
use Rattle.dlk_rules.specs.Steps.{step_at}
use Rattle.dlk_link.specs.Marks.{AreMarks, NameEarlier}
use Rattle.dlk_link.specs.Trimmed.{moved}
use Rattle.dlk_link.specs.Unmoved.{HaveOldNumbers}
use Rattle.dlk_link.proofs.KeptSteps.{Row, dropped, all_left, one_read, none_left_to_read, next_row, row_kept, row_left_out, all_kept}
use Rattle.dlk_link.proofs.Marks.{read_index, not_true, marks_reach}
use Rattle.dlk_link.proofs.trimming.kept_steps.Goals.{then-index+in_ok-number, else-index}
use Rattle.dlk_link.proofs.trimming.kept_steps.Goals as goal

pub needed-requires-clause-earlier : goal.needed-requires-clause-earlier
needed-requires-clause-earlier c = subst NameEarlier (sym c.deref.ensures.value) c.requires.earlier

pub loop-step-init : goal.loop-step-init
loop-step-init c =
    all_left c.args.term.items (into_iter_items c.into_iter-step-iterator.result) c.new.result.items c.new-2.result.keys c.in_ok-numbers.numbers.items
    c.into_iter-step-iterator.ensures.into_iter_gives.0 c.new.ensures.items c.new-2.ensures.empty c.in_ok-numbers.ensures.items

pub index-requires : goal.index-requires
index-requires c =
    let term = c.args.term.items in
    let left = dropped term (length c.loop-step.numbers.items) c.in-Some.step (into_iter_items c.next.new.self)
    (sym c.in-Some.ensures.steps.0 ∙ c.loop-step.invariant.left_is) in
    let marks : AreMarks (map (step_at []) term) c.in_ok-marks.marks.items =
    subst (λ l. AreMarks (map (step_at []) l) c.in_ok-marks.marks.items) c.deref.ensures.value (c.in_ok-marks.ensures []) in
    let count = marks.count in
    let lt = left.0 in
    omega (arith, count, lt, length-map term (step_at []))

pub loop-step-preserved : goal.loop-step-preserved
loop-step-preserved c =
    let term = c.args.term.items in
    let numbers = c.loop-step.numbers.items in
    let row = length numbers in
    let step = c.in-Some.step in
    let rest = into_iter_items c.next.new.self in
    let next = c.in-Some.ensures.steps.0 in
    let left = dropped term row step rest (sym next ∙ c.loop-step.invariant.left_is) in
    let lt = left.0 in
    let inv = c.loop-step.invariant.so_far in
    let marks = c.in_ok-marks.marks.items in
    let marked : (trees : List Tree) → AreMarks (map (step_at trees) term) marks = λ trees.
    subst (λ l. AreMarks (map (step_at trees) l) marks) c.deref.ensures.value (c.in_ok-marks.ensures trees) in
    let count = (marked []).count in
    let within = marks_reach marks term row count lt in
    let size : c.len-in-loop-step.result ≡ length c.loop-step.numbers.items = omega arith in
    let read : c.index.result.now ≡ get_or marks row c.index.result.now =
    subst (λ k. c.index.result.now ≡ get_or marks k c.index.result.now) size c.index.ensures in
    elim c.if-index.branch [
      | then-index+in_ok-number w ↦
          let is_marked = read_index marks row c.index.result.now true within read w.if-index.true in
          let same : (trees : List Tree) → step_at trees w.moved.result ≡ moved numbers (step_at trees step) = λ trees.
          w.moved.ensures.same trees ∙ ap (λ n. moved n (step_at trees step)) w.deref-then-index.ensures.value in
          let kept = row_kept term row lt c.loop-step.kept.steps.items c.loop-step.kept.keys.keys numbers marks marked inv.kept is_marked
          step w.moved.result left.1 same w.moved.ensures.known w.number.new.self.steps.items w.number.new.self.keys.keys w.in_ok-number.number
          w.in_ok-number.ensures.number in
          one_read term (into_iter_items c.loop-step.step-iterator) rest step c.if-index.kept w.number.new.self c.loop-step.kept.steps.items
          c.loop-step.kept.keys.keys numbers c.push.new.self.items c.if-index.number w.in_ok-number.number next c.loop-step.invariant w.kept-is w.number-is
          c.in_ok-push.ensures.items
          (next_row term row c.loop-step.kept.steps.items w.number.new.self.steps.items c.loop-step.kept.keys.keys w.number.new.self.keys.keys
          numbers w.in_ok-number.number inv w.in_ok-number.ensures.few w.in_ok-number.ensures.count kept)
      | else-index w ↦
          let unmarked = read_index marks row c.index.result.now false within read w.if-index.false in
          let kept = row_left_out term row lt c.loop-step.kept.steps.items c.loop-step.kept.keys.keys numbers marks marked inv.kept
          (not_true marks (row + 1) unmarked) in
          one_read term (into_iter_items c.loop-step.step-iterator) rest step c.if-index.kept c.loop-step.kept c.loop-step.kept.steps.items
          c.loop-step.kept.keys.keys numbers c.push.new.self.items c.if-index.number 0 next c.loop-step.invariant w.kept-is w.number-is
          c.in_ok-push.ensures.items
          (next_row term row c.loop-step.kept.steps.items c.loop-step.kept.steps.items c.loop-step.kept.keys.keys c.loop-step.kept.keys.keys
          numbers 0 inv (omega arith) inv.count kept)
    ]

pub returns-clause-trimmed : goal.returns-clause-trimmed
returns-clause-trimmed c = λ trees one known.
    let none : length (into_iter_items c.loop-step.step-iterator) ≡ 0 = sym c.loop-step.step-iterator.rest.ok.0 ∙ c.in-None.ensures.steps.0 in
    let term = c.args.term.items in
    let steps = c.loop-step.kept.steps.items in
    let keys = c.loop-step.kept.keys.keys in
    let numbers = c.loop-step.numbers.items in
    let whole = none_left_to_read term (into_iter_items c.loop-step.step-iterator) steps keys numbers c.loop-step.invariant none in (
      numbers,
      all_kept term steps keys numbers trees (subst (λ r. Row term r steps keys numbers trees) whole (c.loop-step.invariant.so_far.kept trees one known)),
      subst (λ l. HaveOldNumbers l c.unmoved-same.result) c.deref-2.ensures.value c.unmoved-same.ensures.same,
    )

pub returns-clause-known : goal.returns-clause-known
returns-clause-known c = λ trees one known. (c.loop-step.invariant.so_far.kept trees one known).keyed.known
