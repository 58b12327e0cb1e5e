use Rattle.std.proofs.Common.{◌≡◌, ◌++◌, ◌+◌, ap, length, map, subst, sym, ◌∙◌}
use Rattle.std.specs.List.{All}
use Rattle.std.specs.Vec.Iter.{into_iter_items}
use Rattle.std.proofs.lemmas.List.{map-append}
use Rattle.std.proofs.lemmas.List.Elements.{All-append, All-head, All-nil, All-push, All-tail}
use Rattle.dlk_rules.specs.Facts.{renumbered}
use Rattle.dlk_rules.specs.Steps.{step_at, HasKnownIds}
use Rattle.dlk_link.specs.Marks.{NamesFew}
use Rattle.dlk_link.proofs.LinkedSteps.{one_behind, none_left}
use Rattle.dlk_link.proofs.linking.behind_rows.Goals as goal

pub loop-step-init : goal.loop-step-init
loop-step-init c =
    let items = c.into_iter-step-iterator.ensures.into_iter_gives.0 in
    let empty = c.in_ok-made.ensures.items in
    record {
      few = subst (All NamesFew) (sym items) c.requires.few;
      steps = λ trees. λ i. map (step_at trees) (empty i) ++ map (renumbered (λ fact. fact + c.args.rows)) (map (step_at trees) (items i));
      known = λ trees known. (
        subst (All (HasKnownIds trees)) (sym empty) (All-nil (HasKnownIds trees)),
        subst (All (HasKnownIds trees)) (sym items) known,
      );
    }

pub behind-requires-clause-few : goal.behind-requires-clause-few
behind-requires-clause-few c =
    All-head NamesFew c.in-Some.step (into_iter_items c.next.new.self) (subst (All NamesFew) c.in-Some.ensures.steps.0 c.loop-step.invariant.few)

pub loop-step-preserved : goal.loop-step-preserved
loop-step-preserved c =
    let inv = c.loop-step.invariant in
    let next = c.in-Some.ensures.steps.0 in
    let rest = into_iter_items c.next.new.self in
    let pushed = c.in_ok-push.ensures.items in
    record {
      few = All-tail NamesFew c.in-Some.step rest (subst (All NamesFew) next inv.few);
      steps = λ trees. one_behind trees (λ fact. fact + c.args.rows) c.loop-step.made.items c.push.new.self.items c.behind.result c.in-Some.step
          (into_iter_items c.loop-step.step-iterator) rest (map (renumbered (λ fact. fact + c.args.rows)) (map (step_at trees) c.args.lemma.items)) pushed next
          (c.behind.ensures.same trees) (inv.steps trees);
      known = λ trees known.
          let left = subst (All (HasKnownIds trees)) next (inv.known trees known).1 in (
            subst (All (HasKnownIds trees)) (sym pushed) (All-push (HasKnownIds trees) c.loop-step.made.items c.behind.result (inv.known trees known).0
                (c.behind.ensures.known trees (All-head (HasKnownIds trees) c.in-Some.step rest left))),
            All-tail (HasKnownIds trees) c.in-Some.step rest left,
          );
    }

pub returns-clause-steps : goal.returns-clause-steps
returns-clause-steps c = λ trees.
    let none : length (into_iter_items c.loop-step.step-iterator) ≡ 0 = sym c.loop-step.step-iterator.rest.ok.0 ∙ c.in-None.ensures.steps.0 in
    let whole = none_left trees (λ fact. fact + c.args.rows) c.loop-step.made.items (into_iter_items c.loop-step.step-iterator)
    (map (renumbered (λ fact. fact + c.args.rows)) (map (step_at trees) c.args.lemma.items)) none (c.loop-step.invariant.steps trees) in
    ap (map (step_at trees)) c.in_ok-append.ensures.items ∙ map-append (step_at trees) c.loop-step.made.items c.args.merges.items
    ∙ ap (λ l. l ++ map (step_at trees) c.args.merges.items) whole

pub returns-clause-known : goal.returns-clause-known
returns-clause-known c = λ trees lemma merges.
    subst (All (HasKnownIds trees)) (sym c.in_ok-append.ensures.items)
    (All-append (HasKnownIds trees) c.loop-step.made.items c.args.merges.items (c.loop-step.invariant.known trees lemma).0 merges)
