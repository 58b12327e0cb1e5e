use Rattle.std.proofs.Common.{◌≡◌, map, take, sym, ap, ◌∙◌}
use Rattle.std.proofs.lemmas.List.{take_all}
use Rattle.dlk_tacsyn.specs.Ties.{argument_at}
use Rattle.dlk_strategy.specs.Runs.{put_place}
use Rattle.dlk_strategy.proofs.Locators.{placed_more, known_pushed}
use Rattle.dlk_strategy.proofs.atoms.placed.Goals as goal

pub loop-arg-preserved : goal.loop-arg-preserved
loop-arg-preserved c =
    let items = c.as_slice-arg-items.result.now in
    record {
      made = λ trees. placed_more trees c.args.place c.loop-arg.arg-index items c.loop-arg.args c.push.new.self c.arg-item.result c.in_ok-arg.arg
          c.loop-arg-test.true c.arg-item.is
          c.in_ok-push.ensures.ok (c.loop-arg.invariant.made trees) (c.in_ok-arg.ensures.made trees);
      known = λ trees all. known_pushed trees c.loop-arg.arg-index items c.loop-arg.args c.push.new.self c.arg-item.result c.in_ok-arg.arg c.loop-arg-test.true
          c.arg-item.is
          c.in_ok-push.ensures.ok all (c.loop-arg.invariant.known trees all) (c.in_ok-arg.ensures.known trees);
    }

pub returns-clause-made : goal.returns-clause-made
returns-clause-made c = λ trees.
    let items = c.as_slice-arg-items.result.now in
    let whole : take c.loop-arg.arg-index items ≡ c.args.atom.now.args = take_all c.loop-arg.arg-index items c.loop-arg-test.false
    ∙ c.as_slice-arg-items.ensures in
    let same = c.loop-arg.invariant.made trees ∙ ap (λ xs. map (put_place c.args.place) (map (argument_at trees) xs)) whole in
    let name = sym c.in_ok-name.ensures.cases in
    λ i. record { name = name i; arguments = same i; at = c.args.atom.now.at }

pub returns-clause-known : goal.returns-clause-known
returns-clause-known c = λ trees all. c.loop-arg.invariant.known trees (rw c.as_slice-arg-items.ensures all)
