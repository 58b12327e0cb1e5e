use Rattle.std.proofs.Common.{◌++◌, ◌∷◌, [], ◌+◌, ℕ, sym, ap, ◌∙◌, arith}
use Rattle.std.proofs.lemmas.List.{length-append}
use Rattle.dlk_rules.specs.declared.rule.Rule.{Rule}
use Rattle.dlk_rules.specs.declared.step.Step.TheVariants as step
use Rattle.dlk_elab.proofs.Turns.{one_more, behind_more}
use Rattle.dlk_elab.proofs.spot.turns.Goals as goal

pub loop-at-preserved : goal.loop-at-preserved
loop-at-preserved c =
    let inv = c.loop-at.invariant in
    let rule : ℕ × Rule = (c.in-Some.at, c.in-Some.rule) in
    let longer = length-append c.loop-at.yielded (rule ∷ []) in
    let row = inv.2 in (
      c.in_ok-push.ensures.items ∙ (λ i. inv.0 i ++ step.Apply (inv.1 i) c.in-Some.at c.in-Some.rule ∷ [])
          ∙ sym (one_more c.args.spot.fact c.args.rows c.loop-at.yielded rule),
      ap (λ n. n + 1) row ∙ sym (behind_more c.args.spot.fact c.args.rows c.loop-at.yielded rule),
      omega (arith, row, longer),
    )
