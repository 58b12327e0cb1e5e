use Rattle.std.proofs.Common.{◌≡◌, ◌+◌, ◌++◌, ◌∷◌, [], length, sym, ◌∙◌}
use Rattle.dlk_rules.specs.declared.step.Step.TheVariants as step
use Rattle.dlk_elab.specs.Forms.{renamed, substituted}
use Rattle.dlk_elab.proofs.Instances.{instance_planned}
use Rattle.dlk_elab.proofs.instance.instance.Goals as goal

pub returns : goal.returns
returns c trees known =
    let rows = c.args.rows in
    let extra = c.in_ok-extra.ensures in
    let renames : c.as_slice.result.now ≡ c.args.extra.now.renames = c.as_slice.ensures ∙ (λ i. (extra i).renames) in
    let name = sym c.in_ok-name.ensures.cases in
    let pushed : c.push.new.self.items ≡ step.Axiom c.args.name.now ∷ [] =
    c.in_ok-push.ensures.items ∙ (λ i. c.new-steps.ensures.items i ++ step.Axiom (name i) ∷ []) in
    let turned : c.rename.new.steps.items ≡ step.Axiom c.args.name.now ∷ renamed (rows + 1) c.args.extra.now.renames =
    c.in_ok-last.ensures.steps ∙ (λ i. pushed i ++ renamed (rows + 1) (renames i)) in
    let counted : c.in_ok-last.last ≡ rows + 1 + length (renamed (rows + 1) c.args.extra.now.renames) =
    c.in_ok-last.ensures.last ∙ (λ i. rows + 1 + length (renamed (rows + 1) (renames i))) in
    let put : c.substitute.new.steps.items ≡ c.rename.new.steps.items ++ substituted c.in_ok-last.last c.in_ok-extra.extra.pairs = c.in_ok-substitute.ensures in
    let all : c.substitute.new.steps.items ≡ (step.Axiom c.args.name.now ∷ renamed (rows + 1) c.args.extra.now.renames)
    ++ substituted c.in_ok-last.last c.args.extra.now.pairs =
    put ∙ (λ i. turned i ++ substituted c.in_ok-last.last (extra i).pairs) in
    instance_planned trees rows c.in_ok-last.last c.args.name.now c.args.extra.now.renames c.args.extra.now.pairs c.substitute.new.steps.items counted all known
