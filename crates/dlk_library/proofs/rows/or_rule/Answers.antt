use Rattle.std.proofs.Common.{List, [], ◌∷◌, ◌++◌, map, sym, ap, subst, ◌∙◌}
use Rattle.std.specs.List.{All}
use Rattle.std.proofs.lemmas.List.{map-append}
use Rattle.std.proofs.lemmas.List.Elements.{All-push}
use Rattle.dlk_tacsyn.specs.Ties.{tactic_at, TacticIsKnown}
use Rattle.dlk_library.proofs.rows.or_rule.Goals as goal

pub returns-clause-made : goal.returns-clause-made
returns-clause-made c = λ trees.
    let before = c.args.rules.items in
    ap (map (tactic_at trees)) c.in_ok-push.ensures.items
    ∙ map-append (tactic_at trees) before (c.in_ok-rule.rule ∷ [])
    ∙ ap (λ t. map (tactic_at trees) before ++ t ∷ []) (c.in_ok-rule.ensures.made trees)

pub returns-clause-known : goal.returns-clause-known
returns-clause-known c = λ trees place all.
    subst (All (TacticIsKnown trees)) (sym c.in_ok-push.ensures.items)
    (All-push (TacticIsKnown trees) c.args.rules.items c.in_ok-rule.rule all (c.in_ok-rule.ensures.known trees place))
