use Rattle.std.proofs.Common.{◌≡◌, ◌++◌, [], sym, ap, subst, ◌∙◌, append-nil, arith}
use Rattle.dlk_calculus.specs.Rules.{arguments_of}
use Rattle.dlk_rules.specs.Steps.{rule_at}
use Rattle.dlk_lines.specs.Written.{formulas_in}
use Rattle.dlk_nodes.specs.Tables.{nodes_at}
use Rattle.dlk_nodes.specs.Terms.{new_in_each}
use Rattle.dlk_nodes.proofs.Begun.{none_begun, no_formulas}
use Rattle.dlk_nodes.proofs.adding.add_rule.Goals as goal

pub returns-in_default : goal.returns-in_default
returns-in_default g c =
    let trees = g.S.Store.trees c.args.store.now in
    let nodes = nodes_at trees c.args.table.now in
    let none : formulas_in (arguments_of (rule_at trees c.args.rule.now)) ≡ [] =
    sym (ap formulas_in (c.arguments.ensures.arguments trees)) ∙ no_formulas (λ y. y.now) trees c.arguments.result c.in_default.not-PlaceAndFormula
    c.in_default.not-OneFormula in
    record {
      known = c.requires.nodes;
      looks = omega arith;
      added = subst (λ l. nodes ≡ nodes ++ new_in_each nodes l) (sym none) (sym (append-nil nodes));
      begun = none_begun _ _;
      memory = tt;
    }
