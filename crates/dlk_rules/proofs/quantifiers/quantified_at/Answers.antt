use Rattle.std.proofs.Common.{ap, sym, ◌∙◌}
use Rattle.dlk_tree.specs.Statics.{plain}
use Rattle.dlk_rules.proofs.Quantified.{quantified_node}
use Rattle.dlk_rules.proofs.quantifiers.quantified_at.Goals as goal

pub returns-clause-ok : goal.returns-clause-ok
returns-clause-ok g c =
    quantified_node _ _ c.args.place c.args.quantifier c.in_ok-top.top.op.now c.in_ok-top.top.kids.now _ c.in-Some.x.now c.plain.result
    c.in_ok-top.ensures.ok c.in-Some.ensures.name c.in-Some.ensures.kid (c.plain.ensures ∙ ap plain (sym c.in_ok-clone.ensures.cases))
