-- What the rows of the tables say.
use Rattle.std.specs.Prelude.{map}
use Rattle.dlk_calculus.specs.Axioms.{Axiom, AxiomaticRule}
use Rattle.dlk_axioms.specs.declared.table.AxiomRow.{AxiomRow}
use Rattle.dlk_axioms.specs.declared.table.RuleRow.{RuleRow}
use Rattle.dlk_axioms.specs.Shapes.{tree_of}

abbrev pub said : AxiomRow → Axiom
said row = record { name = row.name.now; form = row.form; own_names = map (λ name. name.now) row.own_names.now; formula = tree_of row.formula.now }

abbrev pub said_of_rule : RuleRow → AxiomaticRule
said_of_rule row = record { name = row.name.now; premise = tree_of row.premise.now; conclusion = tree_of row.conclusion.now }
