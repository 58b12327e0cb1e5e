use Rattle.std.proofs.Common.{Bool}
use Rattle.std.specs.Str.{bytes_eq}
use Rattle.dlk_calculus.specs.Axioms.{AxiomaticRule, axiomatic_rules}
use Rattle.dlk_axioms.specs.Rows.{said_of_rule}
use Rattle.dlk_axioms.proofs.Finding.{find_row}
use Rattle.dlk_axioms.proofs.lookup.rule_row.Goals as goal

pub returns : goal.returns
returns c =
    let test : AxiomaticRule → Bool = λ r. bytes_eq r.name c.args.name.now in
    find_row said_of_rule test c.rule_rows.result.now axiomatic_rules c.rule_rows.ensures c.rule_among.result c.rule_among.ensures
