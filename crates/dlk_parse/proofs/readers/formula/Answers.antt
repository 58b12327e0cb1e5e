use Rattle.std.proofs.Common.{subst}
use Rattle.dlk_grammar.specs.declared.token.Form.TheVariants.{Formula}
use Rattle.dlk_grammar.specs.Grammar.{formula}
use Rattle.dlk_grammar.specs.Readings.{IsTree}
use Rattle.dlk_store.specs.Stores.{tree}
use Rattle.dlk_parse.proofs.SaidLaws.{sort_read}
use Rattle.dlk_parse.proofs.readers.formula.Goals as goal

pub returns-clause-sort : goal.returns-clause-sort
returns-clause-sort g c =
    let t = tree (g.S.Store.trees c.tree_of.new.store) c.in_ok-id.id in
    let found = c.in_ok-id.ensures.found in
    sort_read Formula formula (λ s p d. d) c.args.dots c.args.tokens.now t c.requires (subst (λ ts. IsTree Formula c.args.dots ts t) found.1 found.2)
