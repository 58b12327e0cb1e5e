use Rattle.dlk_grammar.proofs.Real.{split_tokens}
use Rattle.dlk_store.specs.Stores.{tree}
use Rattle.dlk_machine.proofs.TextLaws.{tree_formula}
use Rattle.dlk_parse.proofs.texts.read_formula.Goals as goal

pub returns-clause-formula : goal.returns-clause-formula
returns-clause-formula g c =
    let found = rw c.of_bytes.ensures at c.in_ok-id.ensures.found in
    tree_formula found.0 (tree (g.S.Store.trees c.tree_of.new.store) c.in_ok-id.id) (split_tokens found.1) found.2
