use Rattle.dlk_grammar.proofs.Ascii.{tree_ascii, sequent_ascii}
use Rattle.dlk_grammar.proofs.laws.canonical_texts.Goals as goal

pub returns-clause-trees : goal.returns-clause-trees
returns-clause-trees c = tree_ascii

pub returns-clause-sequents : goal.returns-clause-sequents
returns-clause-sequents c = sequent_ascii
