use Rattle.dlk_nodes.specs.Symbols.{of_terms}
use Rattle.dlk_nodes.proofs.symbols.symbol_for.Goals as goal

pub called-requires : goal.called-requires
called-requires c = of_terms
