use Rattle.dlk_nodes.specs.Symbols.{of_formulas}
use Rattle.dlk_lines.proofs.Refusals.{err_of_whole}
use Rattle.dlk_nodes.proofs.SymbolForms.{formulas_called, quant_wanted}
use Rattle.dlk_nodes.proofs.symbols.for_formulas.Goals as goal

pub called-requires : goal.called-requires
called-requires c = of_formulas

pub returns-clause-fault : goal.returns-clause-fault
returns-clause-fault c = err_of_whole (formulas_called c.args.text.now _ _ c.in-Some.ensures.found) _ c.called.ensures.fault

pub returns-in_default-clause-fault : goal.returns-in_default-clause-fault
returns-in_default-clause-fault c =
    err_of_whole (quant_wanted c.args.text.now c.in_default.ensures.none _ c.in-Some-before.ensures.found) _ c.symbol.ensures.fault
