use Rattle.dlk_readback.proofs.Whole.{formula_text, program_text, term_text}
use Rattle.dlk_readback.proofs.laws.shown_expression_is_read.Goals as goal

pub returns-clause-formulas : goal.returns-clause-formulas
returns-clause-formulas c = formula_text

pub returns-clause-programs : goal.returns-clause-programs
returns-clause-programs c = program_text

pub returns-clause-terms : goal.returns-clause-terms
returns-clause-terms c = term_text
