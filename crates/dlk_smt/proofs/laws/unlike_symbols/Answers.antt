use Rattle.dlk_smt.proofs.Unlike.{one_variable, one_function, variable_no_function, base_no_variable, base_no_function}
use Rattle.dlk_smt.proofs.laws.unlike_symbols.Goals as goal

pub returns-clause-variables : goal.returns-clause-variables
returns-clause-variables c = one_variable

pub returns-clause-functions : goal.returns-clause-functions
returns-clause-functions c = one_function

pub returns-clause-apart : goal.returns-clause-apart
returns-clause-apart c = variable_no_function

pub returns-clause-no_variable : goal.returns-clause-no_variable
returns-clause-no_variable c = base_no_variable

pub returns-clause-no_function : goal.returns-clause-no_function
returns-clause-no_function c = base_no_function
