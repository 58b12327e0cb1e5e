use Rattle.dlk_smt.proofs.Declared.{all_covered, declared_distinct, base_undeclared}
use Rattle.dlk_smt.proofs.laws.declared_once.Goals as goal

pub returns-clause-used : goal.returns-clause-used
returns-clause-used c = all_covered

pub returns-clause-once : goal.returns-clause-once
returns-clause-once c = declared_distinct

pub returns-clause-base : goal.returns-clause-base
returns-clause-base c = base_undeclared
