use Rattle.dlk_elab.proofs.AtomLaws.{one_steps, one_fault, not_both}
use Rattle.dlk_elab.proofs.laws.one_atom.Goals as goal

pub returns-clause-steps : goal.returns-clause-steps
returns-clause-steps c = one_steps c.one_provable.ensures c.one_fault.ensures c.rule_is_its_word_and_arguments.ensures c.word_wants_one_shape.ensures
    c.one_match.ensures
    c.one_innermost.ensures.one c.uses_have_shapes.ensures.one

pub returns-clause-fault : goal.returns-clause-fault
returns-clause-fault c = one_fault c.one_provable.ensures c.one_fault.ensures c.rule_is_its_word_and_arguments.ensures c.word_wants_one_shape.ensures
    c.one_match.ensures
    c.one_innermost.ensures.one c.uses_have_shapes.ensures.one

pub returns-clause-not_both : goal.returns-clause-not_both
returns-clause-not_both c = not_both c.one_provable.ensures c.one_fault.ensures c.rule_is_its_word_and_arguments.ensures c.word_wants_one_shape.ensures
    c.one_match.ensures
    c.one_innermost.ensures.one c.uses_have_shapes.ensures.one
