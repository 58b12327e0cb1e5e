use Rattle.dlk_tree.specs.declared.op.Sort.TheVariants.{Program}
use Rattle.dlk_machine.specs.Machine.{step}
use Rattle.dlk_reader.specs.Shows.{seen}
use Rattle.dlk_forms.proofs.Steps.{as_programs}
use Rattle.dlk_forms.proofs.expressions.step_program.Goals as goal

pub returns : goal.returns
returns c = λ x h. as_programs c.step_of.new.stack c.step_of.result (step Program x (seen c.args.lexeme)) (c.step_of.ensures x h)
