use Rattle.dlk_tree.specs.declared.op.Sort.{Sort}
use Rattle.dlk_tree.specs.declared.op.Sort.TheVariants.{Program}
use Rattle.std.proofs.Common.{subst}
use Rattle.dlk_machine.specs.Machine.{step}
use Rattle.dlk_reader.specs.Shows.{seen, Agrees}
use Rattle.dlk_forms.specs.Readers.{ShowsOf}
use Rattle.dlk_forms.proofs.Steps.{as_programs, expression_of}
use Rattle.dlk_forms.proofs.expressions.step_tree.Goals as goal

pub returns-in-Of-clause-expression : goal.returns-in-Of-clause-expression
returns-in-Of-clause-expression c = λ x h.
    let s = expression_of c.args.stack.now c.in-Of.sort c.in-Of.mode c.args.place x c.in-Of.is h in
    let a = subst (λ (sort : Sort). Agrees (ShowsOf sort c.step_of.new.stack) c.step_of.result (step sort s.0 (seen c.args.lexeme))) s.2
    (c.step_of.ensures s.0 s.3) in
    rw s.1 (as_programs c.step_of.new.stack c.step_of.result (step Program s.0 (seen c.args.lexeme)) a)
