use Rattle.dlk_machine.proofs.SomeText.{some_sequent}
use Rattle.dlk_machine.proofs.TextLaws.{one_sequent_text, sequent_or_fault, one_sequent_fault, sequent_text_formulas}
use Rattle.dlk_machine.proofs.laws.sequent_texts.Goals as goal

pub returns : goal.returns
returns c = record {
  one = one_sequent_text;
  no_fault = sequent_or_fault;
  one_fault = one_sequent_fault;
  some = some_sequent;
  formulas = sequent_text_formulas;
}
