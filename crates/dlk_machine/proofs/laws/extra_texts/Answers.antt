use Rattle.dlk_machine.proofs.SomeText.{some_extra}
use Rattle.dlk_machine.proofs.TextLaws.{one_extra_text, extra_or_fault, one_extra_fault, extra_text_well_made}
use Rattle.dlk_machine.proofs.PairSymbols.{extra_text_symbols}
use Rattle.dlk_machine.proofs.laws.extra_texts.Goals as goal

pub returns : goal.returns
returns c = record {
  one = one_extra_text;
  no_fault = extra_or_fault;
  one_fault = one_extra_fault;
  some = some_extra;
  well_made = extra_text_well_made;
  symbols = extra_text_symbols;
}
