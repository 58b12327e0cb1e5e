use Rattle.dlk_machine.proofs.SomeText.{some_pairs}
use Rattle.dlk_machine.proofs.TextLaws.{one_pairs_text, pairs_or_fault, one_pairs_fault, pairs_text_well_made}
use Rattle.dlk_machine.proofs.PairSymbols.{pairs_text_symbols}
use Rattle.dlk_machine.proofs.laws.pairs_texts.Goals as goal

pub returns : goal.returns
returns c = record {
  one = one_pairs_text;
  no_fault = pairs_or_fault;
  one_fault = one_pairs_fault;
  some = some_pairs;
  well_made = pairs_text_well_made;
  symbols = pairs_text_symbols;
}
